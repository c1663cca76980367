-- Demand 3 over the public functions `search` and `walk`. Of search: whatever reply and lent bytes its contract allows, they name the highest commit that holds the page of the earliest range that has one,
-- or nothing just where no stored commit in the ranges holds it. The contract gives the rule's answer, and the rule's answer is the one that demand 3 of the rules speaks of (T1).
-- Of the walk, for a page within the page count and a list that is long enough: its items give the page to exactly the commit that search names, and to none where search finds nothing.
use Rattle.std.proofs.Common.{◌≡◌, ℕ, ◌<◌, ◌≤◌, true, ◌&&◌, leb, List, length, sym, refl, ap, ◌∙◌, inl, inr, arith, ltb-true, leb-false, leb-true}
use mathlib.Core.Option.{Option, none, some}
use Rattle.basics.specs.Answers.{Answer, done, ◌>>=◌}
use Rattle.rules.specs.Records.{Commit, Snapshot}
use Rattle.rules.specs.Arguments.{snapshot_lsns, snapshot_order}
use Rattle.rules.specs.Walk.{walk}
use Rattle.rules.specs.Forms.{commit_form}
use Rattle.rules.specs.Demand.{valid, Demand3, Winner, named}
use Rattle.rules.proofs.TableLaws.{cases, options, and_fst, and_snd, all_at}
use Rattle.rules.proofs.Demand.{demand3}
use Rattle.layout.specs.Records.{commit_bytes}
use Rattle.layout.specs.Tables.{commits_in, commits_ok, index_in, index_ok}
use Rattle.layout.specs.Lent.{lent}
use Rattle.layout.proofs.LentLaws.{lent_yes}
use Rattle.rows.proofs.Rows.{formed_rules, formed_forms}
use Rattle.rows.proofs.Tables as tables
use Rattle.arguments.specs.declared.Reply.{Reply}
use Rattle.arguments.specs.Replies.{none_under, value_or}
use Rattle.resultlists.specs.Lists.{slots_in, list_left}
use Rattle.resultlists.specs.Snapshots.{snapshot_given, on_snapshot}
use Rattle.walkcalls.specs.Items.{item_bytes}
use Rattle.arguments.specs.Snapshots.{snapshot_in}
use Rattle.searchcalls.specs.Searches.{search_in}
use Rattle.demands.specs.Demand3.{Supposed, FoundNothing, Found, Finds, Gives}
use Rattle.searchcalls.proofs.CallLaws.{passed}

module _ (commits index snapshot out : List ℕ) (page : ℕ) (h : Supposed commits index snapshot out page) where
  rule : Demand3 (commits_in commits) (index_in index) (snapshot_in snapshot) page
  rule =
      demand3 (commits_in commits) (index_in index) (snapshot_in snapshot) page (formed_rules tables.commits commits h.commits_formed) (formed_rules tables.index index h.index_formed)
      h.snapshot_valid h.page_counts h.exact

  answered : lent (commits_ok commits && index_ok index) (search_in (commits_in commits) (index_in index) snapshot page out) ≡ done rule.answer
  unfolding valid
  answered =
      let v = h.snapshot_valid in
      let one : snapshot_lsns (snapshot_in snapshot) ≡ true = search (and_fst, and_snd) in
      let two : snapshot_order (snapshot_in snapshot) ≡ true = search (and_fst, and_snd) in
      passed commits index snapshot page out h.commits_formed h.index_formed one (λ z. omega (arith, z, ltb-true 0 page h.page_counts)) two h.snapshot_formed (h.place ∙ (tables.commits).wide)
      ∙ rule.answers

  is_given : snapshot_given snapshot ≡ done (snapshot_in snapshot)
  unfolding snapshot_given valid
  is_given =
      let v = h.snapshot_valid in
      let one : snapshot_lsns (snapshot_in snapshot) ≡ true = search (and_fst, and_snd) in
      let two : snapshot_order (snapshot_in snapshot) ≡ true = search (and_fst, and_snd) in
      rw (one, two, h.snapshot_formed) refl

  -- `left` is a reply and lent bytes that the contract of `search` allows
  module _ (left : Reply × List ℕ) (contract : left ≡ value_or commit_bytes.spell out (lent (commits_ok commits && index_ok index) (search_in (commits_in commits) (index_in index) snapshot page out))) where
    by_answer : (o : Option Commit) → rule.answer ≡ o → left ≡ value_or commit_bytes.spell out (done o)
    by_answer o e = contract ∙ ap (value_or commit_bytes.spell out) (answered ∙ ap {B = Answer (Option Commit)} done e)

    no_answer : FoundNothing out left → rule.answer ≡ none
    no_answer n =
        options rule.answer (λ e. e)
        (λ c e. let k : 0 ≡ 1 = ap (λ (x : Reply × List ℕ). x.0.found) (sym n ∙ by_answer (some c) e) in absurd (omega (arith, k)))

    -- a stored commit is the one that its bytes spell
    own_bytes : (c : Commit) → Winner (commits_in commits) page (snapshot_in snapshot).path c → commit_bytes.read (commit_bytes.spell c) ≡ c
    own_bytes c w = ((tables.commits).holds c (all_at commit_form (commits_in commits).rows (formed_forms tables.commits commits h.commits_formed) w.holder.stored)).back

    one_answer : (c : Commit) → Winner (commits_in commits) page (snapshot_in snapshot).path c → Found c left → rule.answer ≡ some c
    one_answer c w f =
        options rule.answer
        (λ e. let k : 1 ≡ 0 = ap (λ (x : Reply × List ℕ). x.0.found) (sym f ∙ by_answer none e) in absurd (omega (arith, k)))
        (λ d e. e ∙ ap {B = Option Commit} some (sym (own_bytes d (rule.winner d e)) ∙ ap (λ (x : Reply × List ℕ). commit_bytes.read x.1) (sym (by_answer (some d) e) ∙ f) ∙ own_bytes c w))

    pub search_finds : Finds (commits_in commits) (snapshot_in snapshot).path page out left
    search_finds = record {
      nothing = (λ n. rule.nothing.0 (no_answer n), λ n. by_answer none (rule.nothing.1 n));
      otherwise = options rule.answer (λ e. inl (by_answer none e)) (λ c e. inr (c, rule.winner c e, by_answer (some c) e));
    }

    -- `walked` is a reply, a list and a number that the contract of `walk` allows
    module _ (list : List ℕ) (items : ℕ) (walked : Reply × (List ℕ × ℕ))
        (walk_contract : walked ≡ list_left item_bytes list items (lent (commits_ok commits) (on_snapshot snapshot (walk (commits_in commits) (slots_in item_bytes list)))))
        (within : page ≤ (snapshot_in snapshot).count) (long_enough : walked.0 ≡ none_under 19 → ⊥) where
      by_rule : walked ≡ list_left item_bytes list items (walk (commits_in commits) (slots_in item_bytes list) (snapshot_in snapshot))
      by_rule = walk_contract ∙ ap (list_left item_bytes list items) (lent_yes (commits_ok commits) _ h.commits_formed ∙ on_valid)
        where
          on_valid : on_snapshot snapshot (walk (commits_in commits) (slots_in item_bytes list)) ≡ walk (commits_in commits) (slots_in item_bytes list) (snapshot_in snapshot)
          on_valid = ap (λ (a : Answer Snapshot). a >>= walk (commits_in commits) (slots_in item_bytes list)) is_given

      fits_list : length rule.items ≤ slots_in item_bytes list
      fits_list =
          cases (leb (length rule.items) (slots_in item_bytes list)) (λ q. leb-true (length rule.items) (slots_in item_bytes list) q)
          (λ q. absurd (long_enough (ap (λ (x : Reply × (List ℕ × ℕ)). x.0) (by_rule ∙ ap (list_left item_bytes list items) (rule.short (slots_in item_bytes list) (leb-false (length rule.items) (slots_in item_bytes list) q))))))

      pub walk_gives : Gives (commits_in commits) (snapshot_in snapshot).path page list walked out left
      walk_gives = record {
        items = rule.items;
        listed = by_rule ∙ ap (list_left item_bytes list items) (rule.walked (slots_in item_bytes list) fits_list);
        to_none = λ n. rule.gives within ∙ ap named (no_answer n);
        to_one = λ c w f. rule.gives within ∙ ap named (one_answer c w f);
      }
