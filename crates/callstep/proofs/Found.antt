-- What a search finds: a stored commit, so its bytes spell it. The ends of op=find, by the reply.
use Rattle.std.proofs.Common.{◌≡◌, ℕ, Bool, true, false, ◌&&◌, eqb, List, [], ◌∷◌, length, replicate, sym, refl, ap, ◌∙◌, arith}
use mathlib.Core.Option.{Option, none, some}
use Rattle.basics.specs.Answers.{Answer, refused, done, code, ask, need, ◌>>=◌, ◌>>◌}
use Rattle.basics.specs.Numbers.{counts}
use Rattle.basics.specs.Orders.{log_lsn}
use Rattle.basics.proofs.OrderLaws.{log_lsn_lawful}
use Rattle.rules.specs.Records.{Commit, Entry, Range, commit_key}
use Rattle.rules.specs.Forms.{commit_form}
use Rattle.rules.specs.Lists.{first}
use Rattle.rules.specs.Tables.{Table, commits_formed, index_formed, get_commit}
use Rattle.rules.specs.Arguments.{snapshot_lsns, snapshot_order, snapshot_form}
use Rattle.rules.specs.Search.{entry_in, found_by, search_path, search_page}
use Rattle.rules.proofs.TableLaws.{cases, option_same, and_fst, and_snd, formed_rows, Rows}
use Rattle.rules.proofs.AnswerLaws.{done_same, refused_done, asked, needed}
use Rattle.rules.proofs.Kept.{commit_form_lem}
use Rattle.layout.specs.Records.{commit_bytes}
use Rattle.layout.specs.Tables.{commits_in, commits_ok, index_in, index_ok}
use Rattle.layout.specs.Lent.{lent}
use Rattle.layout.proofs.FormHolds.{commit_held}
use Rattle.layout.proofs.LentLaws.{lent_no, lent_yes}
use Rattle.arguments.specs.declared.Reply.{Reply}
use Rattle.arguments.specs.Replies.{none_under, given, value_or}
use Rattle.arguments.specs.Snapshots.{snapshot_in, snapshot_formed}
use Rattle.searchcalls.specs.Searches.{search_in}
use Rattle.callvalues.specs.Slots.{is_set, held}
use Rattle.callvalues.specs.Values.{commit_head}
use Rattle.callstep.specs.Steps.{find_on, found_head}

-- ---- a commit that is found is stored, and so in form

abbrev Good : Table Commit → Type 0
Good cs = Rows commit_key log_lsn log_lsn_lawful commit_form cs.rows

by_entry : (cs : Table Commit) (o : Option Entry) (later : Answer (Option Commit)) (c : Commit) → Good cs → (later ≡ done (some c) → commit_form c ≡ true) → found_by cs o later ≡ done (some c)
    → commit_form c ≡ true
by_entry cs none later c k past e = past e
by_entry cs (some x) later c k past e =
    needed (get_commit cs x.log x.lsn) 21 _ e λ d is e1.
    ap commit_form (sym (option_same (done_same e1))) ∙ commit_form_lem cs x.log x.lsn d k is

on_path : (cs : Table Commit) (es : Table Entry) (p : ℕ) (rs : List Range) (c : Commit) → Good cs → search_path cs es p rs ≡ done (some c) → commit_form c ≡ true
on_path cs es p [] c k e = absurd (let z : ◌≡◌ {A = ℕ} 0 1 = cc in omega arith)
on_path cs es p (r ∷ rs) c k e = by_entry cs (first (entry_in r p) es.rows) (search_path cs es p rs) c k (on_path cs es p rs c k) e

in_bytes : (cs : Table Commit) (es : Table Entry) (b : List ℕ) (p : ℕ) (out : List ℕ) (c : Commit) → search_in cs es b p out ≡ done (some c) → commit_form c ≡ true
unfolding search_in search_page
in_bytes cs es b p out c e =
    asked (snapshot_lsns (snapshot_in b) && counts p) 1 _ e λ a1 e1.
    asked (snapshot_order (snapshot_in b)) 2 _ e1 λ a2 e2.
    asked (snapshot_formed b) 3 _ e2 λ a3 e3.
    asked (eqb (length out) commit_bytes.size) 3 _ e3 λ a4 e4.
    asked (commits_formed cs && index_formed es) 20 _ e4 λ a5 e5.
    asked (snapshot_lsns (snapshot_in b) && counts p) 1 _ e5 λ a6 e6.
    asked (snapshot_order (snapshot_in b)) 2 _ e6 λ a7 e7.
    asked (snapshot_form (snapshot_in b)) 3 _ e7 λ a8 e8.
    on_path cs es p (snapshot_in b).path c (formed_rows commit_key log_lsn log_lsn_lawful commit_form cs (and_fst (commits_formed cs) (index_formed es) a5)) e8

-- on lent bytes
abbrev searched : (t u b : List ℕ) (p : ℕ) → Answer (Option Commit)
searched t u b p = lent (commits_ok t && index_ok u) (search_in (commits_in t) (index_in u) b p (replicate 722 0))

found_form : (t u b : List ℕ) (p : ℕ) (c : Commit) → searched t u b p ≡ done (some c) → commit_form c ≡ true
found_form t u b p c e =
    cases (commits_ok t && index_ok u)
    (λ ok. in_bytes (commits_in t) (index_in u) b p (replicate 722 0) c (sym (lent_yes (commits_ok t && index_ok u) (search_in (commits_in t) (index_in u) b p (replicate 722 0)) ok) ∙ e))
    (λ no. refused_done (sym (lent_no (commits_ok t && index_ok u) (search_in (commits_in t) (index_in u) b p (replicate 722 0)) no) ∙ e))

-- ---- the ends

abbrev Prints : Answer (Option Commit) → ℕ → Option (ℕ × ℕ) → Type 0
Prints q n h = ◌≡◌ {A = ℕ × Option (ℕ × ℕ)} (n, h) (code q, found_head q)

-- nothing found
none_found : (q : Answer (Option Commit)) (r : Reply) (out : List ℕ) → ◌≡◌ {A = Reply × List ℕ} (r, out) (value_or commit_bytes.spell (replicate 722 0) q) → r.found ≡ 0 → Prints q r.code none
none_found (refused n) r out e z = ap (λ (x : Reply × List ℕ). (x.0.code, none)) e
none_found (done none) r out e z = ap (λ (x : Reply × List ℕ). (x.0.code, none)) e
none_found (done (some c)) r out e z = absurd (let f : r.found ≡ 1 = ap (λ (x : Reply × List ℕ). x.0.found) e in omega arith)

-- a commit found
some_found : (q : Answer (Option Commit)) (r : Reply) (out : List ℕ) → ((c : Commit) → q ≡ done (some c) → commit_form c ≡ true)
    → ◌≡◌ {A = Reply × List ℕ} (r, out) (value_or commit_bytes.spell (replicate 722 0) q) → (r.found ≡ 0 → ⊥) → (h : Option (ℕ × ℕ)) → h ≡ commit_head (some (commit_bytes.read out)) → Prints q 0 h
some_found (refused n) r out f e z h k = absurd (z (ap (λ (x : Reply × List ℕ). x.0.found) e))
some_found (done none) r out f e z h k = absurd (z (ap (λ (x : Reply × List ℕ). x.0.found) e))
some_found (done (some c)) r out f e z h k =
    let o : out ≡ commit_bytes.spell c = ap (λ (x : Reply × List ℕ). x.1) e in
    ap (λ (x : Option (ℕ × ℕ)). (0, x))
    (k ∙ ap (λ (x : List ℕ). commit_head (some (commit_bytes.read x))) o ∙ ap (λ (x : Commit). commit_head (some x)) (commit_held c (f c refl)).back)

module _ (t u slots : List ℕ) (slot page : ℕ) where
  -- an unset slot
  pub unset : is_set slots slot ≡ false → Prints (find_on t u slots slot page) 24 none
  unfolding find_on
  unset e = rw e

  module _ (set : is_set slots slot ≡ true) (b : List ℕ) (is : b ≡ held slots slot) where
    find_is : searched t u b page ≡ find_on t u slots slot page
    unfolding find_on
    find_is = rw (set, ← is)

    module _ (r : Reply) (out : List ℕ) (e : ◌≡◌ {A = Reply × List ℕ} (r, out) (value_or commit_bytes.spell (replicate 722 0) (searched t u b page))) where
      pub no_commit : r.found ≡ 0 → Prints (find_on t u slots slot page) r.code none
      no_commit z = rw (← find_is) (none_found (searched t u b page) r out e z)

      pub a_commit : (r.found ≡ 0 → ⊥) → (h : Option (ℕ × ℕ)) → h ≡ commit_head (some (commit_bytes.read out)) → Prints (find_on t u slots slot page) 0 h
      a_commit z h k = rw (← find_is) (some_found (searched t u b page) r out (found_form t u b page) e z h k)
