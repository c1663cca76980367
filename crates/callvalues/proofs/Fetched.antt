-- The commit of a fetch: what the builders make, its bytes, which spell it whatever its LSN, and its form where its LSN counts.
use Rattle.std.proofs.Common.{◌≡◌, ℕ, ◌-◌, ◌^◌, ◌<◌, true, List, [], replicate, sym, refl, ap, ◌∙◌, arith, le-leb}
use mathlib.Core.Option.{none, some}
use Rattle.octets.specs.Bytes.{put}
use Rattle.octets.proofs.Places as P
use Rattle.basics.specs.Numbers.{counts, last_lsn, last_page}
use Rattle.basics.specs.declared.lsn.Lsn.{Lsn}
use Rattle.basics.specs.declared.page_count.PageCount.{PageCount}
use Rattle.pageset.specs.declared.PageSet.{PageSet}
use Rattle.pageset.specs.Sets.{shown, normal, normal_form}
use Rattle.rules.specs.Records as R
use Rattle.rules.specs.Lists.{all}
use Rattle.rules.specs.Forms.{id_form, lsn_form, count_form, lasts_from, frames_form, lists_form, segment_form, commit_form}
use Rattle.rules.specs.Arguments.{commit_lsns}
use Rattle.rules.proofs.TableLaws.{and_fst, and_both}
use Rattle.commit.specs.Builders.{new_segment, new_commit, with_segment}
use Rattle.commit.specs.Says.{commit_says}
use Rattle.commit.specs.declared.Presence.TheVariants.{Given}
use Rattle.commit.specs.declared.Commit.{Commit}
use Rattle.layout.specs.Codecs.{Holds, number, optional, listed, pair}
use Rattle.layout.specs.Values.{segment_bytes}
use Rattle.layout.specs.Records.{hash_bytes, log_lsn_bytes, commit_of, commit_parts, commit_bytes}
use Rattle.layout.proofs.HoldLaws as H
use Rattle.layout.proofs.FormHolds.{log_lsn_held, segment_held}
use Rattle.rows.proofs.Tables.{commit_size}
use Rattle.setbytes.proofs.LaidLaws.{laid_says}
use Rattle.commitbytes.specs.Laid.{commit_laid}
use Rattle.commitbytes.proofs.Trips.{commit_says_lem}
use Rattle.callvalues.specs.Values.{fetched}

-- what the builders make
pub made : (log : List ℕ) (lsn : Lsn) (n : PageCount) (sid : List ℕ) (s : PageSet) → normal s ≡ true → (c : Commit)
    → c ≡ with_segment (new_commit log lsn n) Given (new_segment sid s) → c ≡ commit_laid (fetched log lsn.0 n.0 sid (shown s))
made log lsn n sid s e c f =
    f ∙ ap (λ (p : PageSet). with_segment (new_commit log lsn n) Given (new_segment sid p)) (sym (laid_says s e))

-- ---- its bytes

segment_form_lem : (sid : List ℕ) (ws : R.Pages) → id_form sid ≡ true → normal_form ws ≡ true → segment_form (record { sid = sid; pages = ws; frames = [] }) ≡ true
unfolding segment_form lists_form frames_form lasts_from last_lsn
segment_form_lem sid ws i s = and_both i (and_both s refl)

pub fetched_held : (log : List ℕ) (lsn n : ℕ) (sid : List ℕ) (ws : R.Pages) → id_form log ≡ true → lsn < 256 ^ 8 → n < 256 ^ 4 → id_form sid ≡ true → normal_form ws ≡ true
    → Holds commit_bytes (fetched log lsn n sid ws)
unfolding commit_bytes
fetched_held log lsn n sid ws i l m j s =
    let x = fetched log lsn n sid ws in
    let g : R.Segment = record { sid = sid; pages = ws; frames = [] } in
    let lists = listed (number 8) 8 in
    let ends = pair (optional segment_bytes) lists in
    H.viewed_holds (pair log_lsn_bytes (pair (number 4) (pair (optional hash_bytes) ends))) commit_of commit_parts x refl
    (H.pair_holds log_lsn_bytes (pair (number 4) (pair (optional hash_bytes) ends)) (log, lsn) (n, (none, (some g, [])))
    (log_lsn_held log lsn i l)
    (H.pair_holds (number 4) (pair (optional hash_bytes) ends) n (none, (some g, []))
    (H.number_holds 4 n m)
    (H.pair_holds (optional hash_bytes) ends none (some g, [])
    (H.missing_holds hash_bytes)
    (H.pair_holds (optional segment_bytes) lists (some g) []
    (H.there_holds segment_bytes g (segment_held g (segment_form_lem sid ws j s)))
    (H.listed_holds (number 8) 8 [] (omega arith) (omega arith) tt)))))

pub made_laid : (v : R.Commit) (c : Commit) → c ≡ commit_laid v → commit_laid (commit_says c) ≡ c
made_laid v c e = ap commit_laid (ap commit_says e ∙ commit_says_lem v) ∙ sym e

pub made_bytes : (v : R.Commit) (c : Commit) → c ≡ commit_laid v → Holds commit_bytes v → (b : List ℕ) → b ≡ put 0 (commit_bytes.spell (commit_says c)) (replicate 722 0) → b ≡ commit_bytes.spell v
made_bytes v c e h b g =
    g ∙ ap (λ (x : R.Commit). put 0 (commit_bytes.spell x) (replicate 722 0)) (ap commit_says e ∙ commit_says_lem v)
    ∙ P.put_all (commit_bytes.spell v) (replicate 722 0) (h.long ∙ commit_size)

-- a commit whose LSN counts is in form
pub fetched_form : (log : List ℕ) (lsn n : ℕ) (sid : List ℕ) (ws : R.Pages) → id_form log ≡ true → lsn < 256 ^ 8 → n < 256 ^ 4 → id_form sid ≡ true → normal_form ws ≡ true
    → commit_lsns (fetched log lsn n sid ws) ≡ true → commit_form (fetched log lsn n sid ws) ≡ true
unfolding commit_lsns commit_form lsn_form count_form last_lsn last_page all
fetched_form log lsn n sid ws i l m j s e =
    and_both
    (and_both
    (and_both
    (and_both (and_both (and_both i (and_both (and_fst (counts lsn) true e) (le-leb lsn (2 ^ 64 - 1) (omega arith)))) (le-leb n (2 ^ 32 - 1) (omega arith))) refl)
    (segment_form_lem sid ws j s)) refl) refl
