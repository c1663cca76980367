-- What a commit in bytes adds, read field by field: the fields are those of the commit that all its bytes spell, so the rows that are counted and put in are
-- those of the rules. What a commit in form adds is in form, so `rows` (`News`) carries room and stores over.
use Rattle.std.proofs.Common.{◌≡◌, ℕ, ◌≤◌, true, List, map, length, sym, ap, ◌∙◌, ap₂, arith, leb-true}
use mathlib.Core.Option.{Option, none, some}
use Rattle.octets.specs.Bytes.{be, part}
use Rattle.octets.proofs.Places.{part_whole}
use Rattle.basics.specs.declared.lsn.Lsn.{Lsn}
use Rattle.pageset.specs.Sets.{normal, shown}
use Rattle.pageset.specs.Says.{empty_set}
use Rattle.pageset.specs.declared.PageSet.{PageSet}
use Rattle.rules.specs.Records.{Segment, Commit}
use Rattle.rules.specs.Forms.{commit_form}
use Rattle.rules.specs.Write.{pages_of, checkpoints_of, entries_of}
use Rattle.rules.proofs.TableLaws.{and_fst, and_snd}
use Rattle.rules.proofs.Write.{set_form}
use Rattle.table.specs.Table.{recs}
use Rattle.batch.specs.Batch as Many
use Rattle.layout.specs.Codecs.{listed, number}
use Rattle.layout.specs.Values.{set_bytes, segment_bytes}
use Rattle.layout.specs.Records.{checkpoint_bytes, entry_bytes, commit_bytes}
use Rattle.layout.proofs.HoldLaws.{in_form_lem}
use Rattle.setbytes.specs.Laid.{set_laid}
use Rattle.setbytes.proofs.LaidLaws.{says_laid, laid_normal}
use Rattle.segmentbytes.proofs.SegmentLaws.{segment_at}
use Rattle.commitbytes.specs.Laid.{lsns_laid}
use Rattle.commitbytes.proofs.LsnLaws.{says_lsns}
use Rattle.commitbytes.proofs.CommitLaws.{commit_at_lem, segment_none, segment_there}
use Rattle.indexing.specs.Rows as I
use Rattle.writecalls.specs.Written.{IsCommit, commit_in, fresh_in}

-- ---- forms of what a commit adds

few_lsns : (c : Commit) → commit_form c ≡ true → length c.checkpoints ≤ 8
unfolding commit_form
few_lsns c e = leb-true (length c.checkpoints) 8 (search (and_fst, and_snd))

module _ (b : List ℕ) (ok : IsCommit b) where
  -- a commit's bytes are all of its slice
  pub whole : part 0 722 b ≡ b
  whole = part_whole 722 b ok.0

  -- its pages: none where the segment is missing, else they stand in it, behind its identifier
  pages_are : (o : Option Segment) → (commit_in (part 0 722 b)).segment ≡ o → set_laid (pages_of o) ≡ set_laid (pages_of (commit_in b).segment)
  pages_are o e = ap (λ (x : Option Segment). set_laid (pages_of x)) (sym e ∙ ap (λ (x : List ℕ). (commit_in x).segment) whole)

  pub no_pages : be (part 62 1 b) ≡ 0 → empty_set ≡ set_laid (pages_of (commit_in b).segment)
  no_pages e = pages_are none (segment_none b 0 e)

  pub pages_there : (be (part 62 1 b) ≡ 0 → ⊥) → set_laid (set_bytes.read (part 79 385 b)) ≡ set_laid (pages_of (commit_in b).segment)
  pages_there e =
      ap (λ (s : Segment). set_laid s.pages) (sym (segment_at b 63)) ∙ pages_are (some (segment_bytes.read (part 63 594 b))) (segment_there b 0 e)

  pub is_form : commit_form (commit_in b) ≡ true
  is_form = (in_form_lem commit_bytes commit_form b ok.1).1

  -- the LSNs that it lists
  lists_are : (listed (number 8) 8).read (part 657 65 b) ≡ (commit_in b).checkpoints
  lists_are = sym (ap (λ (c : Commit). c.checkpoints) (commit_at_lem b 0)) ∙ ap (λ (x : List ℕ). (commit_in x).checkpoints) whole

  module _ (n : ℕ) (ns : List Lsn) (en : n ≡ length ((listed (number 8) 8).read (part 657 65 b))) (es : ns ≡ lsns_laid ((listed (number 8) 8).read (part 657 65 b))) where
    pub few : n ≤ 8
    few = omega (arith, en, ap (λ (x : List ℕ). length x) lists_are, few_lsns (commit_in b) is_form)

    listed_are : I.listed ns n ≡ (commit_in b).checkpoints
    listed_are = ap (λ (x : List Lsn). I.listed x n) es ∙ says_lsns ((listed (number 8) 8).read (part 657 65 b)) n (sym en) ∙ lists_are

    module _ (log : List ℕ) (el : log ≡ (commit_in (part 0 722 b)).log) where
      -- the rows of its checkpoints
      pub checkpoint_rows_lem : I.checkpoint_rows log (I.listed ns n) ≡ map checkpoint_bytes.spell (checkpoints_of (commit_in b))
      checkpoint_rows_lem = ap₂ I.checkpoint_rows (el ∙ ap (λ (x : List ℕ). (commit_in x).log) whole) listed_are

  module _ (set : PageSet) (es : set ≡ set_laid (pages_of (commit_in b).segment)) where
    pub set_normal : normal set ≡ true
    set_normal = ap normal es ∙ laid_normal (pages_of (commit_in b).segment) (set_form (commit_in b) is_form)

    module _ (log : List ℕ) (el : log ≡ (commit_in (part 0 722 b)).log) (lsn : ℕ) (en : lsn ≡ (commit_in (part 0 722 b)).lsn) where
      -- the rows of its index entries
      pub entry_rows_lem : I.entry_rows log lsn (shown set) ≡ map entry_bytes.spell (entries_of (commit_in b))
      entry_rows_lem =
          ap (λ (s : PageSet). I.entry_rows log lsn (shown s)) es
          ∙ ap (I.entry_rows log lsn) (says_laid (pages_of (commit_in b).segment))
          ∙ ap₂ (λ (g : List ℕ) (n : ℕ). I.entry_rows g n (pages_of (commit_in b).segment)) (el ∙ ap (λ (x : List ℕ). (commit_in x).log) whole) (en ∙ ap (λ (x : List ℕ). (commit_in x).lsn) whole)

      -- those that are new
      pub fresh_is : (t : List ℕ) → Many.news 29 (I.entry_rows log lsn (shown set)) (recs 29 t) ≡ fresh_in t (commit_in b)
      fresh_is t = ap (λ (rs : List (List ℕ)). Many.news 29 rs (recs 29 t)) entry_rows_lem
