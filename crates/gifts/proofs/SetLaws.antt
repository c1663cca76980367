-- The pages of a commit where they stand in its row, and what no earlier commit took: sets in normal form.
use Rattle.std.specs.Prelude.{◌≡◌, ℕ, ◌+◌, ◌*◌, ◌<◌, Bool, true, false, cond, eqb, List, [], ◌∷◌}
use mathlib.Core.Path.{refl, sym, ap, ◌∙◌}
use mathlib.Core.Option.{Option, none, some}
use native.Mathlib.Omega.{arith}
use Rattle.octets.specs.Bytes.{be, part}
use Rattle.pageset.specs.Sets.{normal_form}
use Rattle.rules.specs.Lists.{is_some}
use Rattle.rules.specs.Records.{Pages, Segment, Commit}
use Rattle.rules.specs.Pages.{masked, minus}
use Rattle.rules.specs.Write.{pages_of}
use Rattle.rules.specs.Walk.{not_taken}
use Rattle.rules.proofs.TableLaws.{clash}
use Rattle.rules.proofs.Write.{set_form}
use Rattle.rules.proofs.PageCounts.{minus_normal}
use Rattle.table.specs.Table.{count_of}
use Rattle.layout.specs.Values.{window_bytes, set_bytes, frame_bytes, frames_bytes, segment_bytes}
use Rattle.layout.specs.Records.{commit_bytes}
use Rattle.layout.specs.Tables.{commits_ok}
use Rattle.layout.proofs.PlaceLaws.{optional_read}
use Rattle.segmentbytes.proofs.SegmentLaws.{segment_at}
use Rattle.commitbytes.proofs.CommitLaws.{commit_at_lem}
use Rattle.rows.proofs.Checks.{row_form_lem}
use Rattle.rows.proofs.Tables.{commits}
use Rattle.commits.specs.Places.{commit_at}

-- ---- the pages of a commit

module _ (t : List ℕ) (ok : commits_ok t ≡ true) (i : ℕ) (l : i < count_of t) where
  pub row_normal : normal_form (pages_of (commit_at t i).segment) ≡ true
  row_normal = set_form (commit_at t i) (row_form_lem commits t ok i l)

-- the set of a row's segment stands at its place
module _ (t : List ℕ) (i at : ℕ) (p : at ≡ 2 + i * 722) where
  picked : (b : Bool) (x : Segment) → is_some (cond b none (some x)) ≡ true → x.pages ≡ pages_of (cond b none (some x))
  picked true x e = absurd (clash e refl)
  picked false x e = refl

  segment_is : (commit_at t i).segment ≡ cond (eqb (be (part (at + 62) 1 t)) 0) none (some (segment_bytes.read (part (at + 62 + 1) 594 t)))
  unfolding segment_bytes set_bytes window_bytes frames_bytes frame_bytes
  segment_is =
      ap (λ (n : ℕ). (commit_bytes.read (part n 722 t)).segment) (sym p)
      ∙ ap (λ (c : Commit). c.segment) (commit_at_lem t at)
      ∙ optional_read t (at + 62) segment_bytes

  pub row_pages : is_some (commit_at t i).segment ≡ true → set_bytes.read (part (at + 79) 385 t) ≡ pages_of (commit_at t i).segment
  row_pages e =
      let b = eqb (be (part (at + 62) 1 t)) 0 in
      let x = segment_bytes.read (part (at + 62 + 1) 594 t) in
      let q : at + 79 ≡ at + 62 + 1 + 16 = omega arith in
      ap (λ (n : ℕ). set_bytes.read (part n 385 t)) q
      ∙ sym (ap (λ (s : Segment). s.pages) (segment_at t (at + 62 + 1)))
      ∙ picked b x (ap (λ (o : Option Segment). is_some o) (sym segment_is) ∙ e)
      ∙ ap pages_of (sym segment_is)

-- ---- what is not taken

pub not_taken_normal : (s : Pages) (cs : List Commit) → normal_form s ≡ true → normal_form (not_taken s cs) ≡ true
not_taken_normal s [] e = e
not_taken_normal s (c ∷ cs) e = minus_normal (not_taken s cs) (pages_of c.segment) (not_taken_normal s cs e)

-- nothing is left of nothing
pub minus_none : (u : Pages) → minus [] u ≡ []
unfolding minus masked
minus_none u = refl
