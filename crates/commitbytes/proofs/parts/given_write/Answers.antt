-- The flag and the segment stand side by side; a segment that is missing is zeros. Assumes nothing.
use Rattle.std.proofs.Common.{ℕ, ap, ◌∙◌, arith, rules}
use Rattle.octets.specs.Bytes.{bytes_of, put}
use Rattle.commit.specs.Says.{segment_says}
use Rattle.layout.specs.Values.{window_bytes, set_bytes, frame_bytes, frames_bytes, segment_bytes}
use Rattle.commitbytes.proofs.PartLaws.{given_stored, segment_long, segment_laid_lem, segment_zero}
use Rattle.commitbytes.proofs.parts.given_write.Goals as goal

pub segment_write-requires : goal.segment_write-requires
segment_write-requires c = record { at_in_bounds = search rules; x_value = segment_laid_lem c.args.has c.args.x c.requires.x_value }

pub returns : goal.returns
unfolding frame_bytes frames_bytes segment_bytes set_bytes window_bytes
returns c =
    given_stored segment_bytes c.args.at c.args.has (segment_says c.args.x) c.args.s.now _ _ (segment_long c.args.x _ c.well_formed.1.1.1.0)
    (segment_zero c.args.has c.args.x c.requires.x_value) (omega arith)
    (c.store8.ensures ∙ ap (λ (n : ℕ). put c.args.at (bytes_of 1 n) c.args.s.now) c.flag-f.ensures) c.segment_write.ensures
