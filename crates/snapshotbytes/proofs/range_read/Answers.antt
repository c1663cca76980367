-- A range is read field by field.
use mathlib.Core.Path.{sym}
use Rattle.snapshotbytes.proofs.Reading.{range_read}
use Rattle.snapshotbytes.proofs.range_read.Goals as goal

pub returns : goal.returns
returns c = rw (c.load_id-log.ensures, c.load64.ensures, c.load64-2.ensures) (sym (range_read c.args.s.now c.args.at))
