-- Each table has its size, and no other number has one. Assumes nothing.
use Rattle.std.proofs.Common.{arith}
use Rattle.boundary.proofs.FormatLaws.{size_at, size_past}
use Rattle.boundary.proofs.forms.sigatuda_record_size.Goals as goal

pub returns-in-0 : goal.returns-in-0
returns-in-0 c = size_at _ 0 c.in-0.is

pub returns-in-1 : goal.returns-in-1
returns-in-1 c = size_at _ 1 c.in-1.is

pub returns-in-2 : goal.returns-in-2
returns-in-2 c = size_at _ 2 c.in-2.is

pub returns-in-3 : goal.returns-in-3
returns-in-3 c = size_at _ 3 c.in-3.is

pub returns-in-4 : goal.returns-in-4
returns-in-4 c = size_at _ 4 c.in-4.is

pub returns-in-5 : goal.returns-in-5
returns-in-5 c = size_at _ 5 c.in-5.is

pub returns-in_default : goal.returns-in_default
returns-in_default c = size_past _ (omega arith)
