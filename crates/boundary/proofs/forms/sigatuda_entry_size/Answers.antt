-- Each list has its size, and no other number has one. Assumes nothing.
use Rattle.boundary.proofs.FormatLaws.{entry_at, entry_past, above_five}
use Rattle.boundary.proofs.forms.sigatuda_entry_size.Goals as goal

pub returns-in-0 : goal.returns-in-0
returns-in-0 c = entry_at _ 0 c.in-0.is

pub returns-in-1 : goal.returns-in-1
returns-in-1 c = entry_at _ 1 c.in-1.is

pub returns-in-2 : goal.returns-in-2
returns-in-2 c = entry_at _ 2 c.in-2.is

pub returns-in-3 : goal.returns-in-3
returns-in-3 c = entry_at _ 3 c.in-3.is

pub returns-in-4 : goal.returns-in-4
returns-in-4 c = entry_at _ 4 c.in-4.is

pub returns-in-5 : goal.returns-in-5
returns-in-5 c = entry_at _ 5 c.in-5.is

pub returns-in-6 : goal.returns-in-6
returns-in-6 c = entry_at _ 6 c.in-6.is

pub returns-in_default : goal.returns-in_default
returns-in_default c =
    let others = c.in_default.in_default-own.rest in
    let above = above_five _ others.0.0.0.0.0.0.1 others.0.0.0.0.0.1 others.0.0.0.0.1 others.0.0.0.1 others.0.0.1 others.0.1 in
    entry_past _ above others.1
