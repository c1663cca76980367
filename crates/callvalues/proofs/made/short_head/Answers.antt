-- A head that is missing, or its last byte and its LSN.
use Rattle.callvalues.proofs.made.short_head.Goals as goal

pub returns-in_default : goal.returns-in_default
returns-in_default c = rw c.in_default.is

pub returns : goal.returns
returns c = rw c.in-Some.is
