-- What the answer of the call that reads a volume says: document 01's number, or the volume under 0.
use Rattle.std.specs.Prelude.{Result, Ok, Err}
use Rattle.basics.specs.Answers.{Answer, refused, done}
use Rattle.basics.specs.Refusals.{number_of}
use Rattle.basics.specs.declared.refusal.Refusal.{Refusal}
use Rattle.rules.specs.Records as rules
use Rattle.volume.specs.Volumes.{volume_says}
use Rattle.volume.specs.declared.volume.Volume.{Volume}

abbrev pub read_says : Result Volume Refusal → Answer rules.Volume
read_says (Err r) = refused (number_of r)
read_says (Ok v) = done (volume_says v)
