-- What the type of a commit tells: how long its arrays are.
use Rattle.std.proofs.Common.{◌≡◌, List, length, sym, ◌∙◌}
use mir.Val.{Val}
use denote.Laws.{Is}
use denote.Struct.Declared.{row}
use lib.ListN.{length-map}
use Rattle.commit.specs.declared.Commit.{Commit}
use Rattle.commit.specs.Says.{segment_says}
use Rattle.commit.specs.contracts.Commit.{the_type}
use Rattle.layout.specs.Codecs.{Codec}
use Rattle.layout.specs.Values.{segment_bytes}
use Rattle.commitbytes.proofs.PartLaws.{segment_long}

module _ (x : Commit) (vs : List Val) (g : Is (row the_type) x vs) where
  pub log_16 : length x.log ≡ 16
  log_16 = g.1.1.0.1.0.1

  pub hash_32 : length x.hash ≡ 32
  hash_32 = g.1.1.1.1.1.1.0.1.0.1

  pub segment_594 : length (segment_bytes.spell (segment_says x.segment)) ≡ 594
  segment_594 = segment_long x.segment _ g.1.1.1.1.1.1.1.1.0

  pub checkpoints_8 : length x.checkpoints ≡ 8
  checkpoints_8 = g.1.1.1.1.1.1.1.1.1.1.0.1.0.1
