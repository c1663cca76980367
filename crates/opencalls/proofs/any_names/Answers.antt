-- The invariant: the volumes from i on decide.
use Rattle.std.proofs.Common.{◌<◌, ◌||◌, sym, refl, ◌∙◌, arith}
use Rattle.rules.specs.Records.{Volume}
use Rattle.rules.specs.Tables.{same_id}
use Rattle.table.specs.Table.{count_of}
use Rattle.rows.proofs.Rows.{formed_two}
use Rattle.rows.proofs.Tables.{volumes}
use Rattle.opencalls.proofs.Ends.{names_here, names_later, names_none}
use Rattle.opencalls.proofs.any_names.Goals as goal

pub count-n-requires : goal.count-n-requires
count-n-requires c = formed_two volumes c.args.volumes.now c.requires

pub loop-i-init : goal.loop-i-init
loop-i-init c = refl

pub volume_at-v-requires : goal.volume_at-v-requires
volume_at-v-requires c = (c.requires, let h : c.loop-i.i < count_of c.args.volumes.now = omega (arith, c.count-n.ensures.0) in h)

pub returns-then-names : goal.returns-then-names
returns-then-names c = names_here c.args.volumes.now (λ (v : Volume). same_id c.args.log v.local || same_id c.args.log v.remote) c.loop-i.i _ c.volume_at-v.ensures (sym c.names.ensures ∙ c.if-names.true) ∙ sym c.loop-i.invariant

pub loop-i-preserved : goal.loop-i-preserved
loop-i-preserved c = c.loop-i.invariant ∙ names_later c.args.volumes.now (λ (v : Volume). same_id c.args.log v.local || same_id c.args.log v.remote) c.loop-i.i _ c.volume_at-v.ensures (sym c.names.ensures ∙ c.if-names.false)

pub returns : goal.returns
returns c = names_none c.args.volumes.now (λ (v : Volume). same_id c.args.log v.local || same_id c.args.log v.remote) c.loop-i.i (omega (arith, c.count-n.ensures.0)) ∙ sym c.loop-i.invariant
