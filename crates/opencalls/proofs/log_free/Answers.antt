-- By whether a log was asked, whether its spare is named, and whether it is the other log.
use Rattle.std.proofs.Common.{Bool, not, ◌&&◌, sym, ap, ◌∙◌}
use Rattle.rules.proofs.Facts.{id_is}
use Rattle.rules.specs.Tables.{same_id}
use Rattle.rules.specs.Open.{log_free}
use Rattle.layout.specs.Tables.{volumes_in, commits_in}
use Rattle.opencalls.specs.Opens.{asked_by}
use Rattle.opencalls.proofs.log_free.Goals as goal

pub log_named-requires : goal.log_named-requires
log_named-requires c = c.requires

pub returns-then-log_named : goal.returns-then-log_named
returns-then-log_named c = ap (λ (b : Bool). not b && not (same_id c.args.w.spare c.args.other)) (sym (sym c.log_named.ensures ∙ c.if-log_named.true)) ∙ sym (ap (λ (b : Bool). log_free (volumes_in c.args.volumes.now) (commits_in c.args.commits.now) (asked_by b c.args.w.id) c.args.w.spare c.args.other) c.if-w.false)

pub returns : goal.returns
returns c = ap not (c.same_id.ensures ∙ id_is _ _) ∙ ap (λ (b : Bool). not b && not (same_id c.args.w.spare c.args.other)) (sym (sym c.log_named.ensures ∙ c.if-log_named.false)) ∙ sym (ap (λ (b : Bool). log_free (volumes_in c.args.volumes.now) (commits_in c.args.commits.now) (asked_by b c.args.w.id) c.args.w.spare c.args.other) c.if-w.false)
