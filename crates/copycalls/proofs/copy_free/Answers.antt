-- One after the other: the first that is in use decides, and else whether the logs are two.
use Rattle.std.proofs.Common.{not, sym, ap, ◌∙◌}
use Rattle.layout.specs.Tables.{volumes_in, commits_in}
use Rattle.rules.proofs.Facts.{id_is}
use Rattle.copycalls.specs.Making.{ids}
use Rattle.copycalls.proofs.Asks.{vid_used, local_used, remote_used, two_logs}
use Rattle.copycalls.proofs.copy_free.Goals as goal

pub returns-then-not-vid_free : goal.returns-then-not-vid_free
returns-then-not-vid_free c = vid_used (volumes_in c.args.volumes.now) (commits_in c.args.commits.now) (ids c.args.vid c.args.local c.args.remote) (sym c.vid_free.ensures ∙ c.if-not-vid_free.true)

pub returns-then-not-log_free : goal.returns-then-not-log_free
returns-then-not-log_free c = local_used (volumes_in c.args.volumes.now) (commits_in c.args.commits.now) (ids c.args.vid c.args.local c.args.remote) (sym c.vid_free.ensures ∙ c.if-not-vid_free.false) (sym c.log_free.ensures ∙ c.if-not-log_free.true)

pub returns-then-not-log_free-2 : goal.returns-then-not-log_free-2
returns-then-not-log_free-2 c = remote_used (volumes_in c.args.volumes.now) (commits_in c.args.commits.now) (ids c.args.vid c.args.local c.args.remote) (sym c.vid_free.ensures ∙ c.if-not-vid_free.false) (sym c.log_free.ensures ∙ c.if-not-log_free.false) (sym c.log_free-2.ensures ∙ c.if-not-log_free-2.true)

pub returns : goal.returns
returns c = ap not (c.same.ensures ∙ id_is c.args.local c.args.remote) ∙ two_logs (volumes_in c.args.volumes.now) (commits_in c.args.commits.now) (ids c.args.vid c.args.local c.args.remote) (sym c.vid_free.ensures ∙ c.if-not-vid_free.false) (sym c.log_free.ensures ∙ c.if-not-log_free.false) (sym c.log_free-2.ensures ∙ c.if-not-log_free-2.false)
