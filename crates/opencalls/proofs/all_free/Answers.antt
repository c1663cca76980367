-- The first that is not free decides.
use Rattle.std.proofs.Common.{sym, ap, ◌∙◌}
use Rattle.rules.specs.Open.{or_spare, vid_free, log_free}
use Rattle.layout.specs.Tables.{volumes_in, commits_in}
use Rattle.opencalls.specs.Opens.{asked_says}
use Rattle.opencalls.proofs.Ends.{first_no, second_no, third_is}
use Rattle.opencalls.proofs.all_free.Goals as goal

pub vid_free-requires : goal.vid_free-requires
vid_free-requires c = c.requires.0

pub returns-then-not-vid_free : goal.returns-then-not-vid_free
returns-then-not-vid_free c = first_no (vid_free (volumes_in c.args.volumes.now) (asked_says c.args.vid) c.args.vid.spare) (log_free (volumes_in c.args.volumes.now) (commits_in c.args.commits.now) (asked_says c.args.local) c.args.local.spare (or_spare (asked_says c.args.remote) c.args.remote.spare)) (log_free (volumes_in c.args.volumes.now) (commits_in c.args.commits.now) (asked_says c.args.remote) c.args.remote.spare (or_spare (asked_says c.args.local) c.args.local.spare)) (sym c.vid_free.ensures ∙ c.if-not-vid_free.true)

pub log_free-requires : goal.log_free-requires
log_free-requires c = c.requires

pub returns-then-not-log_free : goal.returns-then-not-log_free
returns-then-not-log_free c = second_no (vid_free (volumes_in c.args.volumes.now) (asked_says c.args.vid) c.args.vid.spare) (log_free (volumes_in c.args.volumes.now) (commits_in c.args.commits.now) (asked_says c.args.local) c.args.local.spare (or_spare (asked_says c.args.remote) c.args.remote.spare)) (log_free (volumes_in c.args.volumes.now) (commits_in c.args.commits.now) (asked_says c.args.remote) c.args.remote.spare (or_spare (asked_says c.args.local) c.args.local.spare)) (sym c.vid_free.ensures ∙ c.if-not-vid_free.false) (sym (c.log_free.ensures ∙ ap (log_free (volumes_in c.args.volumes.now) (commits_in c.args.commits.now) (asked_says c.args.local) c.args.local.spare) c.chosen-there.ensures) ∙ c.if-not-log_free.true)

pub log_free-requires-2 : goal.log_free-requires-2
log_free-requires-2 c = c.requires

pub returns : goal.returns
returns c = third_is (vid_free (volumes_in c.args.volumes.now) (asked_says c.args.vid) c.args.vid.spare) (log_free (volumes_in c.args.volumes.now) (commits_in c.args.commits.now) (asked_says c.args.local) c.args.local.spare (or_spare (asked_says c.args.remote) c.args.remote.spare)) (log_free (volumes_in c.args.volumes.now) (commits_in c.args.commits.now) (asked_says c.args.remote) c.args.remote.spare (or_spare (asked_says c.args.local) c.args.local.spare)) (sym c.vid_free.ensures ∙ c.if-not-vid_free.false) (sym (c.log_free.ensures ∙ ap (log_free (volumes_in c.args.volumes.now) (commits_in c.args.commits.now) (asked_says c.args.local) c.args.local.spare) c.chosen-there.ensures) ∙ c.if-not-log_free.false) _ (c.log_free-2.ensures ∙ ap (log_free (volumes_in c.args.volumes.now) (commits_in c.args.commits.now) (asked_says c.args.remote) c.args.remote.spare) c.chosen-here.ensures)
