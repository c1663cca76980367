-- The windows that stand at the set's place are the pages of the record.
use mathlib.Core.Path.{sym, ap, ◌∙◌}
use Rattle.octets.specs.Bytes.{put}
use Rattle.rules.specs.Records.{Pages}
use Rattle.layout.specs.Values.{set_bytes}
use Rattle.masks.specs.Masks.{given}
use Rattle.gifts.proofs.ApartLaws.{stand}
use Rattle.gifts.proofs.put_gift.Goals as goal

pub returns : goal.returns
returns c =
    let r = c.row-at in
    let n = c.count_read-n in
    c.put_given.ensures ∙ ap (λ (ws : Pages). put c.args.to (set_bytes.spell (given ws c.args.left.now)) c.args.list.now) (sym (stand c.args.commits.now c.requires.commits_value.0 c.args.i c.requires.commits_value.1 r.result r.ensures.0 r.ensures.1 c.requires.commits_value.2 n.result n.ensures 0 0))
