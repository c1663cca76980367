-- Each check's promise, of a table that begins with two zero bytes.
use Rattle.rules.specs.Forms.{volume_form, tag_form, commit_form, checkpoint_form, entry_form, present_form}
use Rattle.layout.specs.Records.{volume_bytes, tag_bytes, commit_bytes, checkpoint_bytes, entry_bytes, present_bytes}
use Rattle.keeping.proofs.Freshness.{passes, is_exact}
use Rattle.keeping.proofs.fresh.formed.Goals as goal

pub returns : goal.returns
returns c =
    let g = c.args in
    record {
      volumes_value = passes volume_bytes 17 volume_form g.volumes.now _ c.sigatuda_volumes_formed.ensures;
      tags_value = passes tag_bytes 34 tag_form g.tags.now _ c.sigatuda_tags_formed.ensures;
      commits_value = passes commit_bytes 25 commit_form g.commits.now _ c.sigatuda_commits_formed.ensures;
      checkpoints_value = passes checkpoint_bytes 25 checkpoint_form g.checkpoints.now _ c.sigatuda_checkpoints_formed.ensures;
      index_value = passes entry_bytes 29 entry_form g.index.now _ c.sigatuda_index_formed.ensures;
      presence_value = passes present_bytes 21 present_form g.presence.now _ c.sigatuda_presence_formed.ensures;
      exact = is_exact g.commits.now g.index.now;
    }
