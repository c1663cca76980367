-- 20 where the table is not formed; else the removal of that volume.
use Rattle.std.proofs.Common.{sym, ◌∙◌}
use Rattle.layout.specs.Records.{volume_bytes}
use Rattle.layout.proofs.LentLaws.{lent_no, unchanged, changed}
use Rattle.volumecalls.proofs.Ends.{delete_is}
use Rattle.volumecalls.proofs.volume_delete.Goals as goal

pub returns-then-not-volumes_formed : goal.returns-then-not-volumes_formed
returns-then-not-volumes_formed c = let whole = unchanged volume_bytes c.args.volumes.now _ 20 (lent_no _ _ (sym c.volumes_formed.ensures ∙ c.if-not-volumes_formed.true)) in
    record { value = whole.0; volumes_after = whole.1 }

pub remove_volume-requires : goal.remove_volume-requires
remove_volume-requires c = (sym c.volumes_formed.ensures ∙ c.if-not-volumes_formed.false)

pub returns : goal.returns
returns c = let whole = changed volume_bytes c.args.volumes.now _ _ _ (delete_is c.args.volumes.now c.args.vid (sym c.volumes_formed.ensures ∙ c.if-not-volumes_formed.false)) c.remove_volume.ensures in
    record { value = whole.0; volumes_after = whole.1 }
