-- What was made is laid out, so its bytes are those of the rules' commit; they fill what is lent.
use Rattle.std.proofs.Common.{◌≡◌, ◌-◌, ◌^◌, ◌≤◌, true, get_or, arith, w8, w32, Fits, rules, le-leb}
use Rattle.basics.specs.Numbers.{last_page}
use Rattle.pageset.specs.Sets.{shown}
use Rattle.rules.specs.Records.{Commit}
use Rattle.rules.specs.Forms.{count_form, commit_form}
use Rattle.rules.specs.Save.{saved_commit}
use Rattle.volume.specs.Volumes.{volume_says}
use Rattle.pageset.proofs.FormLaws.{shown_form}
use Rattle.rules.proofs.Kept.{saved_form}
use Rattle.layout.proofs.PlaceLaws.{id_form_lem}
use Rattle.saves.proofs.Made.{made_laid, made_bytes}
use Rattle.saves.proofs.write_saved.Goals as goal

pub commit_write-requires : goal.commit_write-requires
commit_write-requires c =
    let saved : Commit = saved_commit (volume_says c.args.v) c.args.lsn.0 c.args.count.0 c.args.sid (shown c.args.set) in
    record { at_in_bounds = omega (arith, c.requires.bytes_len); x_value = made_laid (saved) c.commit_made-c.result c.commit_made-c.ensures }

pub returns : goal.returns
unfolding count_form last_page
returns c =
    let saved : Commit = saved_commit (volume_says c.args.v) c.args.lsn.0 c.args.count.0 c.args.sid (shown c.args.set) in
    let formed : commit_form (saved) ≡ true = let n : Fits w32 c.args.count.0 = search rules in
    let few : c.args.count.0 ≤ 2 ^ 32 - 1 = omega (arith, n.fits) in
    saved_form (volume_says c.args.v) c.args.lsn.0 c.args.count.0 c.args.sid (shown c.args.set) c.requires.v_value.0 c.requires.v_value.1 (le-leb c.args.count.0 (2 ^ 32 - 1) few)
    (id_form_lem c.args.sid (search rules) (λ j. let f : Fits w8 (get_or c.args.sid j 0) = search rules in f.fits)) (shown_form c.args.set c.requires.v_value.2) in
    let m = c.commit_made-c in record { bytes_after = made_bytes (saved) m.result m.ensures (formed) c.args.bytes.now c.requires.bytes_len _ c.commit_write.ensures; set_value = formed }
