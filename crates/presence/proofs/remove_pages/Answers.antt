-- The pages are the run between their keys; where it is empty the table stays.
use Rattle.std.proofs.Common.{◌≡◌, ◌^◌, ◌<◌, length, ◌∙◌, arith, w32, Fits, rules}
use Rattle.rows.proofs.Rows.{formed_well}
use Rattle.rows.proofs.Tables.{presence}
use Rattle.table.proofs.Checks.{well_room}
use Rattle.presence.proofs.PresentLaws.{names, none_goes, run_goes}
use Rattle.presence.proofs.remove_pages.Goals as goal

pub between-run-requires : goal.between-run-requires
between-run-requires c = record { stride_nonzero = search rules; t_value = formed_well presence c.args.t.now c.requires }

pub returns-then-to-from : goal.returns-then-to-from
returns-then-to-from c =
    let long : length c.args.sid ≡ 16 = search rules in
    let last_small : c.args.last.0 < 256 ^ 4 = let f : Fits w32 c.args.last.0 = search rules in f.fits in
    let first_small : c.args.first.0 < 256 ^ 4 = let f : Fits w32 c.args.first.0 = search rules in f.fits in
    none_goes c.args.t.now c.requires _ _ c.args.sid c.args.first.0 c.args.last.0 (names _ c.args.sid c.args.last.0 (long) (last_small) c.present_key-from_key.ensures) (names _ c.args.sid c.args.first.0 (long) (first_small) c.present_key-to_key.ensures) _ _ c.between-run.ensures (λ j. (c.slice_known-1.given j).fits) c.if-to-from.true

pub remove_run-requires : goal.remove_run-requires
remove_run-requires c = (omega (arith, c.if-to-from.false), c.between-run.ensures.inside.1, well_room 21 21 c.args.t.now (omega arith) (formed_well presence c.args.t.now c.requires))

pub returns : goal.returns
returns c =
    let long : length c.args.sid ≡ 16 = search rules in
    let last_small : c.args.last.0 < 256 ^ 4 = let f : Fits w32 c.args.last.0 = search rules in f.fits in
    let first_small : c.args.first.0 < 256 ^ 4 = let f : Fits w32 c.args.first.0 = search rules in f.fits in
    c.remove_run.ensures ∙ run_goes c.args.t.now c.requires _ _ c.args.sid c.args.first.0 c.args.last.0 (names _ c.args.sid c.args.last.0 (long) (last_small) c.present_key-from_key.ensures) (names _ c.args.sid c.args.first.0 (long) (first_small) c.present_key-to_key.ensures) _ _ c.between-run.ensures (omega (arith, c.if-to-from.false))
