-- A page is present where its key is found.
use Rattle.std.proofs.Common.{◌≡◌, ◌^◌, ◌<◌, length, sym, ◌∙◌, w32, Fits, rules}
use Rattle.rows.proofs.Rows.{formed_well}
use Rattle.rows.proofs.Tables.{presence}
use Rattle.presence.proofs.PresentLaws.{names, there, missing}
use Rattle.presence.proofs.is_present.Goals as goal

pub find-requires : goal.find-requires
find-requires c = record { stride_nonzero = search rules; t_value = formed_well presence c.args.t.now c.requires }

pub returns-in-Ok : goal.returns-in-Ok
returns-in-Ok c =
    let long : length c.args.sid ≡ 16 = search rules in
    let small : c.args.page.0 < 256 ^ 4 = let f : Fits w32 c.args.page.0 = search rules in f.fits in
    there c.args.t.now c.requires _ c.args.sid c.args.page.0 (names _ c.args.sid c.args.page.0 (long) (small) c.present_key-key.ensures) _ (sym c.find.ensures ∙ c.in-Ok.is)

pub returns-in-Err : goal.returns-in-Err
returns-in-Err c =
    let long : length c.args.sid ≡ 16 = search rules in
    let small : c.args.page.0 < 256 ^ 4 = let f : Fits w32 c.args.page.0 = search rules in f.fits in
    missing c.args.t.now c.requires _ c.args.sid c.args.page.0 (names _ c.args.sid c.args.page.0 (long) (small) c.present_key-key.ensures) _ (sym c.find.ensures ∙ c.in-Err.is)
