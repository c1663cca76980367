-- The record of a page is its key.
use Rattle.std.proofs.Common.{◌≡◌, ◌^◌, ◌<◌, true, get_or, ◌∙◌, w8, w32, Fits, rules}
use Rattle.rules.specs.Forms.{present_form}
use Rattle.rows.proofs.Rows.{formed_well}
use Rattle.rows.proofs.Tables.{presence}
use Rattle.entries.proofs.RowForms.{present_formed}
use Rattle.presence.specs.Pages.{page_of}
use Rattle.presence.proofs.PresentLaws.{page_fits}
use Rattle.presence.proofs.room_for_page.Goals as goal

pub room-requires : goal.room-requires
room-requires c = record { stride_nonzero = search rules; t_value = formed_well presence c.args.t.now c.requires.0 }

pub returns : goal.returns
returns c =
    let small : c.args.page.0 < 256 ^ 4 = let f : Fits w32 c.args.page.0 = search rules in f.fits in
    let formed : present_form (page_of c.args.sid c.args.page.0) ≡ true = present_formed c.args.sid c.args.page.0 (λ j. let f : Fits w8 (get_or c.args.sid j 0) = search rules in f.fits) (search rules) (small) c.requires.1 in
    c.room.ensures ∙ page_fits c.args.t.now c.requires.0 _ c.args.sid c.args.page.0 (formed) c.present_key-key.ensures
