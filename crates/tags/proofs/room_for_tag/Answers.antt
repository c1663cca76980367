-- A stored name needs no room (`over_fits`), another needs room for one record more (`insert_fits`).
use Rattle.std.proofs.Common.{sym, ◌∙◌, arith}
use Rattle.table.proofs.Checks.{well_two, well_count}
use Rattle.layout.specs.Records.{tag_of}
use Rattle.rows.proofs.Rows.{formed_well}
use Rattle.rows.proofs.Stores.{over_fits, insert_fits}
use Rattle.rows.proofs.Tables.{tags, tag_key_lem}
use Rattle.tags.specs.Lookups.{key_bytes}
use Rattle.tags.proofs.RowLaws.{name_long, tag_named}
use Rattle.tags.proofs.room_for_tag.Goals as goal

pub room_for-requires : goal.room_for-requires
room_for-requires c =
    let w = formed_well tags c.args.t.now c.requires.0 in
    (omega arith, well_two 50 34 c.args.t.now w, well_count 50 34 c.args.t.now w)

pub returns-in-Ok : goal.returns-in-Ok
returns-in-Ok c =
    λ vid f. sym (over_fits tags c.args.t.now c.requires.0 (tag_of (c.args.name.now, vid)) (tag_named c.args.name.now vid c.requires.1 (λ j. (c.type_inv.name j).fits) f) (key_bytes.spell c.args.name.now) (tag_key_lem c.args.name.now (name_long c.args.name.now c.requires.1).1) _ (sym c.find_tag.ensures.place ∙ c.in-Ok.is))

pub returns-in-Err : goal.returns-in-Err
returns-in-Err c =
    λ vid f. c.room_for.ensures
    ∙ insert_fits tags c.args.t.now c.requires.0 (tag_of (c.args.name.now, vid)) (tag_named c.args.name.now vid c.requires.1 (λ j. (c.type_inv.name j).fits) f) (key_bytes.spell c.args.name.now) (tag_key_lem c.args.name.now (name_long c.args.name.now c.requires.1).1) _ (sym c.find_tag.ensures.place ∙ c.in-Err.is)
