-- Where the name was found its record goes (`remove_laid`); else the bytes stay (`gap_kept`).
use Rattle.std.proofs.Common.{sym, ◌∙◌, arith}
use Rattle.table.proofs.Ends.{at_in}
use Rattle.table.proofs.Checks.{well_count}
use Rattle.rows.proofs.Rows.{formed_well}
use Rattle.rows.proofs.Removals.{remove_laid}
use Rattle.rows.proofs.Spots.{gap_kept}
use Rattle.rows.proofs.Tables.{tags, tag_key_lem}
use Rattle.tags.specs.Lookups.{key_bytes}
use Rattle.tags.proofs.RowLaws.{name_long}
use Rattle.tags.proofs.remove_tag.Goals as goal

pub returns-in_default : goal.returns-in_default
returns-in_default c =
    gap_kept tags c.args.t.now c.requires.0 (key_bytes.spell c.args.name.now) c.args.name.now (tag_key_lem c.args.name.now (name_long c.args.name.now c.requires.1).1) (λ j. (c.slice_known-1.given j).fits) _ (sym c.find_tag.ensures.place ∙ c.in_default.is)

pub remove-requires : goal.remove-requires
remove-requires c =
    let t = c.args.t.now in
    (omega arith, at_in 50 34 t (key_bytes.spell c.args.name.now) _ _ c.find_tag.ensures.place c.in-Ok.is, well_count 50 34 t (formed_well tags t c.requires.0))

pub returns : goal.returns
returns c =
    c.remove.ensures
    ∙ remove_laid tags c.args.t.now c.requires.0 (key_bytes.spell c.args.name.now) c.args.name.now (tag_key_lem c.args.name.now (name_long c.args.name.now c.requires.1).1) _ (sym c.find_tag.ensures.place ∙ c.in-Ok.is)
