-- A put of the row is the rules' store: the laws `put_fits` and `put_laid`.
use Rattle.std.proofs.Common.{◌≡◌, ℕ, true, List, get_or, ap, ◌∙◌, arith, w8, Fits, rules}
use Rattle.octets.specs.Bytes.{AreBytes}
use Rattle.table.specs.Records.{put}
use Rattle.table.specs.Table.{recs, laid, fits}
use Rattle.rules.specs.Forms.{tag_form}
use Rattle.layout.specs.Records.{tag_of}
use Rattle.rows.proofs.Rows.{formed_well}
use Rattle.rows.proofs.Stores.{put_fits, put_laid}
use Rattle.rows.proofs.Tables.{tags}
use Rattle.tags.proofs.RowLaws.{tag_good}
use Rattle.tags.proofs.put_tag.Goals as goal

pub put-requires : goal.put-requires
put-requires c =
    -- the tag is in form
    let good : AreBytes c.args.name.now → tag_form (tag_of (c.args.name.now, c.args.vid)) ≡ true = λ b. tag_good c.args.name.now c.args.vid c.requires.t_value.1 b (search rules) (λ j. let f : Fits w8 (get_or c.args.vid j 0) = search rules in f.fits) in
    let t = c.args.t.now in record { stride_nonzero = (omega arith, omega arith, search rules); t_value = formed_well tags t c.requires.t_value.0; t_value_2 = ap (λ (r : List ℕ). fits 50 (put 34 r (recs 50 t)) t) c.tag_row-row.ensures ∙ put_fits tags t c.requires.t_value.0 (tag_of (c.args.name.now, c.args.vid)) (good (λ j. (c.type_inv.name j).fits)) ∙ c.requires.t_value_2 }

pub returns : goal.returns
returns c =
    let good : AreBytes c.args.name.now → tag_form (tag_of (c.args.name.now, c.args.vid)) ≡ true = λ b. tag_good c.args.name.now c.args.vid c.requires.t_value.1 b (search rules) (λ j. let f : Fits w8 (get_or c.args.vid j 0) = search rules in f.fits) in
    let t = c.args.t.now in
    c.put.ensures
    ∙ ap (λ (r : List ℕ). laid (put 34 r (recs 50 t)) t) c.tag_row-row.ensures
    ∙ put_laid tags t c.requires.t_value.0 (tag_of (c.args.name.now, c.args.vid)) (good (λ j. (c.type_inv.name j).fits))
