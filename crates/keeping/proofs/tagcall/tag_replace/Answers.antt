-- The call's promise of its table, with the types of its arguments.
use Rattle.std.proofs.Common.{◌≡◌, length, get_or, w8, Fits, rules}
use Rattle.octets.specs.Bytes.{AreBytes}
use Rattle.keeping.proofs.Rules.{replace_typed}
use Rattle.keeping.proofs.Calls.{replace_tag_keeps}
use Rattle.keeping.proofs.tagcall.tag_replace.Goals as goal

pub returns : goal.returns
returns c =
    -- the identifier is 16 bytes
    let long : length c.args.vid ≡ 16 = search rules in
    let bytes : AreBytes c.args.vid = λ j. let f : Fits w8 (get_or c.args.vid j 0) = search rules in f.fits in
    let g = c.args in
    let whole = replace_tag_keeps g.tags.now _ g.name.now g.vid (replace_typed g.name.now g.vid (λ j. (c.type_inv.name j).fits) (long) (bytes)) c.sigatuda_tag_replace.ensures.tags_after in
    record { keeps = whole.0; stays_formed = whole.1 }
