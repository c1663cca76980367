-- Each part that is not in form makes the form fail; where the others are, the checkpoints decide. Assumes nothing.
use Rattle.std.proofs.Common.{sym, ◌∙◌}
use Rattle.commitbytes.proofs.CommitLaws.{key_not, hash_not, segment_not, lsns_decide}
use Rattle.commitbytes.proofs.commit_form.Goals as goal

pub returns-then-not-key_form : goal.returns-then-not-key_form
returns-then-not-key_form c =
    sym (key_not c.args.s.now c.args.at (λ j. (c.type_inv.s j).fits) c.requires (sym c.key_form.ensures ∙ c.if-not-key_form.true))

pub returns-then-not-hash_form : goal.returns-then-not-hash_form
returns-then-not-hash_form c =
    sym (hash_not c.args.s.now c.args.at (λ j. (c.type_inv.s j).fits) c.requires (sym c.key_form.ensures ∙ c.if-not-key_form.false) (sym c.hash_form.ensures ∙ c.if-not-hash_form.true))

pub returns-then-not-given_form : goal.returns-then-not-given_form
returns-then-not-given_form c =
    sym (segment_not c.args.s.now c.args.at (λ j. (c.type_inv.s j).fits) c.requires (sym c.key_form.ensures ∙ c.if-not-key_form.false) (sym c.hash_form.ensures ∙ c.if-not-hash_form.false) (sym c.given_form.ensures ∙ c.if-not-given_form.true))

pub returns : goal.returns
returns c =
    c.lsns_form.ensures ∙ lsns_decide c.args.s.now c.args.at (λ j. (c.type_inv.s j).fits) c.requires (sym c.key_form.ensures ∙ c.if-not-key_form.false) (sym c.hash_form.ensures ∙ c.if-not-hash_form.false) (sym c.given_form.ensures ∙ c.if-not-given_form.false)
