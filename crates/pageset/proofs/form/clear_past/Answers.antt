-- The chain tests each window past those that count, which is what `blank` does one by one. Assumes nothing.
use Rattle.std.proofs.Common.{rules, ◌≡◌, ℕ, ◌-◌, ◌&&◌, eqb, length, take, drop, sym, ap, ◌∙◌, length-drop}
use Rattle.std.proofs.Math.Seq.{take-length}
use borrow.Author.Tests.{tests}
use Rattle.std.proofs.lemmas.Iterator.{YieldsList-from_slice}
use Rattle.std.proofs.lemmas.Iterator.Search.{all_from_yields_List}
use Rattle.pageset.specs.declared.Window.{Window}
use Rattle.pageset.proofs.TestLaws.{all_zero}
use Rattle.pageset.proofs.form.clear_past.Goals as goal

pub returns : goal.returns
returns c =
    let ws = c.args.s.windows in
    let past = drop c.args.s.len ws in
    let e : length ws - c.args.s.len ≡ length past = sym (length-drop c.args.s.len ws) in
    let all : c.iter.result.rest.now ≡ past = c.iter.ensures.rest ∙ ap (λ (k : ℕ). take k past) e ∙ take-length past in
    all_from_yields_List (λ (w : Window). eqb w.index 0 && eqb w.mask 0) _ _ _ c.all.ensures.ran (YieldsList-from_slice past all) (λ x b q k. search (rules, tests))
    ∙ all_zero past
