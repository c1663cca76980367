-- The LSNs that count are those that are spelled. Assumes nothing.
use Rattle.std.proofs.Common.{ℕ, List, sym, ap, ◌∙◌}
use Rattle.basics.specs.Numbers.{counts}
use Rattle.rules.specs.Lists.{all}
use Rattle.commitbytes.proofs.LsnLaws.{lsns_at_lem}
use Rattle.commitbytes.proofs.lsns.lsns_count.Goals as goal

pub returns : goal.returns
returns c =
    c.none_zero.ensures ∙ ap (λ (ns : List ℕ). all counts ns) (sym (lsns_at_lem c.args.s.now c.args.at c.requires _ c.count_read-n.ensures))
