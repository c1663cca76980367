-- `octets::store16` meets its contract: the library's bytes of a number are those of `bytes_of`.
use mathlib.Core.List.{List}
use Rattle.std.proofs.Common.{ℕ, ap, ◌∙◌}
use Rattle.octets.specs.Bytes.{put}
use Rattle.octets.proofs.Numbers.{bytes_high, bytes_of_mod}
use Rattle.octets.proofs.store16.Goals as goal

pub returns : goal.returns
returns c =
    let a = c.args in
    c.store_all.ensures ∙ ap (λ (l : List ℕ). put a.at l a.s.now) (c.to_be_bytes.ensures ∙ bytes_high 2 _ ∙ bytes_of_mod 2 c.args.v)
