-- The two tests find the lower index, and with it which side has a window there. Assumes nothing.
use Rattle.std.proofs.Common.{◌≡◌, ◌<◌, min, sym, refl, arith, eq-eqb, ne_eqb}
use Rattle.pageset.specs.declared.Window.{Window}
use Rattle.pageset.specs.Windows.{turn_of}
use Rattle.pageset.proofs.walk.next_turn.Goals as goal

-- the turn where the left side, the right side or both have a window
module _ (x y : Window) where
  left_first : x.index < y.index → record { index = x.index; left = x.mask; right = 0; lefts = 1; rights = 0 } ≡ turn_of x y
  left_first l =
      let e : min x.index y.index ≡ x.index = omega arith in
      rw (e, eq-eqb x.index x.index refl, ne_eqb y.index x.index (λ z. omega arith))

  right_first : y.index < x.index → record { index = y.index; left = 0; right = y.mask; lefts = 0; rights = 1 } ≡ turn_of x y
  right_first l =
      let e : min x.index y.index ≡ y.index = omega arith in
      rw (e, eq-eqb y.index y.index refl, ne_eqb x.index y.index (λ z. omega arith))

  together : x.index ≡ y.index → record { index = x.index; left = x.mask; right = y.mask; lefts = 1; rights = 1 } ≡ turn_of x y
  together l =
      let e : min x.index y.index ≡ x.index = omega arith in
      rw (e, eq-eqb x.index x.index refl, eq-eqb y.index x.index (sym l))

pub returns-then-x-y : goal.returns-then-x-y
returns-then-x-y c = record { value = left_first _ _ c.if-x-y.true; lefts_bound = (omega arith, omega arith, omega arith) }

pub returns-then-y-x : goal.returns-then-y-x
returns-then-y-x c = record { value = right_first _ _ c.if-y-x.true; lefts_bound = (omega arith, omega arith, omega arith) }

pub returns : goal.returns
returns c = record { value = together _ _ (omega arith); lefts_bound = (omega arith, omega arith, omega arith) }
