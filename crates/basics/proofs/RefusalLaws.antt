-- A refusal is known by its number: so a contract on the number determines the refusal. Assumes nothing.
use Rattle.std.proofs.Common.{◌≡◌, ℕ, ◌-◌, ltb, true, List, [], ◌∷◌, get_or, sym, refl, ap, ◌∙◌, arith, ltb-true}
use Rattle.basics.specs.Refusals.{number_of}
use Rattle.basics.specs.declared.refusal.Refusal.{Refusal}
use Rattle.basics.specs.declared.refusal.Refusal.TheVariants as Refusal

-- the refusals in the order of their numbers, from 1 on
all_refusals : List Refusal
all_refusals = Refusal.Zero ∷ Refusal.Reversed ∷ Refusal.Form ∷ Refusal.NoVolume ∷ Refusal.InUse ∷ Refusal.OtherRemote ∷ Refusal.NotLatest ∷ Refusal.Diverged ∷ Refusal.Pending ∷ Refusal.NonePending ∷ Refusal.NotAboveWatermark ∷ Refusal.NotNext ∷ Refusal.ZeroHash ∷ Refusal.NotThePending ∷ Refusal.OtherHash ∷ Refusal.BaseWithoutHead ∷ Refusal.RemoteOlder ∷ Refusal.NoLsnLeft ∷ Refusal.NoRoom ∷ Refusal.TableForm ∷ Refusal.NoCommit ∷ Refusal.TooWide ∷ Refusal.PastSegment ∷ Refusal.Line ∷ []

refusal_of : ℕ → Refusal
refusal_of n = get_or all_refusals (n - 1) Refusal.Zero

back : (r : Refusal) → refusal_of (number_of r) ≡ r
unfolding refusal_of all_refusals
back Refusal.Zero = refl
back Refusal.Reversed = refl
back Refusal.Form = refl
back Refusal.NoVolume = refl
back Refusal.InUse = refl
back Refusal.OtherRemote = refl
back Refusal.NotLatest = refl
back Refusal.Diverged = refl
back Refusal.Pending = refl
back Refusal.NonePending = refl
back Refusal.NotAboveWatermark = refl
back Refusal.NotNext = refl
back Refusal.ZeroHash = refl
back Refusal.NotThePending = refl
back Refusal.OtherHash = refl
back Refusal.BaseWithoutHead = refl
back Refusal.RemoteOlder = refl
back Refusal.NoLsnLeft = refl
back Refusal.NoRoom = refl
back Refusal.TableForm = refl
back Refusal.NoCommit = refl
back Refusal.TooWide = refl
back Refusal.PastSegment = refl
back Refusal.Line = refl

pub one_refusal : (r q : Refusal) → number_of r ≡ number_of q → r ≡ q
one_refusal r q e = sym (back r) ∙ ap refusal_of e ∙ back q

-- no refusal has the number 0
some_number : (r : Refusal) → ltb 0 (number_of r) ≡ true
some_number Refusal.Zero = refl
some_number Refusal.Reversed = refl
some_number Refusal.Form = refl
some_number Refusal.NoVolume = refl
some_number Refusal.InUse = refl
some_number Refusal.OtherRemote = refl
some_number Refusal.NotLatest = refl
some_number Refusal.Diverged = refl
some_number Refusal.Pending = refl
some_number Refusal.NonePending = refl
some_number Refusal.NotAboveWatermark = refl
some_number Refusal.NotNext = refl
some_number Refusal.ZeroHash = refl
some_number Refusal.NotThePending = refl
some_number Refusal.OtherHash = refl
some_number Refusal.BaseWithoutHead = refl
some_number Refusal.RemoteOlder = refl
some_number Refusal.NoLsnLeft = refl
some_number Refusal.NoRoom = refl
some_number Refusal.TableForm = refl
some_number Refusal.NoCommit = refl
some_number Refusal.TooWide = refl
some_number Refusal.PastSegment = refl
some_number Refusal.Line = refl

pub refusal_counts : (r : Refusal) → number_of r ≡ 0 → ⊥
refusal_counts r e = let l = ltb-true 0 (number_of r) (some_number r) in omega arith
