-- Lines that document 01's example prints, by computing. Assumes nothing.
use mathlib.Core.Path.{◌≡◌, refl}
use mathlib.Core.List.{[], ◌∷◌}
use mathlib.Core.Option.{none, some}
use Rattle.calltext.specs.Output.{digits, decimal, hex_byte, output_line}

-- `line=1 code=0 log=- lsn=0`
first_line : output_line 1 0 none ≡ (108 ∷ 105 ∷ 110 ∷ 101 ∷ 61 ∷ 49 ∷ 32 ∷ 99 ∷ 111 ∷ 100 ∷ 101 ∷ 61 ∷ 48 ∷ 32 ∷ 108 ∷ 111 ∷ 103 ∷ 61 ∷ 45 ∷ 32 ∷ 108 ∷ 115 ∷ 110 ∷ 61 ∷ 48 ∷ [])
unfolding digits decimal hex_byte output_line
first_line = refl

-- `line=3 code=0 log=0a lsn=1`
third_line : output_line 3 0 (some (10, 1)) ≡ (108 ∷ 105 ∷ 110 ∷ 101 ∷ 61 ∷ 51 ∷ 32 ∷ 99 ∷ 111 ∷ 100 ∷ 101 ∷ 61 ∷ 48 ∷ 32 ∷ 108 ∷ 111 ∷ 103 ∷ 61 ∷ 48 ∷ 97 ∷ 32 ∷ 108 ∷ 115 ∷ 110 ∷ 61 ∷ 49 ∷ [])
unfolding digits decimal hex_byte output_line
third_line = refl

-- `line=120 code=24 log=ff lsn=18446744073709551615`
long_numbers : output_line 120 24 (some (255, 18446744073709551615)) ≡ (108 ∷ 105 ∷ 110 ∷ 101 ∷ 61 ∷ 49 ∷ 50 ∷ 48 ∷ 32 ∷ 99 ∷ 111 ∷ 100 ∷ 101 ∷ 61 ∷ 50 ∷ 52 ∷ 32 ∷ 108 ∷ 111 ∷ 103 ∷ 61 ∷ 102 ∷ 102 ∷ 32 ∷ 108 ∷ 115 ∷ 110 ∷ 61 ∷ 49 ∷ 56 ∷ 52 ∷ 52 ∷ 54 ∷ 55 ∷ 52 ∷ 52 ∷ 48 ∷ 55 ∷ 51 ∷ 55 ∷ 48 ∷ 57 ∷ 53 ∷ 53 ∷ 49 ∷ 54 ∷ 49 ∷ 53 ∷ [])
unfolding digits decimal hex_byte output_line
long_numbers = refl
