-- What a tally reads as.
use Rattle.std.specs.Prelude.{ℕ, List, ◌++◌, codes}
use Rattle.std.specs.Fmt.{decimal}
use Rattle.plainset.specs.declared.tally.Tally.{Tally}

-- both counts in words, as `3 comparisons, 1 differences`
abbrev pub tally_words : Tally → List ℕ
tally_words t = decimal t.compared ++ (codes " comparisons, " ++ (decimal t.differing ++ codes " differences"))
