-- The pages that a call list line names, as a test on pages.
use Rattle.std.specs.Prelude.{ℕ, Bool, false, ◌||◌, List, [], ◌∷◌}
use Rattle.basics.specs.Answers.{Answer, done, ◌>>=◌}
use Rattle.pageset.specs.Rules.{within}
use Rattle.callline.specs.Texts.{Text}
use Rattle.callline.specs.Values.{Range, pages_of}

-- a page lies in one of the ranges
unfoldable pub in_ranges : List Range → ℕ → Bool
in_ranges [] p = false
in_ranges (r ∷ rs) p = within r.first r.last p || in_ranges rs p

-- the pages of a text: 24 where it is not in the form
unfoldable pub pages_rule : Text → Answer (ℕ → Bool)
pages_rule t = do
  rs ← pages_of t
  done (in_ranges rs)
