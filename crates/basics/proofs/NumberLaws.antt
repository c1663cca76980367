-- Each rule of Numbers read at the three places that its code tells apart: 0, the end, and between. Assumes nothing.
use Rattle.std.specs.Prelude.{◌≡◌, ℕ, ◌+◌, ◌-◌, ◌<◌, ◌≤◌, min, max, ltb}
use mathlib.Core.Path.{ap, ◌∙◌}
use mathlib.Core.Option.{none, some}
use native.Mathlib.Omega.{arith}
use borrow.Author.Tests.{lt-ltb, le-ltb}
use Rattle.basics.specs.Answers.{refused, done}
use Rattle.basics.specs.Numbers.{last_lsn, last_page, next_lsn, prev_lsn, next_lsn_or_last, prev_lsn_or_first, next_page, prev_page, end_page}
use Rattle.basics.proofs.AskLaws.{zero_stopped, zero_passed}

module _ (n : ℕ) where
  pub next_zero : n ≡ 0 → refused 1 ≡ next_lsn n
  unfolding next_lsn
  next_zero e = zero_stopped _ n e

  pub next_last : n ≡ last_lsn → refused 18 ≡ next_lsn n
  unfolding next_lsn last_lsn
  next_last e = let h : last_lsn ≤ n = omega arith in let l : 0 < n = omega arith in rw (lt-ltb 0 n l, le-ltb n last_lsn h)

  pub next_some : (n ≡ 0 → ⊥) → n < last_lsn → done (n + 1) ≡ next_lsn n
  unfolding next_lsn
  next_some h l = let k : 0 < n = omega arith in rw (lt-ltb 0 n k, lt-ltb n last_lsn l)

  pub prev_zero : n ≡ 0 → refused 1 ≡ prev_lsn n
  unfolding prev_lsn
  prev_zero e = zero_stopped _ n e

  pub prev_first : n ≡ 1 → done none ≡ prev_lsn n
  unfolding prev_lsn
  prev_first e = rw e

  pub prev_some : (n ≡ 0 → ⊥) → (n ≡ 1 → ⊥) → done (some (n - 1)) ≡ prev_lsn n
  unfolding prev_lsn
  prev_some h k = let l : 0 < n = omega arith in let m : 1 < n = omega arith in rw (lt-ltb 0 n l, lt-ltb 1 n m)

  pub next_or_zero : n ≡ 0 → refused 1 ≡ next_lsn_or_last n
  unfolding next_lsn_or_last
  next_or_zero e = zero_stopped _ n e

  pub next_or : (m : ℕ) → (n ≡ 0 → ⊥) → m ≡ min (n + 1) last_lsn → done m ≡ next_lsn_or_last n
  unfolding next_lsn_or_last
  next_or m h e = ap done e ∙ zero_passed _ n h

  pub prev_or_zero : n ≡ 0 → refused 1 ≡ prev_lsn_or_first n
  unfolding prev_lsn_or_first
  prev_or_zero e = zero_stopped _ n e

  pub prev_or : (m : ℕ) → (n ≡ 0 → ⊥) → m ≡ max (n - 1) 1 → done m ≡ prev_lsn_or_first n
  unfolding prev_lsn_or_first
  prev_or m h e = ap done e ∙ zero_passed _ n h

  pub next_page_zero : n ≡ 0 → refused 1 ≡ next_page n
  unfolding next_page
  next_page_zero e = zero_stopped _ n e

  pub next_page_lem : (m : ℕ) → (n ≡ 0 → ⊥) → m ≡ min (n + 1) last_page → done m ≡ next_page n
  unfolding next_page
  next_page_lem m h e = ap done e ∙ zero_passed _ n h

  pub prev_page_zero : n ≡ 0 → refused 1 ≡ prev_page n
  unfolding prev_page
  prev_page_zero e = zero_stopped _ n e

  pub prev_page_lem : (m : ℕ) → (n ≡ 0 → ⊥) → m ≡ max (n - 1) 1 → done m ≡ prev_page n
  unfolding prev_page
  prev_page_lem m h e = ap done e ∙ zero_passed _ n h

  pub end_none : n ≡ 0 → none ≡ end_page n
  unfolding end_page
  end_none e = rw e

  pub end_some : (n ≡ 0 → ⊥) → some n ≡ end_page n
  unfolding end_page
  end_some h = let l : 0 < n = omega arith in rw (lt-ltb 0 n l)
