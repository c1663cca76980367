-- LSNs, page numbers and page counts: document 01's limits, and what stands before and after each.
use Rattle.std.specs.Prelude.{ℕ, ◌+◌, ◌-◌, ◌^◌, min, max, Bool, cond, nat_lt}
use Rattle.std.proofs.Math.Option.{Option, none, some}
use Rattle.basics.specs.Answers.{Answer, ask, done, ◌>>=◌, ◌>>◌}

-- LSN: 1 to 2^64-1
unfoldable pub last_lsn : ℕ
last_lsn = 2 ^ 64 - 1

-- page number: 1 to 2^32-1; page count: 0 to 2^32-1
unfoldable pub last_page : ℕ
last_page = 2 ^ 32 - 1

-- neither an LSN nor a page number is 0
abbrev pub counts : ℕ → Bool
counts n = nat_lt 0 n

-- the LSN after n: 1 for LSN 0, 18 where no LSN is left
unfoldable pub next_lsn : ℕ → Answer ℕ
next_lsn n = do
  ask (counts n) 1
  ask (nat_lt n last_lsn) 18
  done (n + 1)

-- the LSN before n, or nothing before LSN 1: 1 for LSN 0
unfoldable pub prev_lsn : ℕ → Answer (Option ℕ)
prev_lsn n = do
  ask (counts n) 1
  done (cond (nat_lt 1 n) (some (n - 1)) none)

-- the LSN after n, and the last LSN after itself
unfoldable pub next_lsn_or_last : ℕ → Answer ℕ
next_lsn_or_last n = do
  ask (counts n) 1
  done (min (n + 1) last_lsn)

-- the LSN before n, and the first LSN before itself
unfoldable pub prev_lsn_or_first : ℕ → Answer ℕ
prev_lsn_or_first n = do
  ask (counts n) 1
  done (max (n - 1) 1)

-- the page after p, and the last page after itself: 1 for page 0
unfoldable pub next_page : ℕ → Answer ℕ
next_page p = do
  ask (counts p) 1
  done (min (p + 1) last_page)

-- the page before p, and the first page before itself: 1 for page 0
unfoldable pub prev_page : ℕ → Answer ℕ
prev_page p = do
  ask (counts p) 1
  done (max (p - 1) 1)

-- one page more, and one page less, within the limits of a count
unfoldable pub next_count : ℕ → ℕ
next_count n = min (n + 1) last_page

unfoldable pub prev_count : ℕ → ℕ
prev_count n = n - 1

-- n pages end at page n; no pages, no last page
unfoldable pub end_page : ℕ → Option ℕ
end_page n = cond (nat_lt 0 n) (some n) none
