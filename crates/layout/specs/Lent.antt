-- What a call on lent bytes answers and leaves: 20 where a lent table is not formed, else what the rule says of the tables that the bytes hold, laid over the bytes; and 3 for lent bytes of another length.
use Rattle.std.specs.Prelude.{ℕ, Bool, cond, List, length, ◌==◌}
use Rattle.basics.specs.Answers.{Answer, refused, done, ask, ◌>>=◌, ◌>>◌}
use Rattle.rules.specs.Tables.{Table}
use Rattle.layout.specs.Codecs.{Codec}
use Rattle.layout.specs.Tables.{laid_over}

-- 20 comes first
unfoldable pub lent : {A : Type 0} → Bool → Answer A → Answer A
lent ok answer = cond ok answer (refused 20)

-- 3: the bytes lent for an answer of n bytes are n; asked after the numbers before it
abbrev pub sized : {A : Type 0} → ℕ → List ℕ → Answer A → Answer A
sized n out answer = do
  a ← answer
  ask (length out == n) 3
  done a

-- the bytes of one table after the call: as found on a refusal, else the table that the answer holds, laid over them
unfoldable pub after : {R A : Type 0} → Codec R → (A → Table R) → List ℕ → Answer A → List ℕ
after c table t (refused n) = t
after c table t (done a) = laid_over c (table a) t
