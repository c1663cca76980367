-- A printed line is short, and the newline behind it.
use Rattle.std.proofs.Common.{◌≡◌, ℕ, zero, suc, ◌+◌, ◌/◌, ◌%◌, ◌≤◌, false, cond, ltb, List, [], ◌∷◌, ◌++◌, length, refl, ap, ◌∙◌, ap₂, arith, length-append, le-ltb}
use mathlib.Core.Option.{Option, none, some}
use Rattle.octets.specs.Bytes.{bytes_of, put}
use Rattle.octets.proofs.Places as P
use Rattle.rules.proofs.TableLaws.{cases}
use Rattle.calltext.specs.Output.{digits, decimal, log_text, lsn_of, output_line}

digits_few : (k n : ℕ) → length (digits k n) ≤ k
unfolding digits
digits_few zero n = omega arith
digits_few (suc k) n =
    cases (ltb n 10) (λ e. rw e (omega arith)) (λ e. rw e (omega (arith, length-append (digits k (n / 10)) ((48 + n % 10) ∷ []), digits_few k (n / 10))))

decimal_few : (n : ℕ) → length (decimal n) ≤ 20
unfolding decimal
decimal_few n = digits_few 20 n

log_few : (h : Option (ℕ × ℕ)) → length (log_text h) ≤ 2
log_few none = omega arith
log_few (some h) = omega arith

-- a printed line has at most 83 bytes
pub line_short : (n c : ℕ) (h : Option (ℕ × ℕ)) → length (output_line n c h) ≤ 83
unfolding output_line
line_short n c h = simp length-append (omega (arith, decimal_few n, decimal_few c, log_few h, decimal_few (lsn_of h)))

-- what is written where there is room for it
pub wide : (out t : List ℕ) (r : ℕ) (xs : List ℕ) → 96 ≤ length out → t ≡ cond (ltb (length out) 96) out (put 0 xs out) → r ≡ cond (ltb (length out) 96) 0 (length xs)
    → (t ≡ put 0 xs out) × (r ≡ length xs)
wide out t r xs h e f =
    let z : ltb (length out) 96 ≡ false = le-ltb (length out) 96 h in
    (rw z at e, rw z at f)

one_byte : bytes_of 1 10 ≡ 10 ∷ []
unfolding bytes_of
one_byte = refl

pub with_newline : (out t u : List ℕ) (r : ℕ) (xs : List ℕ) → 96 ≤ length out → length xs ≤ 83 → (t ≡ put 0 xs out) × (r ≡ length xs) → u ≡ put r (bytes_of 1 10) t
    → (u ≡ put 0 (xs ++ (10 ∷ [])) out) × (r + 1 ≡ length (xs ++ (10 ∷ [])))
with_newline out t u r xs h s e f =
    let k : r ≡ 0 + length xs = e.1 ∙ omega arith in
    (f ∙ ap₂ (λ (x : List ℕ) (y : List ℕ). put r x y) one_byte e.0 ∙ ap (λ (m : ℕ). put m (10 ∷ []) (put 0 xs out)) k ∙ P.put_put 0 xs (10 ∷ []) out (omega arith), omega (arith, e.1, length-append xs (10 ∷ [])))
