-- A set built of the ranges up to a place of the text: no page of it is above the last range, and with the pages of the ranges that are left it has the pages of all.
-- A range that needs over 32 windows, with the set or alone, is all the pages up to its end, so all the ranges need them too. Assumes nothing.
use Rattle.std.proofs.Common.{◌≡◌, ℕ, zero, suc, ◌%◌, ◌<◌, ◌≤◌, Bool, true, false, ◌&&◌, ◌||◌, ltb, leb, ◌⊎◌, List, [], ◌∷◌, sym, refl, ap, ◌∙◌, inl, inr, arith, ltb-true, le-leb, leb-true}
use mathlib.Core.Bool.{and-true, and-false, or-false, or_assoc}
use borrow.Author.Tests.{lt-leb}
use Rattle.basics.specs.Answers.{Answer, refused, done, ask, ◌>>=◌, ◌>>◌}
use Rattle.pageset.specs.declared.PageSet.{PageSet}
use Rattle.pageset.specs.declared.SetAnswer.{SetAnswer}
use Rattle.pageset.specs.Sets.{mask_at, holds, member, normal}
use Rattle.pageset.specs.Rules.{within}
use Rattle.pageset.specs.Says.{IsSet, GivesOr22, empty_set, refused_set}
use Rattle.pageset.proofs.BitLaws.{bit_none}
use Rattle.pageset.proofs.FormLaws.{and_fst, and_snd, normal_fact, empty_normal}
use Rattle.pageset.proofs.WindowLaws.{lt_or}
use Rattle.callline.specs.Texts.{Text, split, is_text}
use Rattle.callline.specs.Values.{Range, malformed, range_of, follows, rising, dash, pages_of}
use Rattle.callline.specs.Says.{is_done}
use Rattle.callline.proofs.ValueLaws.{refused_done, pages_ranges, pages_24}
use Rattle.callpages.specs.Pages.{in_ranges, pages_rule}

-- ---- answers

value_of : {A : Type 0} (x : Answer A) → is_done x ≡ true → (a : A) × (x ≡ done a)
value_of (refused n) h = absurd (let z : ◌≡◌ {A = ℕ} 0 1 = cc in omega arith)
value_of (done a) h = (a, refl)

-- ---- ranges that rise

-- what a first range leaves
pub record Taken (low : ℕ) (r : Range) (ps : List Text) (rest : List Range) : Type 0 where
  pub starts : low < r.first
  pub ends : r.first ≤ r.last
  pub more : List Range
  pub left : rising r.last ps ≡ done more
  pub all : rest ≡ r ∷ more

taken_more : (low : ℕ) (r : Range) (ps : List Text) (rest : List Range) (x : Answer (List Range)) → rising r.last ps ≡ x → low < r.first → r.first ≤ r.last → (x >>= λ rs. done (r ∷ rs)) ≡ done rest → Taken low r ps rest
taken_more low r ps rest (refused n) e h g k = absurd (refused_done n rest k)
taken_more low r ps rest (done more) e h g k = record { starts = h; ends = g; more = more; left = e; all = (cc) }

taken_test : (low : ℕ) (r : Range) (ps : List Text) (rest : List Range) (q : Bool) → follows low r ≡ q → (ask q malformed >> (rising r.last ps >>= λ rs. done (r ∷ rs))) ≡ done rest → Taken low r ps rest
taken_test low r ps rest true e k =
    taken_more low r ps rest (rising r.last ps) refl
    (ltb-true low r.first (and_fst (ltb low r.first) (leb r.first r.last) e))
    (leb-true r.first r.last (and_snd (ltb low r.first) (leb r.first r.last) e))
    k
taken_test low r ps rest false e k = absurd (refused_done malformed rest k)

taken : (low : ℕ) (p : Text) (ps : List Text) (rest : List Range) → rising low (p ∷ ps) ≡ done rest → (r : Range) → range_of p ≡ done r → Taken low r ps rest
unfolding rising
taken low p ps rest h r e = taken_test low r ps rest (follows low r) refl (ap (λ (x : Answer Range). x >>= λ r. ask (follows low r) malformed >> (rising r.last ps >>= λ rs. done (r ∷ rs))) (sym e) ∙ h)

-- a range that is left is a range
pub no_stray : (low : ℕ) (p : Text) (ps : List Text) (rest : List Range) → rising low (p ∷ ps) ≡ done rest → range_of p ≡ refused malformed → ⊥
unfolding rising
no_stray low p ps rest h e = refused_done malformed rest (ap (λ (x : Answer Range). x >>= λ r. ask (follows low r) malformed >> (rising r.last ps >>= λ rs. done (r ∷ rs))) (sym e) ∙ h)

value_range : (x : Answer Range) (low : ℕ) (ps : List Text) (rest : List Range) → (x >>= λ r. ask (follows low r) malformed >> (rising r.last ps >>= λ rs. done (r ∷ rs))) ≡ done rest → (r : Range) × (x ≡ done r)
value_range (refused n) low ps rest h = absurd (refused_done n rest h)
value_range (done r) low ps rest h = (r, refl)

-- no page up to low lies in ranges that rise above it
above : (low : ℕ) (ps : List Text) (rest : List Range) → rising low ps ≡ done rest → (q : ℕ) → q ≤ low → in_ranges rest q ≡ false
unfolding rising in_ranges
above low [] rest h q l = let e : rest ≡ [] = cc in rw e
above low (p ∷ ps) rest h q l =
    let r = value_range (range_of p) low ps rest h in
    let k = taken low p ps rest h r.0 r.1 in
    let m : q < r.0.first = omega (arith, k.starts) in
    rw (k.all, lt-leb r.0.first q m) (above r.0.last ps k.more k.left q (omega (arith, k.starts, k.ends)))

-- ---- the set so far

pub record Part (t : Text) (ps : List Text) (s : PageSet) : Type 0 where
  pub low : ℕ
  pub rest : List Range
  pub ranges : List Range
  pub whole : pages_of t ≡ done ranges
  pub left : rising low ps ≡ done rest
  pub formed : normal s ≡ true
  pub below : (q : ℕ) → low < q → member s q ≡ false
  pub pages : (q : ℕ) → (member s q || in_ranges rest q) ≡ in_ranges ranges q

empty_pages : (q : ℕ) → member empty_set q ≡ false
unfolding holds mask_at
empty_pages q = bit_none (q % 64)

pub part_start : (t : Text) → is_done (pages_of t) ≡ true → is_text dash t ≡ false → Part t (split 44 t) empty_set
part_start t h n =
    let v = value_of (pages_of t) h in
    record {
      low = 0;
      rest = v.0;
      ranges = v.0;
      whole = v.1;
      left = sym (pages_ranges t n) ∙ v.1;
      formed = empty_normal;
      below = λ q _. empty_pages q;
      pages = λ q. ap (λ (b : Bool). b || in_ranges v.0 q) (empty_pages q);
    }

pub or_and : (a b : Bool) → ((a || b) && b) ≡ b
or_and true b = refl
or_and false true = refl
or_and false false = refl

module _ (t : Text) (p : Text) (ps : List Text) (s : PageSet) (c : Part t (p ∷ ps) s) (f l : ℕ) (e : range_of p ≡ done (record { first = f; last = l })) where
  its : Taken c.low (record { first = f; last = l }) ps c.rest
  its = taken c.low p ps c.rest c.left (record { first = f; last = l }) e

  pub from_one : 0 < f
  from_one = omega (arith, its.starts)

  pub rises : f ≤ l
  rises = its.ends

  spread : (q : ℕ) → (member s q || (within f l q || in_ranges its.more q)) ≡ in_ranges c.ranges q
  unfolding in_ranges
  spread q = ap (λ (rs : List Range). member s q || in_ranges rs q) (sym its.all) ∙ c.pages q

  -- no page above the range is in the set or the range
  past : (q : ℕ) → l < q → (member s q || within f l q) ≡ false
  past q h = rw (c.below q (omega (arith, its.starts, its.ends)), lt-leb q l h, and-false (leb f q))

  -- the pages of all the ranges that are at most l are those of the set and the range
  pub up_to : (q : ℕ) → (in_ranges c.ranges q && within 1 l q) ≡ (member s q || within f l q)
  up_to zero = rw (lt-leb 1 0 (omega arith), and-false (in_ranges c.ranges 0), (normal_fact s c.formed).no_zero, lt-leb f 0 from_one)
  up_to (suc q) = go (lt_or l (suc q))
    where
      go : (l < suc q) ⊎ (suc q ≤ l) → (in_ranges c.ranges (suc q) && within 1 l (suc q)) ≡ (member s (suc q) || within f l (suc q))
      go (inl h) = rw (past (suc q) h, lt-leb (suc q) l h, and-false (leb 1 (suc q)), and-false (in_ranges c.ranges (suc q)))
      go (inr h) =
          rw (le-leb 1 (suc q) (omega arith), le-leb (suc q) l h, and-true (in_ranges c.ranges (suc q)))
          (sym (spread (suc q)) ∙ rw (above l ps its.more its.left (suc q) h, le-leb (suc q) l h, or-false))

  -- the set with the range
  pub part_more : (u : PageSet) → IsSet (λ q. member s q || within f l q) u → Part t ps u
  part_more u k =
      record {
        low = l;
        rest = its.more;
        ranges = c.ranges;
        whole = c.whole;
        left = its.left;
        formed = k.normal;
        below = λ q h. k.pages q ∙ past q h;
        pages = λ q. ap (λ (b : Bool). b || in_ranges its.more q) (k.pages q) ∙ or_assoc (member s q) (within f l q) (in_ranges its.more q) ∙ spread q;
      }

-- ---- the answer

pub part_rule : (t : Text) (ps : List Text) (s : PageSet) (c : Part t ps s) → pages_rule t ≡ done (in_ranges c.ranges)
unfolding pages_rule
part_rule t ps s c = rw c.whole

pub part_end : (t : Text) (s : PageSet) → Part t [] s → GivesOr22 (record { code = 0; set = s }) (pages_rule t)
unfolding rising in_ranges
part_end t s c =
    let none_left : c.rest ≡ [] = (cc c.left) in
    rw (part_rule t [] s c) (inl (
      refl,
      record {
        normal = c.formed;
        pages = λ q. sym (or-false (member s q)) ∙ ap (λ (rs : List Range). member s q || in_ranges rs q) (sym none_left) ∙ c.pages q;
      },
    ))

pub dash_end : (t : Text) → is_text dash t ≡ true → GivesOr22 (record { code = 0; set = empty_set }) (pages_rule t)
unfolding pages_rule pages_of in_ranges
dash_end t h = rw h (inl (refl, record { normal = empty_normal; pages = empty_pages }))

pub stray : (t : Text) → is_done (pages_of t) ≡ false → (r : SetAnswer) → r ≡ refused_set 24 → GivesOr22 r (pages_rule t)
unfolding pages_rule
stray t h r e = rw (pages_24 t h) e
