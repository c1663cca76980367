-- A set's pages from one page to another are a set too, so where pages need over 32 windows, more pages beside them do as well. Assumes nothing.
use Rattle.std.proofs.Common.{◌≡◌, ℕ, zero, suc, ◌+◌, ◌<◌, ◌≤◌, Bool, true, false, ◌&&◌, get_or, set, replicate, sym, refl, ap, ◌∙◌, inl, inr, add-one, arith}
use lib.Bits.{bit_and}
use Rattle.basics.specs.Answers.{done}
use Rattle.pageset.specs.declared.PageSet.{PageSet}
use Rattle.pageset.specs.declared.SetAnswer.{SetAnswer}
use Rattle.pageset.specs.Sets.{shown, member, normal, zero_window}
use Rattle.pageset.specs.Windows.{window_of}
use Rattle.pageset.specs.Rules.{within}
use Rattle.pageset.specs.Says.{IsSet, Over32, GivesOr22}
use Rattle.pageset.proofs.FormLaws.{Normal, normal_fact}
use Rattle.pageset.proofs.WalkLaws.{made, step}
use Rattle.pageset.proofs.MaskLaws.{Walked, walk_start, walk_step, walk_member, walk_normal}
use Rattle.pageset.proofs.RangeLaws.{side_mask, side_page}
use Rattle.pageset.proofs.ResultLaws.{is_set, set_same}

module _ (g : ℕ → ℕ) (s : PageSet) (t : Normal s) where
  onward : (i : ℕ) → i < s.len → (out : PageSet) → Walked g (shown s) i out → (next : PageSet) × Walked g (shown s) (suc i) next
  onward i h out w =
      let q = (get_or s.windows i zero_window).index in
      let m = bit_and (get_or s.windows i zero_window).mask (g (get_or s.windows i zero_window).index) in (
        made (out.len + step m) (set out.windows out.len (window_of q m)),
        rw (← add-one i) (walk_step g s t.tidy i out.len out.windows h w m refl (window_of q m) refl (step m) refl),
      )

  -- the first i windows with the bits of the mask
  walked : (i : ℕ) → i ≤ s.len → (out : PageSet) × Walked g (shown s) i out
  walked zero h = (made 0 (replicate 32 zero_window), walk_start g (shown s))
  walked (suc i) h = let r = walked i (omega arith) in onward i (omega arith) r.0 r.1

-- the pages of a set from lo to hi
narrowed : (s : PageSet) → normal s ≡ true → (lo hi : ℕ) → 0 < lo → (out : PageSet) × IsSet (λ p. member s p && within lo hi p) out
narrowed s e lo hi z =
    let t = normal_fact s e in
    let r = walked (side_mask true lo hi) s t s.len (omega arith) in (
      r.0,
      is_set (λ p. member s p && within lo hi p) r.0
          (walk_normal (side_mask true lo hi) s t s.len r.0 (omega arith) r.1)
          (λ p. walk_member (side_mask true lo hi) s t s.len r.0 (omega arith) r.1 p ∙ ap (λ (b : Bool). member s p && b) (side_page true lo hi z p)),
    )

over_more : (f g : ℕ → Bool) (lo hi : ℕ) → 0 < lo → ((p : ℕ) → (g p && within lo hi p) ≡ f p) → Over32 f → Over32 g
over_more f g lo hi z e over s k =
    let n = narrowed s k.normal lo hi z in
    over n.0 (set_same (λ p. member s p && within lo hi p) f n.0 (λ p. ap (λ (b : Bool). b && within lo hi p) (k.pages p) ∙ e p) n.1)

no_22 : (r : SetAnswer) (n : ℕ) → r.code ≡ 0 → r.code ≡ suc n → ⊥
no_22 r n e f = omega arith

-- an answer that goes by the pages f: where it is 22, it is so for more pages; where it is 0, it is the set; and f may be another test of the same pages
module _ (f : ℕ → Bool) (r : SetAnswer) where
  pub still_22 : GivesOr22 r (done f) → (r.code ≡ 0 → ⊥) → (g : ℕ → Bool) (lo hi : ℕ) → 0 < lo → ((p : ℕ) → (g p && within lo hi p) ≡ f p) → GivesOr22 r (done g)
  still_22 (inl h) n g lo hi z e = absurd (n h.0)
  still_22 (inr h) n g lo hi z e = inr (h.0, over_more f g lo hi z e h.1)

  pub its_set : GivesOr22 r (done f) → r.code ≡ 0 → IsSet f r.set
  its_set (inl h) e = h.1
  its_set (inr h) e = absurd (no_22 r 21 e (ap (λ (x : SetAnswer). x.code) h.0))

  pub same_pages : GivesOr22 r (done f) → (g : ℕ → Bool) → ((p : ℕ) → f p ≡ g p) → GivesOr22 r (done g)
  same_pages (inl h) g e = inl (h.0, set_same f g r.set e h.1)
  same_pages (inr h) g e = inr (h.0, λ s k. h.1 s (set_same g f s (λ p. sym (e p)) k))
