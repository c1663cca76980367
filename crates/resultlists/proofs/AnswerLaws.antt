-- What a call with a result list leaves, at each way out of the code: a refusal, 19, or the entries that were put. Assumes nothing.
use Rattle.std.proofs.Common.{◌≡◌, ℕ, ◌/◌, ◌<◌, ◌≤◌, Bool, true, false, cond, leb, List, length, sym, refl, ap, ◌∙◌, ap₂, le-leb}
use borrow.Author.Tests.{lt-leb}
use Rattle.octets.specs.Bytes.{put}
use Rattle.octets.specs.Flat.{flat}
use Rattle.basics.specs.Answers.{Answer, refused, done, ask, ◌>>◌}
use Rattle.layout.specs.Codecs.{Codec}
use Rattle.arguments.specs.Replies.{none_under, given}
use Rattle.resultlists.specs.Lists.{slots_in, list_left}

module _ {A : Type 0} (c : Codec A) (was : List ℕ) (items : ℕ) (q : Answer (List A)) where
  -- a refusal leaves all as found
  pub left_refused : (n : ℕ) → q ≡ refused n → (none_under n, (was, items)) ≡ list_left c was items q
  left_refused n e = ap (list_left c was items) (sym e)

  -- the entries that were put, and their number
  pub left_put : (l : List A) (t : List ℕ) (n : ℕ) → q ≡ done l → t ≡ put 0 (flat c.spell l) was → n ≡ length l → (given, (t, n)) ≡ list_left c was items q
  left_put l t n e w k = ap₂ (λ (b : List ℕ) (m : ℕ). (given, (b, m))) w k ∙ ap (list_left c was items) (sym e)

-- ---- room, as the rules ask for it

-- by its test
pub left_asked : {A : Type 0} (c : Codec A) (was : List ℕ) (items : ℕ) (b : Bool) (l : List A) → cond b (given, (put 0 (flat c.spell l) was, length l)) (none_under 19, (was, items)) ≡ list_left c was items (ask b 19 >> done l)
left_asked c was items true l = refl
left_asked c was items false l = refl

module _ {A : Type 0} (c : Codec A) (s : ℕ) (wide : c.size ≡ s) (was : List ℕ) (l : List A) (n : ℕ) (k : n ≡ length l) where
  asked : (b : Bool) → leb n (length was / s) ≡ b → (ask (leb (length l) (slots_in c was)) 19 >> done l) ≡ (ask b 19 >> done l)
  asked b e = ap (λ (x : Bool). ask x 19 >> done l) (ap₂ (λ (m w : ℕ). leb m (length was / w)) (sym k) wide ∙ e)

  -- too short
  pub room_none : length was / s < n → (ask (leb (length l) (slots_in c was)) 19 >> done l) ≡ refused 19
  room_none h = asked _ (lt-leb n (length was / s) h)

  -- long enough
  pub room_there : n ≤ length was / s → (ask (leb (length l) (slots_in c was)) 19 >> done l) ≡ done l
  room_there h = asked _ (le-leb n (length was / s) h)
