-- Snapshots across the boundary: the bytes of an argument and the value that they become, an answer by value and what is left of it. What is read of bytes has
-- at most 8 ranges, so the value is in form, and the call by value says 1, 2 and the ninth range's 3; the form of the bytes is 3 in the same turn. Assumes nothing.
use Rattle.std.proofs.Common.{◌≡◌, ℕ, zero, suc, ◌+◌, ◌-◌, ◌*◌, ◌≤◌, min, Bool, true, false, cond, ◌&&◌, eqb, ltb, leb, List, [], ◌∷◌, ◌++◌, map, length, replicate, sym, refl, ap, ◌∙◌, ap₂, arith, length-append, drop_at, ltb-true, eq-eqb, ne_eqb, le-leb, Result, Ok, Err}
use lib.ListN.{length-map}
use Rattle.octets.specs.Bytes.{be, part}
use Rattle.octets.specs.Order.{lex, order, then_by}
use Rattle.basics.specs.Answers.{Answer, refused, done, ask, code, ◌>>◌}
use Rattle.basics.specs.Refusals.{number_of, code_of}
use Rattle.basics.specs.declared.refusal.Refusal.{Refusal}
use Rattle.rules.specs.Lists.{all}
use Rattle.rules.specs.Records.{Range, Snapshot}
use Rattle.rules.specs.Arguments.{range_lsns, range_order, snapshot_lsns, snapshot_order, snapshot_new, snapshot_append}
use Rattle.rules.proofs.AnswerLaws.{done_same, refused_done}
use Rattle.pageset.proofs.FormLaws.{and_both}
use Rattle.volume.specs.Snapshots as Snap
use Rattle.volume.specs.declared.snapshot.Snapshot as declared
use Rattle.volume.specs.declared.snapshot.LogRange.{LogRange}
use Rattle.volume.proofs.SnapshotLaws.{laid_says, in_form_lem, laid_refused, laid_done}
use Rattle.table.specs.Table.{runs}
use Rattle.table.proofs.Rows.{length_runs}
use Rattle.layout.specs.Codecs.{spelled}
use Rattle.layout.specs.Values.{range_bytes, snapshot_bytes}
use Rattle.arguments.specs.declared.Reply.{Reply}
use Rattle.arguments.specs.Replies.{none_under, value, given}
use Rattle.arguments.specs.Snapshots.{snapshot_in, snapshot_formed, append_in, head_in, snapshot_left, snapshot_put, or_three}
use Rattle.arguments.proofs.ArgLaws.{whole}
use Rattle.arguments.proofs.SetLaws.{Early}

pub snapshot_size : snapshot_bytes.size ≡ 262
unfolding snapshot_bytes range_bytes
snapshot_size = refl

-- ---- a snapshot that is laid out is in form

none_zero : Snap.is_zero_range Snap.no_range ≡ true
unfolding lex order then_by
none_zero = refl

zeros : (n : ℕ) → all Snap.is_zero_range (replicate n Snap.no_range) ≡ true
unfolding all
zeros zero = refl
zeros (suc n) = ap₂ ◌&&◌ none_zero (zeros n)

pub laid_formed : (s : Snapshot) → length s.path ≤ 8 → Snap.in_form (Snap.laid s) ≡ true
unfolding Snap.in_form Snap.laid
laid_formed s h =
    and_both (leb (length s.path) 8) _ (le-leb (length s.path) 8 h)
    (ap (all Snap.is_zero_range) (drop_at (map Snap.laid_range s.path) (replicate (8 - length s.path) Snap.no_range) (length s.path) (length-map s.path Snap.laid_range)) ∙ zeros (8 - length s.path))

-- ---- an argument

module _ (b : List ℕ) where
  pub in_short : (length b ≡ 262 → ⊥) → record { path = []; count = 0 } ≡ snapshot_in b
  unfolding snapshot_in
  in_short h = sym (ap (λ (t : Bool). cond t (snapshot_bytes.read b) (record { path = []; count = 0 })) (ap (eqb (length b)) snapshot_size ∙ ne_eqb (length b) 262 h))

  pub in_whole : length b ≡ 262 → snapshot_bytes.read (part 0 262 b) ≡ snapshot_in b
  unfolding snapshot_in
  in_whole e =
      ap snapshot_bytes.read (whole 262 b e)
      ∙ sym (ap (λ (t : Bool). cond t (snapshot_bytes.read b) (record { path = []; count = 0 })) (ap (eqb (length b)) snapshot_size ∙ eq-eqb (length b) 262 e))

  pub formed_short : (length b ≡ 262 → ⊥) → false ≡ snapshot_formed b
  unfolding snapshot_formed
  formed_short h = sym (ap (λ (t : Bool). t && spelled snapshot_bytes b) (ap (eqb (length b)) snapshot_size ∙ ne_eqb (length b) 262 h))

  pub formed_whole : length b ≡ 262 → spelled snapshot_bytes (part 0 262 b) ≡ snapshot_formed b
  unfolding snapshot_formed
  formed_whole e =
      ap (spelled snapshot_bytes) (whole 262 b e)
      ∙ sym (ap (λ (t : Bool). t && spelled snapshot_bytes b) (ap (eqb (length b)) snapshot_size ∙ eq-eqb (length b) 262 e))

  read_few : length (snapshot_bytes.read b).path ≤ 8
  unfolding snapshot_bytes
  read_few =
      let n : ℕ = min (be (part 0 1 (part 4 (1 + 8 * range_bytes.size) (part 1 (4 + (1 + 8 * range_bytes.size)) b)))) 8 in
      omega (arith, length-map (runs n range_bytes.size 1 (part 4 (1 + 8 * range_bytes.size) (part 1 (4 + (1 + 8 * range_bytes.size)) b))) range_bytes.read, length_runs range_bytes.size n 1 (part 4 (1 + 8 * range_bytes.size) (part 1 (4 + (1 + 8 * range_bytes.size)) b)))

  few_by : (t : Bool) → length (cond t (snapshot_bytes.read b) (record { path = []; count = 0 })).path ≤ 8
  few_by true = read_few
  few_by false = omega arith

  pub in_few : length (snapshot_in b).path ≤ 8
  unfolding snapshot_in
  in_few = few_by (eqb (length b) snapshot_bytes.size)

-- ---- a snapshot, as it is put

module _ (was : List ℕ) (s : Snapshot) where
  left_by : (t : Bool) → eqb (length was) 262 ≡ t → value snapshot_bytes.spell was (ask t 3 >> done s) ≡ snapshot_left was (done s)
  left_by t e = ap (λ (u : Bool). value snapshot_bytes.spell was (ask u 3 >> done s)) (sym (ap (eqb (length was)) snapshot_size ∙ e))

  pub put_short : (length was ≡ 262 → ⊥) → (none_under 3, was) ≡ snapshot_left was (done s)
  put_short h = left_by false (ne_eqb (length was) 262 h)

  pub put_whole : length was ≡ 262 → (given, snapshot_bytes.spell s) ≡ snapshot_left was (done s)
  put_whole h = left_by true (eq-eqb (length was) 262 h)

-- ---- what is left of an answer to a rule

module _ (was : List ℕ) where
  -- a rule's answer, laid out, is left as the rule's
  pub left_snapshot : (a : Result declared.Snapshot Refusal) (q : Answer Snapshot) → Snap.answer_says a ≡ Snap.laid_answer q → snapshot_put was a ≡ snapshot_left was q
  left_snapshot (Err r) q e = ap (snapshot_left was) (sym (laid_refused q (number_of r) e))
  left_snapshot (Ok s) q e = ap (snapshot_left was) (sym (laid_done q s e))

-- an answer of at most 8 ranges is in form
abbrev Few : Answer Snapshot → Type 0
Few (refused n) = Unit {0}
Few (done s) = length s.path ≤ 8

pub answer_formed : (a : Result declared.Snapshot Refusal) (q : Answer Snapshot) → Few q → Snap.answer_says a ≡ Snap.laid_answer q → Snap.answer_form a ≡ true
answer_formed (Err r) q f e = refl
answer_formed (Ok x) (refused n) f e = refused_done (sym e)
answer_formed (Ok x) (done s) f e = ap Snap.in_form (done_same e) ∙ laid_formed s f

-- ---- the two rules: checks of 1, 2 and 3, at most 8 ranges

chain_early : (b c d : Bool) (s : Snapshot) → Early (ask b 1 >> (ask c 2 >> (ask d 3 >> done s)))
chain_early true true true s = tt
chain_early true true false s = (omega arith, omega arith)
chain_early true false d s = (omega arith, omega arith)
chain_early false c d s = (omega arith, omega arith)

chain_few : (b c d : Bool) (s : Snapshot) → (d ≡ true → length s.path ≤ 8) → Few (ask b 1 >> (ask c 2 >> (ask d 3 >> done s)))
chain_few true true true s h = h refl
chain_few true true false s h = tt
chain_few true false d s h = tt
chain_few false c d s h = tt

module _ (r : Range) (count : ℕ) where
  abbrev one : Snapshot
  one = record { path = r ∷ []; count = count }

  pub new_early : Early (snapshot_new r count)
  unfolding snapshot_new
  new_early = chain_early (range_lsns r) (range_order r) true one

  pub new_few : Few (snapshot_new r count)
  unfolding snapshot_new
  new_few = chain_few (range_lsns r) (range_order r) true one (λ e. omega arith)

module _ (s : Snapshot) (r : Range) where
  abbrev more : Snapshot
  more = record { path = s.path ++ (r ∷ []); count = s.count }

  pub append_early : Early (snapshot_append s r)
  unfolding snapshot_append
  append_early = chain_early (snapshot_lsns s && range_lsns r) (snapshot_order s && range_order r) (ltb (length s.path) 8) more

  pub append_few : Few (snapshot_append s r)
  unfolding snapshot_append
  append_few =
      chain_few (snapshot_lsns s && range_lsns r) (snapshot_order s && range_order r) (ltb (length s.path) 8) more
      (λ e. omega (arith, length-append s.path (r ∷ []), ltb-true (length s.path) 8 e))

-- ---- the form of the bytes, in its turn

module _ (s : Snapshot) where
  abbrev chain : Bool → Bool → Bool → Answer Snapshot
  chain b c d = ask b 1 >> (ask c 2 >> (ask d 3 >> done s))

  passed : (b c d : Bool) → chain b c d ≡ ask b 1 >> (ask c 2 >> (ask true 3 >> chain b c d))
  passed true true d = refl
  passed true false d = refl
  passed false c d = refl

  stopped : (b c d : Bool) → refused (or_three (code (chain b c d))) ≡ ask b 1 >> (ask c 2 >> (ask false 3 >> chain b c d))
  stopped true true true = refl
  stopped true true false = refl
  stopped true false d = refl
  stopped false c d = refl

module _ (b : List ℕ) (r : Range) where
  pub append_formed : snapshot_formed b ≡ true → snapshot_append (snapshot_in b) r ≡ append_in b r
  unfolding append_in snapshot_append
  append_formed e = rw e (passed (more (snapshot_in b) r) (snapshot_lsns (snapshot_in b) && range_lsns r) (snapshot_order (snapshot_in b) && range_order r) (ltb (length (snapshot_in b).path) 8))

  pub append_unformed : snapshot_formed b ≡ false → refused (or_three (code (snapshot_append (snapshot_in b) r))) ≡ append_in b r
  unfolding append_in snapshot_append
  append_unformed e = rw e (stopped (more (snapshot_in b) r) (snapshot_lsns (snapshot_in b) && range_lsns r) (snapshot_order (snapshot_in b) && range_order r) (ltb (length (snapshot_in b).path) 8))

-- the number of an answer that is laid out is the rule's
pub laid_code : (a : Result declared.Snapshot Refusal) (q : Answer Snapshot) → Snap.answer_says a ≡ Snap.laid_answer q → code_of a ≡ code q
laid_code (Err r) q e = ap code (sym (laid_refused q (number_of r) e))
laid_code (Ok s) q e = ap code (sym (laid_done q s e))

-- the checks of a head, in their turn
module _ (b : List ℕ) where
  abbrev lsns : Bool
  lsns = snapshot_lsns (snapshot_in b)

  abbrev ordered : Bool
  ordered = snapshot_order (snapshot_in b)

  pub head_lsns : lsns ≡ false → refused 1 ≡ head_in b
  unfolding head_in
  head_lsns e = rw e

  pub head_order : lsns ≡ true → ordered ≡ false → refused 2 ≡ head_in b
  unfolding head_in
  head_order e f = rw (e, f)

  pub head_unformed : lsns ≡ true → ordered ≡ true → snapshot_formed b ≡ false → refused 3 ≡ head_in b
  unfolding head_in
  head_unformed e f g = rw (e, f, g)

  pub head_done : lsns ≡ true → ordered ≡ true → snapshot_formed b ≡ true → done (Snap.head_of (snapshot_in b)) ≡ head_in b
  unfolding head_in
  head_done e f g = rw (e, f, g)

-- ---- the value that an argument became

module _ (b : List ℕ) (s : declared.Snapshot) (e : s ≡ Snap.laid (snapshot_in b)) where
  -- it says what the bytes spell
  pub arg_says : Snap.snapshot_says s ≡ snapshot_in b
  arg_says = ap Snap.snapshot_says e ∙ laid_says (snapshot_in b)

  -- it has at most 8 ranges
  pub arg_few : s.len ≤ 8
  unfolding Snap.laid
  arg_few = omega (arith, in_few b, ap (λ (x : declared.Snapshot). x.len) e)

  arg_formed : Snap.in_form s ≡ true
  arg_formed = ap Snap.in_form e ∙ laid_formed (snapshot_in b) (in_few b)

  -- and the call by value answers the rule on that
  pub answer_append : (r : LogRange) (range : Range) (a : Result declared.Snapshot Refusal) → Snap.range_says r ≡ range → Snap.answer_says a ≡ Snap.laid_answer (Snap.appended s r) → Snap.answer_says a ≡ Snap.laid_answer (snapshot_append (snapshot_in b) range)
  answer_append r range a f h = h ∙ ap Snap.laid_answer (in_form_lem s r arg_formed ∙ ap₂ snapshot_append arg_says f)
