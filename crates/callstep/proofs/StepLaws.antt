-- The step of a line from the step of its call: the parser's answer names the call that the line means, and what the call prints and leaves is what the step says. Two steps of a line are the same.
use Rattle.std.proofs.Common.{◌≡◌, ℕ, ◌+◌, ◌≤◌, true, List, [], length, sym, refl, ap, ◌∙◌}
use mathlib.Core.Option.{Option, none, some}
use Rattle.basics.specs.Answers.{Answer, refused, done, code}
use Rattle.rules.specs.Records.{Pages, Volume}
use Rattle.rules.specs.Tables.{Table}
use Rattle.layout.specs.Records.{volume_bytes}
use Rattle.layout.specs.Lent.{after}
use Rattle.callline.specs.declared.Line.{Line}
use Rattle.callline.specs.declared.Line.TheVariants as Line
use Rattle.callline.specs.Texts.{Text, between}
use Rattle.callline.specs.Values.{pages_of}
use Rattle.callline.specs.Lines.{Call, Open, Snap, Save, Find, Fetch, Pull, meaning}
use Rattle.callline.specs.Says.{ranges_in, line_says, is_done, Placed}
use Rattle.callstep.specs.declared.Printed.{Printed}
use Rattle.callvalues.specs.Slots.{slots_after}
use Rattle.callstep.specs.Testers.{Tester}
use Rattle.callstep.specs.Steps.{Step, Steps, SetOf, ranges_named, step_by, open_on, snap_on, snap_head, saved_on, saved_head, after_save, find_on, found_head, fetch_on, pull_on, with_volumes, with_slots, after_write}
use Rattle.callstep.specs.Says.{printed_says, stepped, Saves, Fetches}
use Rattle.callstep.proofs.Named.{none_named, one_named}

-- what is printed and what is left make the step
stepped_is : (p : Printed) (n : ℕ) (h : Option (ℕ × ℕ)) → printed_says p ≡ (n, h) → (t u : Tester) → t ≡ u → stepped p t ≡ record { code = n; head = h; tester = u }
stepped_is p n h e t u f = λ i. record { code = (e i).0; head = (e i).1; tester = f i }

-- the step of an answer of the parser
step_of : (t : Tester) (line : Text) (a : Answer Call) → meaning line ≡ a → (pages : Answer Pages) → SetOf (ranges_named a) pages → (o : Step) → o ≡ step_by t pages a → Steps t line o
step_of t line a m pages s o e = record { pages = pages; are = rw m s; is = rw m e }

module _ (vs cs ks es ps slots : List ℕ) (line : Text) (l : Line) (means : line_says line l ≡ meaning line) (placed : Placed line l) where
  abbrev t : Tester
  t = record { volumes = vs; commits = cs; checkpoints = ks; index = es; presence = ps; slots = slots }

  means_by : (k : Line) → l ≡ k → meaning line ≡ line_says line k
  means_by k e = sym means ∙ ap (line_says line) e

  -- ---- slots and pages that the parser's answer names

  pub snap_slot : (v s : ℕ) → l ≡ Line.Snap v s → s ≤ 3
  snap_slot v s e = rw e at placed

  pub find_slot : (s p : ℕ) → l ≡ Line.Find s p → s ≤ 3
  find_slot s p e = rw e at placed

  pub save_slot : (v s c i from to : ℕ) → l ≡ Line.Save v s c i from to → s ≤ 3
  save_slot v s c i from to e = let h : Placed line (Line.Save v s c i from to) = rw e at placed in h.0

  pub save_pages : (v s c i from to : ℕ) → l ≡ Line.Save v s c i from to → (from ≤ to) × (to ≤ length line) × (is_done (pages_of (between from to line)) ≡ true)
  save_pages v s c i from to e = let h : Placed line (Line.Save v s c i from to) = rw e at placed in h.1

  pub fetch_pages : (g n c i from to : ℕ) → l ≡ Line.Fetch g n c i from to → (from ≤ to) × (to ≤ length line) × (is_done (pages_of (between from to line)) ≡ true)
  fetch_pages g n c i from to e = rw e at placed

  -- ---- the steps

  pub refuses : l ≡ Line.Malformed → (p : Printed) → printed_says p ≡ (24, none) → Steps t line (stepped p t)
  refuses e p f = step_of t line (refused 24) (means_by Line.Malformed e) (done []) none_named _ (stepped_is p 24 none f t t refl)

  pub opens : (v n f : ℕ) → l ≡ Line.Open v n f → (p : Printed) (m : ℕ) → printed_says p ≡ (m, none) → m ≡ code (open_on vs cs v n f) → (vs' : List ℕ)
      → vs' ≡ after volume_bytes (λ (x : Volume × Table Volume). x.1) vs (open_on vs cs v n f) → Steps t line (stepped p (with_volumes t vs'))
  opens v n f e p m g h vs' k =
      step_of t line (done (Open v n f)) (means_by (Line.Open v n f) e) (done []) none_named _
      (stepped_is p _ none (g ∙ ap (λ (x : ℕ). (x, none)) h) _ _ (ap (with_volumes t) k))

  pub pulls : (v : ℕ) → l ≡ Line.Pull v → (p : Printed) (m : ℕ) → printed_says p ≡ (m, none) → m ≡ code (pull_on vs cs v) → (vs' : List ℕ)
      → vs' ≡ after volume_bytes (λ (x : Table Volume). x) vs (pull_on vs cs v) → Steps t line (stepped p (with_volumes t vs'))
  pulls v e p m g h vs' k =
      step_of t line (done (Pull v)) (means_by (Line.Pull v) e) (done []) none_named _
      (stepped_is p _ none (g ∙ ap (λ (x : ℕ). (x, none)) h) _ _ (ap (with_volumes t) k))

  pub snaps : (v s : ℕ) → l ≡ Line.Snap v s → (p : Printed) → printed_says p ≡ (code (snap_on vs cs v), snap_head (snap_on vs cs v)) → (slots' : List ℕ) → slots' ≡ slots_after s slots (snap_on vs cs v)
      → Steps t line (stepped p (with_slots t slots'))
  snaps v s e p g slots' k =
      step_of t line (done (Snap v s)) (means_by (Line.Snap v s) e) (done []) none_named _ (stepped_is p _ _ g _ _ (ap (with_slots t) k))

  pub finds : (s n : ℕ) → l ≡ Line.Find s n → (p : Printed) → printed_says p ≡ (code (find_on cs es slots s n), found_head (find_on cs es slots s n)) → Steps t line (stepped p t)
  finds s n e p g = step_of t line (done (Find s n)) (means_by (Line.Find s n) e) (done []) none_named _ (stepped_is p _ _ g t t refl)

  pub saves : (v s c i from to : ℕ) → l ≡ Line.Save v s c i from to → (p : Printed) (u : Tester) → Saves t v s c i (between from to line) p u → Steps t line (stepped p u)
  saves v s c i from to e p u k =
      step_of t line (done (Save v s c i (ranges_in (between from to line)))) (means_by (Line.Save v s c i from to) e) k.pages k.are _ (stepped_is p _ _ k.says u _ k.leaves)

  pub fetches : (g n c i from to : ℕ) → l ≡ Line.Fetch g n c i from to → (p : Printed) (m : ℕ) → printed_says p ≡ (m, none) → (cs' ks' es' : List ℕ)
      → Fetches cs ks es g n c i (between from to line) m cs' ks' es'
      → Steps t line (stepped p (record { volumes = vs; commits = cs'; checkpoints = ks'; index = es'; presence = ps; slots = slots }))
  fetches g n c i from to e p m f cs' ks' es' k =
      step_of t line (done (Fetch g n c i (ranges_in (between from to line)))) (means_by (Line.Fetch g n c i from to) e) k.pages k.are _
      (stepped_is p _ none (f ∙ ap (λ (x : ℕ). (x, none)) k.number) _ _
      (λ j. record { volumes = vs; commits = k.of_commits j; checkpoints = k.of_checkpoints j; index = k.of_index j; presence = ps; slots = slots }))

-- ---- one step

-- a line has one step: what it prints and every lent byte afterwards
pub one_step : (t : Tester) (line : Text) (o q : Step) → Steps t line o → Steps t line q → o ≡ q
one_step t line o q h k = h.is ∙ ap (λ (a : Answer Pages). step_by t a (meaning line)) (one_named (ranges_named (meaning line)) h.pages k.pages h.are k.are) ∙ sym k.is
