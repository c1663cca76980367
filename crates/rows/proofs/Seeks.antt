-- The rules' lookups as searches in key order. Where a test names the first field of a key and bounds the second, it holds from a key on and no further:
-- of two keys of which the first is not below (a, x) and the second has a in front, the first has a in front too, since it lies between. So a log's latest
-- commit, a checkpoint at or below an LSN, an index entry of a page and whether a segment has a page present are each the record at the place of one key,
-- and a range of commits or of pages is the run between two.
use Rattle.std.proofs.Common.{◌≡◌, ℕ, ◌^◌, ◌<◌, ◌≤◌, Bool, true, not, ◌&&◌, leb, List, sym, ap, ◌∙◌, arith, le-leb, leb-true}
use Prim.Native.Nat.{Ordering}
use mathlib.Core.Bool.{and_comm}
use lib.Dec.{compare_is_eq, is_le}
use borrow.Author.Tests.{lt-leb}
use Rattle.basics.specs.Numbers.{last_lsn, last_page}
use Rattle.basics.specs.Orders.{next, up, down, bytes, both, log_lsn, log_page_lsn, sid_page, is_lt}
use Rattle.basics.proofs.OrderLaws.{Lawful, equal, lt≢eq, gt≢lt, lt_up, up_lawful, bytes_lawful}
use Rattle.rules.specs.Lists.{first, those, any, is_some}
use Rattle.rules.specs.Records.{Id, Present, Commit, Range, commit_key, checkpoint_key, entry_key, present_key}
use Rattle.rules.specs.Forms.{commit_form, checkpoint_form, entry_form, present_form}
use Rattle.rules.specs.Tables.{same_id, latest, checkpoint_at}
use Rattle.rules.specs.Walk.{in_range}
use Rattle.rules.specs.Search.{entry_in}
use Rattle.rules.specs.Reads.{present_in}
use Rattle.rules.proofs.TableLaws.{first_any, orders, clash, and_fst, and_snd, and_both}
use Rattle.rules.proofs.Facts.{same_id_lem, id_same, entry_in_lem, in_entry}
use Rattle.table.specs.Records.{spot, place}
use Rattle.table.specs.Table.{recs}
use Rattle.table.specs.Run.{RunOf}
use Rattle.layout.specs.Tables.{commits_in, checkpoints_in, index_in, presence_in, commits_ok, checkpoints_ok, index_ok, presence_ok}
use Rattle.rows.specs.Lookups.{nth, stretch, only_if, within}
use Rattle.rows.proofs.Finds.{Names, FromOn, first_place, run_rows}
use Rattle.rows.proofs.Removals.{within_one}
use Rattle.rows.proofs.Tables.{commits, checkpoints, index, presence, commit_ok, present_ok}

-- ---- a pair of which the first part is given

module _ {A B : Type 0} {f : A → A → Ordering} (F : Lawful f) (g : B → B → Ordering) where
  -- what is said of a pair with that first part is said of its second
  pair_same : (a : A) (x : B) (p : A × B) → a ≡ p.0 → both f g (a, x) p ≡ g x p.1
  pair_same a x p e = ap (λ (o : Ordering). next o (g x p.1)) (equal F e)

  -- p, not below (a, x) and below q, has the first part of q, if that is a
  pinned : (a : A) (x : B) (p q : A × B) → is_le (both f g (a, x) p) ≡ true → both f g p q ≡ Ordering.lt → a ≡ q.0 → a ≡ p.0
  pinned a x p q n l e =
      orders (f a p.0)
      (λ h. absurd (orders (f p.0 q.0)
      (λ k. lt≢eq (sym (F.trans a p.0 q.0 h k) ∙ equal F e))
      (λ k. lt≢eq (sym h ∙ equal F (e ∙ sym (F.same p.0 q.0 k))))
      (λ k. gt≢lt (sym (ap (λ (o : Ordering). next o (g p.1 q.1)) k) ∙ l))))
      (λ h. F.same a p.0 h)
      (λ h. absurd (clash n (ap (λ (o : Ordering). is_le (next o (g x p.1))) h)))

at_least : (m y : ℕ) → not (is_lt (up y m)) ≡ leb m y
at_least m y =
    orders (up y m)
    (λ h. rw h (sym (lt-leb m y (lt_up y m h))))
    (λ h. rw h (sym (le-leb m y (omega (arith, up_lawful.same y m h)))))
    (λ h. rw h (sym (le-leb m y (omega (arith, lt_up m y (up_lawful.turn y m h))))))

-- ---- a key of an identifier and a number that goes down

module _ {R : Type 0} (key : R → List ℕ × ℕ) (form : R → Bool) (a : Id) (n : ℕ) where
  -- the records of an identifier whose number is at most n
  below_on : FromOn key (both bytes down) form (λ r. same_id a (key r).0 && leb (key r).1 n) (a, n)
  below_on = record {
    after = λ r e h.
        ap is_le (pair_same bytes_lawful down a n (key r) (same_id_lem a (key r).0 (and_fst (same_id a (key r).0) (leb (key r).1 n) h)))
        ∙ and_snd (same_id a (key r).0) (leb (key r).1 n) h;
    falling = λ p q ep eq h l g.
        let s : a ≡ (key p).0 = pinned bytes_lawful down a n (key p) (key q) h l (same_id_lem a (key q).0 (and_fst (same_id a (key q).0) (leb (key q).1 n) g)) in
        and_both (id_same a (key p).0 s) (sym (ap is_le (pair_same bytes_lawful down a n (key p) s)) ∙ h);
  }

  -- all records of an identifier, where no number is above n
  all_on : ((r : R) → form r ≡ true → (key r).1 ≤ n) → FromOn key (both bytes down) form (λ r. same_id a (key r).0) (a, n)
  all_on top = record {
    after = λ r e h. below_on.after r e (and_both h (le-leb (key r).1 n (top r e)));
    falling = λ p q ep eq h l g. and_fst (same_id a (key p).0) (leb (key p).1 n) (below_on.falling p q ep eq h l (and_both g (le-leb (key q).1 n (top q eq))));
  }

  -- the records from one key to another of the same identifier
  within_is : (m : ℕ) (r : R) → within key (both bytes down) (a, n) (a, m) r ≡ (same_id a (key r).0 && leb m (key r).1 && leb (key r).1 n)
  within_is m r =
      orders (bytes a (key r).0) (λ h. rw h) (λ h. rw (h, at_least m (key r).1) (and_comm (leb (key r).1 n) (leb m (key r).1))) (λ h. rw h)

-- ---- the index: log up, page up, LSN down

entry_on : (r : Range) (p : ℕ) → FromOn entry_key log_page_lsn entry_form (entry_in r p) (r.log, (p, r.end))
entry_on r p = record {
  after = λ e f h.
      let k = entry_in_lem r p e h in
      ap is_le (pair_same bytes_lawful (both up down) r.log (p, r.end) (entry_key e) k.log ∙ pair_same up_lawful down p r.end (e.page, e.lsn) k.page)
      ∙ le-leb e.lsn r.end k.end;
  falling = λ x y fx fy h l g.
      let k = entry_in_lem r p y g in
      let log : r.log ≡ x.log = pinned bytes_lawful (both up down) r.log (p, r.end) (entry_key x) (entry_key y) h l k.log in
      let h₁ = sym (ap is_le (pair_same bytes_lawful (both up down) r.log (p, r.end) (entry_key x) log)) ∙ h in
      let l₁ = sym (pair_same bytes_lawful (both up down) x.log (x.page, x.lsn) (entry_key y) (sym log ∙ k.log)) ∙ l in
      let page : p ≡ x.page = pinned up_lawful down p r.end (x.page, x.lsn) (y.page, y.lsn) h₁ l₁ k.page in
      let h₂ = sym (ap is_le (pair_same up_lawful down p r.end (x.page, x.lsn) page)) ∙ h₁ in
      let l₂ = sym (pair_same up_lawful down x.page x.lsn (y.page, y.lsn) (sym page ∙ k.page)) ∙ l₁ in
      in_entry r p x (record { log = log; page = page; start = omega (arith, k.start, lt_up y.lsn x.lsn l₂); end = leb-true x.lsn r.end h₂ });
}

-- ---- in the bytes of a table

-- LSNs and pages in form are at most the last
lsn_top : (n : ℕ) → n < 256 ^ 8 → n ≤ last_lsn
unfolding last_lsn
lsn_top n h = omega arith

page_top : (n : ℕ) → n < 256 ^ 4 → n ≤ last_page
unfolding last_page
page_top n h = omega arith

-- a log's latest commit is at the place of its last LSN, if the record there is the log's
pub latest_at : (t : List ℕ) → commits_ok t ≡ true → (log : Id) (kb : List ℕ) → Names commits kb (log, last_lsn) → (i : ℕ) → i ≡ place (spot 25 kb (recs 722 t))
    → latest (commits_in t) log ≡ only_if (λ c. same_id log c.log) (nth i (commits_in t).rows)
latest_at t e log kb n i p =
    first_place commits kb (log, last_lsn) n t e (λ c. same_id log c.log) (all_on commit_key commit_form log last_lsn (λ c f. lsn_top c.lsn (commit_ok c f).1)) i p

-- the highest checkpoint at or below an LSN is at the place of that LSN
pub checkpoint_at_lem : (t : List ℕ) → checkpoints_ok t ≡ true → (log : Id) (lsn : ℕ) (kb : List ℕ) → Names checkpoints kb (log, lsn) → (i : ℕ) → i ≡ place (spot 25 kb (recs 25 t))
    → checkpoint_at (checkpoints_in t) log lsn ≡ only_if (λ k. same_id log k.log && leb k.lsn lsn) (nth i (checkpoints_in t).rows)
checkpoint_at_lem t e log lsn kb n i p =
    first_place checkpoints kb (log, lsn) n t e (λ k. same_id log k.log && leb k.lsn lsn) (below_on checkpoint_key checkpoint_form log lsn) i p

-- the entry of a page in a range is at the place of the range's last LSN
pub entry_at : (t : List ℕ) → index_ok t ≡ true → (r : Range) (page : ℕ) (kb : List ℕ) → Names index kb (r.log, (page, r.end)) → (i : ℕ) → i ≡ place (spot 29 kb (recs 29 t))
    → first (entry_in r page) (index_in t).rows ≡ only_if (entry_in r page) (nth i (index_in t).rows)
entry_at t e r page kb n i p = first_place index kb (r.log, (page, r.end)) n t e (entry_in r page) (entry_on r page) i p

-- a segment has a page present where the record at the place of the last page is the segment's
pub present_at : (t : List ℕ) → presence_ok t ≡ true → (sid : Id) (kb : List ℕ) → Names presence kb (sid, last_page) → (i : ℕ) → i ≡ place (spot 21 kb (recs 21 t))
    → any (λ p. same_id sid p.sid) (presence_in t).rows ≡ is_some (only_if (λ p. same_id sid p.sid) (nth i (presence_in t).rows))
present_at t e sid kb n i p =
    first_any (λ p. same_id sid p.sid) (presence_in t).rows
    ∙ ap is_some (first_place presence kb (sid, last_page) n t e (λ p. same_id sid p.sid) (all_on present_key present_form sid last_page (λ p f. page_top p.page (present_ok p f).1)) i p)

-- the commits of a range are the run from its last LSN to its first
range_is : (r : Range) → within commit_key log_lsn (r.log, r.end) (r.log, r.start) ≡ in_range r
unfolding in_range
range_is r d c = within_is commit_key commit_form r.log r.end r.start c d

pub range_run : (t : List ℕ) → commits_ok t ≡ true → (r : Range) (a b : List ℕ) → Names commits a (r.log, r.end) → Names commits b (r.log, r.start) → (i j : ℕ) → RunOf 722 25 a b t i j
    → stretch i j (commits_in t).rows ≡ those (in_range r) (commits_in t).rows
range_run t e r a b na nb i j h =
    run_rows commits a b (r.log, r.end) (r.log, r.start) na nb t e i j h ∙ ap (λ (f : Commit → Bool). those f (commits_in t).rows) (range_is r)

-- the pages of a segment from a to b are the run from b to a
pub pages_are : (sid : Id) (a b : ℕ) → within present_key sid_page (sid, b) (sid, a) ≡ present_in sid a b
pages_are sid a b d p = within_is present_key present_form sid b a p d

-- one page is the record of its key
pub page_is : (sid : Id) (page : ℕ) → ◌≡◌ {A = Present → Bool} (λ p. compare_is_eq (sid_page (sid, page) (present_key p))) (present_in sid page page)
page_is sid page = sym (within_one present_key sid_page (sid, page)) ∙ pages_are sid page page
