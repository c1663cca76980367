-- A lookup by one find: what is found is the record at the place of the key, if there is one and it passes the lookup's test.
use Rattle.std.specs.Prelude.{◌≡◌, ℕ, ◌+◌, ◌*◌, ◌^◌, ◌<◌, ◌≤◌, Bool, true, false, cond, ◌&&◌, leb, List, length}
use mathlib.Core.Path.{refl, sym, ap, ◌∙◌, subst}
use mathlib.Core.Option.{Option, none, some, map}
use Rattle.octets.specs.Bytes.{part}
use Rattle.rules.specs.Lists.{first}
use Rattle.rules.specs.Records.{Range, Checkpoint, Entry}
use Rattle.rules.specs.Tables.{same_id, checkpoint_at}
use Rattle.rules.specs.Search.{entry_in}
use Rattle.table.specs.Records.{spot, place}
use Rattle.table.specs.Table.{recs, count_of}
use Rattle.layout.specs.Records.{log_lsn_bytes, log_page_lsn_bytes, checkpoint_bytes, entry_bytes}
use Rattle.layout.specs.Tables.{checkpoints_in, checkpoints_ok, index_in, index_ok}
use Rattle.rows.specs.Lookups.{nth, only_if}
use Rattle.rows.proofs.Finds.{Names, row_at, row_nth, row_end}
use Rattle.rows.proofs.Tables.{checkpoints, index, checkpoint_key_lem, entry_key_lem}
use Rattle.rows.proofs.Seeks.{checkpoint_at_lem, entry_at}

-- what is found is g of a record
module _ {R : Type 0} (g : R → ℕ) (f : R → Bool) (o q : Option R) (h : o ≡ only_if f q) where
  pub found_none : q ≡ none → none ≡ map g o
  found_none e = sym (ap (map g) (h ∙ ap (only_if f) e))

  module _ (x : R) (e : q ≡ some x) (b : Bool) (eb : b ≡ f x) where
    pub found_not : b ≡ false → none ≡ map g o
    found_not z = sym (ap (map g) (h ∙ ap (only_if f) e ∙ ap (λ c. cond c (some x) none) (sym eb ∙ z)))

    pub found_it : b ≡ true → (n : ℕ) → n ≡ g x → some n ≡ map g o
    found_it z n en = ap some en ∙ sym (ap (map g) (h ∙ ap (only_if f) e ∙ ap (λ c. cond c (some x) none) (sym eb ∙ z)))

-- the checkpoint at or below an LSN
module _ (t : List ℕ) (e : checkpoints_ok t ≡ true) (log : List ℕ) (lsn : ℕ) (l : length log ≡ 16) (b : lsn < 256 ^ 8) (kb : List ℕ) (ek : kb ≡ log_lsn_bytes.spell (log, lsn)) (i : ℕ) (ei : i ≡ place (spot 25 kb (recs 25 t))) where
  pub checkpoint_place : checkpoint_at (checkpoints_in t) log lsn ≡ only_if (λ k. same_id log k.log && leb k.lsn lsn) (nth i (checkpoints_in t).rows)
  checkpoint_place = checkpoint_at_lem t e log lsn kb (subst (λ x. Names checkpoints x (log, lsn)) (sym ek) (checkpoint_key_lem (log, lsn) (l, b))) i ei

-- the entry of a page in a range
module _ (t : List ℕ) (e : index_ok t ≡ true) (r : Range) (page : ℕ) (l : length r.log ≡ 16) (p : page < 256 ^ 4) (b : r.end < 256 ^ 8) (kb : List ℕ) (ek : kb ≡ log_page_lsn_bytes.spell (r.log, (page, r.end))) (i : ℕ) (ei : i ≡ place (spot 29 kb (recs 29 t))) where
  pub entry_place : first (entry_in r page) (index_in t).rows ≡ only_if (entry_in r page) (nth i (index_in t).rows)
  entry_place = entry_at t e r page kb (subst (λ x. Names index x (r.log, (page, r.end))) (sym ek) (entry_key_lem (r.log, (page, r.end)) (l, (p, b)))) i ei
