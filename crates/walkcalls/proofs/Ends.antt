-- The walk at each way out of the code: 20, the snapshot's own number, 19 where the items need more places than there are, else the items.
use Rattle.std.proofs.Common.{◌≡◌, ℕ, ◌/◌, ◌≤◌, Bool, true, false, leb, List, length, sym, ap, ◌∙◌, ap₂, arith}
use Rattle.octets.specs.Bytes.{put}
use Rattle.octets.specs.Flat.{flat}
use Rattle.basics.specs.Answers.{Answer, done, code, ask, ◌>>=◌, ◌>>◌}
use Rattle.rules.specs.Records.{Snapshot}
use Rattle.rules.specs.Arguments.{snapshot_lsns, snapshot_order, snapshot_form}
use Rattle.rules.specs.Walk.{Item, walk_of, walk}
use Rattle.layout.specs.Tables.{commits_in, commits_ok}
use Rattle.layout.specs.Lent.{lent}
use Rattle.layout.proofs.LentLaws.{lent_no, lent_yes}
use Rattle.rows.proofs.Rows.{formed_rules}
use Rattle.rows.proofs.Tables.{commits}
use Rattle.table.specs.declared.Run.{Run}
use Rattle.volume.specs.declared.snapshot.Snapshot.{Snapshot as CodeSnapshot}
use Rattle.volume.specs.Snapshots.{snapshot_says, laid}
use Rattle.volume.proofs.SnapshotLaws.{laid_says}
use Rattle.gifts.specs.Paths.{places_in, PathOf}
use Rattle.gifts.specs.Steps.{items_from}
use Rattle.gifts.proofs.WalkLaws.{items_all}
use Rattle.arguments.specs.Snapshots.{snapshot_in}
use Rattle.arguments.proofs.SnapshotLaws.{in_few}
use Rattle.arguments.specs.Replies.{none_under, given}
use Rattle.resultlists.specs.Lists.{slots_in, list_left}
use Rattle.resultlists.specs.Snapshots.{snapshot_given, on_snapshot}
use Rattle.resultlists.proofs.AnswerLaws.{left_refused}
use Rattle.resultlists.proofs.SnapshotLaws.{given_refused, given_read, given_passed}
use Rattle.walkcalls.specs.Items.{item_bytes}
use Rattle.walkcalls.proofs.ItemLaws.{item_size}

-- the snapshot that was read of bytes
module _ (b : List ℕ) (s : CodeSnapshot) (e : s ≡ laid (snapshot_in b)) where
  pub arg_few : s.len ≤ 8
  unfolding laid
  arg_few = omega (arith, ap (λ (x : CodeSnapshot). x.len) e, in_few b)

  -- the walk of its path, by places
  pub arg_items : (t : List ℕ) (runs : List Run) → PathOf t (snapshot_says s).path runs → items_from t s.count.0 (places_in runs) 0 ≡ walk_of (commits_in t) (snapshot_in b)
  arg_items t runs h = items_all t (snapshot_says s) runs h ∙ ap (walk_of (commits_in t)) (ap snapshot_says e ∙ laid_says (snapshot_in b))

module _ (t b was : List ℕ) (items : ℕ) where
  abbrev rule : Answer (List Item)
  rule = lent (commits_ok t) (on_snapshot b (walk (commits_in t) (slots_in item_bytes was)))

  -- 20
  pub no_table : commits_ok t ≡ false → (none_under 20, (was, items)) ≡ list_left item_bytes was items rule
  no_table e = left_refused item_bytes was items rule 20 (lent_no (commits_ok t) (on_snapshot b (walk (commits_in t) (slots_in item_bytes was))) e)

  module _ (ok : commits_ok t ≡ true) (n : ℕ) (e : n ≡ code (snapshot_given b)) where
    -- 1, 2, 3
    pub no_snapshot : (n ≡ 0 → ⊥) → (none_under n, (was, items)) ≡ list_left item_bytes was items rule
    no_snapshot z =
        left_refused item_bytes was items rule n
        (lent_yes (commits_ok t) (on_snapshot b (walk (commits_in t) (slots_in item_bytes was))) ok
        ∙ ap (λ (a : Answer Snapshot). a >>= walk (commits_in t) (slots_in item_bytes was)) (given_refused b n e z))

    module _ (z : n ≡ 0) (l : List Item) (h : l ≡ walk_of (commits_in t) (snapshot_in b)) where
      abbrev last : List Item → Answer (List Item)
      last x = ask (leb (length x) (slots_in item_bytes was)) 19 >> done x

      abbrev asked : Snapshot → Answer (List Item)
      asked s = ask (snapshot_lsns s) 1 >> (ask (snapshot_order s) 2 >> (ask (snapshot_form s) 3 >> last (walk_of (commits_in t) s)))

      passed : rule ≡ (ask (leb (length l) (length was / 1003)) 19 >> done l)
      unfolding walk
      passed =
          lent_yes (commits_ok t) (on_snapshot b (walk (commits_in t) (slots_in item_bytes was))) ok
          ∙ ap (λ (a : Answer Snapshot). a >>= walk (commits_in t) (slots_in item_bytes was)) (given_read b n e z)
          ∙ ap (λ (x : Bool). ask x 20 >> asked (snapshot_in b)) (formed_rules commits t ok)
          ∙ given_passed b n e z (last (walk_of (commits_in t) (snapshot_in b)))
          ∙ ap last (sym h)
          ∙ ap (λ (m : ℕ). ask (leb (length l) (length was / m)) 19 >> done l) item_size

      -- 19
      pub no_room : leb (length l) (length was / 1003) ≡ false → (none_under 19, (was, items)) ≡ list_left item_bytes was items rule
      no_room f = left_refused item_bytes was items rule 19 (passed ∙ ap (λ (x : Bool). ask x 19 >> done l) f)

      -- the items, and their number
      pub walked : leb (length l) (length was / 1003) ≡ true → (u : List ℕ) (m : ℕ) → u ≡ put 0 (flat item_bytes.spell l) was → m ≡ length l → (given, (u, m)) ≡ list_left item_bytes was items rule
      walked f u m p q =
          ap₂ (λ (x : List ℕ) (y : ℕ). (given, (x, y))) p q ∙ ap (list_left item_bytes was items) (sym (passed ∙ ap (λ (x : Bool). ask x 19 >> done l) f))
