-- Missing frames at each way out of the code: 20, the snapshot's own number, 19 where the frames need more places than there are, else the frames.
use Rattle.std.proofs.Common.{◌≡◌, ℕ, ◌/◌, Bool, true, false, ◌&&◌, leb, List, length, sym, ap, ◌∙◌, ap₂}
use Rattle.octets.specs.Bytes.{put}
use Rattle.octets.specs.Flat.{flat}
use Rattle.basics.specs.Answers.{Answer, done, code, ask, ◌>>=◌, ◌>>◌}
use Rattle.rules.specs.Records.{Snapshot}
use Rattle.rules.specs.Arguments.{snapshot_lsns, snapshot_order, snapshot_form}
use Rattle.rules.specs.Frames.{Part}
use Rattle.rules.specs.Walk.{walk_of, missing_of, missing_frames}
use Rattle.rules.proofs.TableLaws.{and_both}
use Rattle.layout.specs.Values.{part_bytes}
use Rattle.layout.specs.Tables.{commits_in, commits_ok, presence_in, presence_ok}
use Rattle.layout.specs.Lent.{lent}
use Rattle.layout.proofs.LentLaws.{lent_no, lent_yes}
use Rattle.rows.proofs.Rows.{formed_rules}
use Rattle.rows.proofs.Tables.{commits, presence}
use Rattle.arguments.specs.Snapshots.{snapshot_in}
use Rattle.arguments.specs.Replies.{none_under, given}
use Rattle.segmentargs.proofs.SegmentLaws.{range_size}
use Rattle.resultlists.specs.Lists.{slots_in, list_left}
use Rattle.resultlists.specs.Snapshots.{snapshot_given, on_snapshot}
use Rattle.resultlists.proofs.AnswerLaws.{left_refused}
use Rattle.resultlists.proofs.SnapshotLaws.{given_refused, given_read, given_passed}

module _ (t p b was : List ℕ) (items : ℕ) where
  abbrev okay : Bool
  okay = commits_ok t && presence_ok p

  abbrev rule : Answer (List Part)
  rule = lent okay (on_snapshot b (missing_frames (commits_in t) (presence_in p) (slots_in part_bytes was)))

  -- 20
  pub no_table : okay ≡ false → (none_under 20, (was, items)) ≡ list_left part_bytes was items rule
  no_table e = left_refused part_bytes was items rule 20 (lent_no okay (on_snapshot b (missing_frames (commits_in t) (presence_in p) (slots_in part_bytes was))) e)

  module _ (ok : commits_ok t ≡ true) (also : presence_ok p ≡ true) (n : ℕ) (e : n ≡ code (snapshot_given b)) where
    -- 1, 2, 3
    pub no_snapshot : (n ≡ 0 → ⊥) → (none_under n, (was, items)) ≡ list_left part_bytes was items rule
    no_snapshot z =
        left_refused part_bytes was items rule n
        (lent_yes okay (on_snapshot b (missing_frames (commits_in t) (presence_in p) (slots_in part_bytes was))) (and_both ok also)
        ∙ ap (λ (a : Answer Snapshot). a >>= missing_frames (commits_in t) (presence_in p) (slots_in part_bytes was)) (given_refused b n e z))

    module _ (z : n ≡ 0) (l : List Part) (h : l ≡ missing_of (presence_in p) (walk_of (commits_in t) (snapshot_in b))) where
      abbrev last : List Part → Answer (List Part)
      last x = ask (leb (length x) (slots_in part_bytes was)) 19 >> done x

      abbrev asked : Snapshot → Answer (List Part)
      asked s = ask (snapshot_lsns s) 1 >> (ask (snapshot_order s) 2 >> (ask (snapshot_form s) 3 >> last (missing_of (presence_in p) (walk_of (commits_in t) s))))

      passed : rule ≡ (ask (leb (length l) (length was / 417)) 19 >> done l)
      unfolding missing_frames
      passed =
          lent_yes okay (on_snapshot b (missing_frames (commits_in t) (presence_in p) (slots_in part_bytes was))) (and_both ok also)
          ∙ ap (λ (a : Answer Snapshot). a >>= missing_frames (commits_in t) (presence_in p) (slots_in part_bytes was)) (given_read b n e z)
          ∙ ap (λ (x : Bool). ask x 20 >> asked (snapshot_in b)) (and_both (formed_rules commits t ok) (formed_rules presence p also))
          ∙ given_passed b n e z (last (missing_of (presence_in p) (walk_of (commits_in t) (snapshot_in b))))
          ∙ ap last (sym h)
          ∙ ap (λ (m : ℕ). ask (leb (length l) (length was / m)) 19 >> done l) range_size

      -- 19
      pub no_room : leb (length l) (length was / 417) ≡ false → (none_under 19, (was, items)) ≡ list_left part_bytes was items rule
      no_room f = left_refused part_bytes was items rule 19 (passed ∙ ap (λ (x : Bool). ask x 19 >> done l) f)

      -- the frames, and their number
      pub listed : leb (length l) (length was / 417) ≡ true → (u : List ℕ) (m : ℕ) → u ≡ put 0 (flat part_bytes.spell l) was → m ≡ length l → (given, (u, m)) ≡ list_left part_bytes was items rule
      listed f u m v q =
          ap₂ (λ (x : List ℕ) (y : ℕ). (given, (x, y))) v q ∙ ap (list_left part_bytes was items) (sym (passed ∙ ap (λ (x : Bool). ask x 19 >> done l) f))
