-- The loop that puts the entries in. It keeps the state of a merge from the back (`Merging`) in which the rows of the pages that are left are still to come: a turn
-- merges the last of them, and where none is left the table is that of all the entries put in.
use Rattle.std.proofs.Common.{◌≡◌, ℕ, ◌+◌, ◌-◌, ◌*◌, ◌<◌, ◌≤◌, true, List, [], ◌∷◌, ◌++◌, length, sym, ap, ◌∙◌, subst, arith}
use Rattle.octets.specs.Bytes.{bytes_of}
use Rattle.octets.specs.Bytes as B
use Rattle.octets.proofs.Numbers as N
use Rattle.octets.proofs.Places as P
use Rattle.pageset.specs.declared.PageSet.{PageSet}
use Rattle.pageset.specs.Sets.{shown, normal, zero_window}
use Rattle.table.specs.Records.{rises, spot, hits}
use Rattle.table.specs.Table.{runs, count_of, recs, laid, well_ordered, fits}
use Rattle.table.proofs.Keys.{rises_front}
use Rattle.batch.specs.Batch.{put_all, news, Merged}
use Rattle.batch.proofs.Puts.{news_rising}
use Rattle.batch.proofs.Merges.{Merging, Ready, total_small, total_room, merging_start, merging_next, next_ready, merging_done}
use Rattle.layout.specs.Records.{log_page_lsn_bytes}
use Rattle.pagesdown.specs.Down.{pages_left}
use Rattle.indexing.specs.Rows.{with_page, entry_rows}
use Rattle.indexing.proofs.EntryTurns.{page_rows, rows_last, all_left, all_rise, all_long}

-- the merge under way: t₀ was the table, `all` are the pages, ps are those that are left, c keys are new
pub record Entering (row : List ℕ) (c : ℕ) (all ps : List ℕ) (t₀ : List ℕ) (held coming : ℕ) (t : List ℕ) : Type 0 where
  pub merging : Merging 29 29 (count_of t₀ + c) held coming (page_rows row ps) (page_rows row all) t₀ t
  pub up : rises 29 (page_rows row ps) ≡ true

-- ---- the start

module _ (log : List ℕ) (h : length log ≡ 16) (lsn : ℕ) (row : List ℕ) (f : row ≡ log_page_lsn_bytes.spell (log, (0, lsn))) (s : PageSet) (e : normal s ≡ true) (c : ℕ) (t₀ : List ℕ)
    (w : well_ordered 29 29 t₀ ≡ true) (n : c ≡ news 29 (entry_rows log lsn (shown s)) (recs 29 t₀)) (r : fits 29 (put_all 29 (entry_rows log lsn (shown s)) (recs 29 t₀)) t₀ ≡ true) where
  abbrev all : List ℕ
  all = pages_left s.windows s.len zero_window

  pub entering_ready : Ready 29 29 c (page_rows row (pages_left s.windows s.len zero_window)) t₀
  entering_ready =
      subst (λ (rs : List (List ℕ)). Ready 29 29 c rs t₀) (sym (all_left log h lsn row f s e))
      (record {
        some = omega arith;
        long = all_long log h lsn row f s e;
        well = w;
        up = all_rise log h lsn row f s e;
        new = n ∙ news_rising 29 (entry_rows log lsn (shown s)) (recs 29 t₀) (all_rise log h lsn row f s e);
        room = r;
      })

  pub entering_start : Entering row c (pages_left s.windows s.len zero_window) (pages_left s.windows s.len zero_window) t₀ (count_of t₀) c t₀
  entering_start = record { merging = merging_start 29 29 c (page_rows row all) t₀ entering_ready; up = entering_ready.up }

  -- ---- the end: none is left, and the count is stored

  pub entering_end : (ps : List ℕ) (held coming : ℕ) (t u : List ℕ) → Entering row c (pages_left s.windows s.len zero_window) ps t₀ held coming t → ps ≡ []
      → u ≡ B.put 0 (bytes_of 2 (count_of t₀ + c)) t → u ≡ laid (put_all 29 (entry_rows log lsn (shown s)) (recs 29 t₀)) t₀
  entering_end ps held coming t u q z g =
      let m = subst (λ (l : List ℕ). Merging 29 29 (count_of t₀ + c) held coming (page_rows row l) (page_rows row all) t₀ t) z q.merging in
      merging_done 29 29 c held coming (page_rows row all) t₀ t entering_ready m u g
      ∙ ap (λ (rs : List (List ℕ)). laid (put_all 29 rs (recs 29 t₀)) t₀) (all_left log h lsn row f s e)

-- ---- a turn: key is the row of p, which is the last of ps; qs are those before it

module _ (row : List ℕ) (lr : length row ≡ 29) (c : ℕ) (all : List ℕ) (t₀ : List ℕ) (y : Ready 29 29 c (page_rows row all) t₀) (ps qs : List ℕ) (p : ℕ) (split : ps ≡ qs ++ p ∷ [])
    (key : List ℕ) (ek : key ≡ with_page row p) (held coming : ℕ) (t : List ℕ) (q : Entering row c all ps t₀ held coming t) where
  todo : page_rows row ps ≡ page_rows row qs ++ key ∷ []
  todo = rows_last row ps qs p split ∙ ap (λ (x : List ℕ). page_rows row qs ++ x ∷ []) (sym ek)

  up_to : rises 29 (page_rows row qs ++ key ∷ []) ≡ true
  up_to = subst (λ (rs : List (List ℕ)). rises 29 rs ≡ true) todo q.up

  key_long : length key ≡ 29
  key_long = ap length ek ∙ P.length_put 17 (bytes_of 4 p) row (omega (arith, N.length_bytes_of 4 p)) ∙ lr

  state : Merging 29 29 (count_of t₀ + c) held coming (page_rows row qs ++ key ∷ []) (page_rows row all) t₀ t
  state = subst (λ (rs : List (List ℕ)). Merging 29 29 (count_of t₀ + c) held coming rs (page_rows row all) t₀ t) todo q.merging

  -- what `merge_next` requires
  pub entering_next : ((29 ≤ 29) × (held + coming < 65536) × (2 + (held + coming) * 29 ≤ length t) × (length key ≡ 29))
      × ((rises 29 (runs held 29 2 t) ≡ true) × (1 ≤ coming + hits (spot 29 key (runs held 29 2 t))))
  entering_next =
      next_ready 29 29 (count_of t₀ + c) held coming (page_rows row qs) key (page_rows row all) t₀ t y.well up_to key_long (total_room 29 29 c (page_rows row all) t₀ y) state
      (omega arith) (total_small 29 29 c (page_rows row all) t₀ y)

  pub entering_turn : (i d : ℕ) (u : List ℕ) → Merged 29 29 held coming key t i d u → Entering row c all qs t₀ i d u
  entering_turn i d u g = record {
    merging =
        merging_next 29 29 (count_of t₀ + c) held coming (page_rows row qs) key (page_rows row all) t₀ t y.well up_to key_long (total_room 29 29 c (page_rows row all) t₀ y) state i d u g;
    up = rises_front 29 (page_rows row qs) (key ∷ []) up_to;
  }
