-- The turns of the loops over the entries of a commit. Both walk the pages of a set from the last down (`pagesdown`), and make each row from one row by putting
-- the page in, so what is still to do is the rows of the pages that are left, and a turn takes the last of them.
-- The loop that counts keeps "the count so far and that of what is left are that of all" (`Counting`); each row is sought among the records below the place of
-- the row before, since the rows fall.
use Rattle.std.proofs.Common.{◌≡◌, ℕ, ◌+◌, ◌-◌, ◌*◌, ◌<◌, ◌≤◌, true, List, [], ◌∷◌, ◌++◌, map, length, take, sym, refl, ap, ◌∙◌, subst, ap₂, arith}
use mathlib.Core.List.{map-map}
use Rattle.pageset.specs.declared.PageSet.{PageSet}
use Rattle.pageset.specs.Sets.{shown, normal, zero_window}
use Rattle.rules.specs.Pages.{pages_in}
use Rattle.rules.proofs.TableLaws.{map-append}
use Rattle.table.specs.Records.{rises, spot, place}
use Rattle.table.specs.Table.{runs, Each, count_of, recs, well_ordered}
use Rattle.table.proofs.Keys.{rises_front, rises_take}
use Rattle.table.proofs.Rows.{length_runs, take_runs, cap_small}
use Rattle.table.proofs.Checks.{well_count, well_rises, well_room}
use Rattle.table.proofs.Spots.{past_le}
use Rattle.batch.specs.Batch.{lacks, news, fresh}
use Rattle.batch.proofs.Puts.{news_rising}
use Rattle.batch.proofs.Lasts.{fresh_last}
use Rattle.layout.specs.Records.{log_page_lsn_bytes, entry_bytes}
use Rattle.pagesdown.specs.Down.{pages_left}
use Rattle.pagesdown.proofs.Walks.{walk_all}
use Rattle.pagesdown.proofs.Climbs.{pages_climb}
use Rattle.indexing.specs.Rows.{entry, entry_row, with_page, entry_rows}
use Rattle.indexing.proofs.EntryRows.{key_row, row_page, rows_rise, rows_long}

-- the rows of pages, made from one row
abbrev pub page_rows : List ℕ → List ℕ → List (List ℕ)
page_rows row ps = map (with_page row) ps

-- with the last page
pub rows_last : (row ps qs : List ℕ) (p : ℕ) → ps ≡ qs ++ p ∷ [] → page_rows row ps ≡ page_rows row qs ++ with_page row p ∷ []
rows_last row ps qs p e = ap (page_rows row) e ∙ map-append (with_page row) qs (p ∷ [])

-- ---- the entries of the set s

module _ (log : List ℕ) (h : length log ≡ 16) (lsn : ℕ) (row : List ℕ) (f : row ≡ log_page_lsn_bytes.spell (log, (0, lsn))) where
  rows_are : (ps : List ℕ) → page_rows row ps ≡ map (entry_row log lsn) ps
  rows_are [] = refl
  rows_are (p ∷ ps) = ap₂ (λ (r : List ℕ) (rs : List (List ℕ)). r ∷ rs) (ap (λ (x : List ℕ). with_page x p) (f ∙ key_row log lsn 0) ∙ row_page log h lsn p 0) (rows_are ps)

  module _ (s : PageSet) (e : normal s ≡ true) where
    -- all of them are left at the start
    pub all_left : page_rows row (pages_left s.windows s.len zero_window) ≡ entry_rows log lsn (shown s)
    all_left = ap (page_rows row) (walk_all s e) ∙ rows_are (pages_in (shown s)) ∙ sym (map-map entry_bytes.spell (entry log lsn) (pages_in (shown s)))

    -- and they rise
    pub all_rise : rises 29 (entry_rows log lsn (shown s)) ≡ true
    all_rise = ap (rises 29) (map-map entry_bytes.spell (entry log lsn) (pages_in (shown s))) ∙ rows_rise log h lsn 0 (pages_in (shown s)) (pages_climb s e)

    pub left_rise : rises 29 (page_rows row (pages_left s.windows s.len zero_window)) ≡ true
    left_rise = ap (rises 29) all_left ∙ all_rise

    pub all_long : Each 29 (entry_rows log lsn (shown s))
    all_long = subst (Each 29) (sym (map-map entry_bytes.spell (entry log lsn) (pages_in (shown s)))) (rows_long log h lsn (pages_in (shown s)))

    pub all_counted : (l : List (List ℕ)) → fresh 29 (page_rows row (pages_left s.windows s.len zero_window)) l ≡ news 29 (entry_rows log lsn (shown s)) l
    all_counted l = ap (λ (rs : List (List ℕ)). fresh 29 rs l) all_left ∙ sym (news_rising 29 (entry_rows log lsn (shown s)) l all_rise)

-- ---- `count_entries`

-- the count under way: c is counted and F is the whole count, and the pages ps are left, whose rows are sought among the first `held` records
pub record Counting (row t : List ℕ) (F c : ℕ) (ps : List ℕ) (held : ℕ) : Type 0 where
  pub within : held ≤ count_of t
  pub up : rises 29 (page_rows row ps) ≡ true
  pub sum : c + fresh 29 (page_rows row ps) (runs held 29 2 t) ≡ F

pub counting_start : (row t ps : List ℕ) (n : ℕ) → n ≡ count_of t → rises 29 (page_rows row ps) ≡ true → Counting row t (fresh 29 (page_rows row ps) (recs 29 t)) 0 ps n
unfolding recs
counting_start row t ps n e u = record {
  within = omega arith;
  up = u;
  sum = omega (arith, ap (λ (m : ℕ). fresh 29 (page_rows row ps) (runs m 29 2 t)) e);
}

module _ (row t : List ℕ) (w : well_ordered 29 29 t ≡ true) (F c : ℕ) (ps : List ℕ) (held : ℕ) (q : Counting row t F c ps held) where
  first_rise : rises 29 (runs held 29 2 t) ≡ true
  unfolding recs
  first_rise = rw (← take_runs 29 (count_of t) 2 t held q.within) (rises_take 29 held (recs 29 t) (well_rises 29 29 t w))

  -- what `lacking_below` requires
  pub counting_ready : (key : List ℕ) → length key ≡ 29 → ((29 ≤ 29) × (29 ≤ length key) × (2 + held * 29 ≤ length t) × (held < 65536)) × (rises 29 (runs held 29 2 t) ≡ true)
  counting_ready key e =
      ((omega arith, omega arith, omega (arith, q.within, well_room 29 29 t (omega arith) w), omega (arith, q.within, cap_small 29 (count_of t) t (well_count 29 29 t w))), first_rise)

  -- a turn: key is the row of p, which is the last of ps; qs are those before it
  pub counting_turn : (qs key : List ℕ) (p b n : ℕ) → ps ≡ qs ++ p ∷ [] → key ≡ with_page row p → n ≡ place (spot 29 key (runs held 29 2 t)) → b ≡ lacks 29 key (runs held 29 2 t) → Counting row t F (c + b) qs n
  counting_turn qs key p b n e g f h =
      let l : List (List ℕ) = runs held 29 2 t in
      let todo : page_rows row ps ≡ page_rows row qs ++ key ∷ [] = rows_last row ps qs p e ∙ ap (λ (x : List ℕ). page_rows row qs ++ x ∷ []) (sym g) in
      let u : rises 29 (page_rows row qs ++ key ∷ []) ≡ true = subst (λ (rs : List (List ℕ)). rises 29 rs ≡ true) todo q.up in
      let le : n ≤ held = omega (arith, past_le 29 key l, length_runs 29 held 2 t) in
      let z : fresh 29 (page_rows row ps) l ≡ lacks 29 key l + fresh 29 (page_rows row qs) (runs n 29 2 t) =
      ap (λ (rs : List (List ℕ)). fresh 29 rs l) todo
      ∙ fresh_last 29 key l first_rise (page_rows row qs) u
      ∙ ap (λ (m : List (List ℕ)). lacks 29 key l + fresh 29 (page_rows row qs) m) (ap (λ (m : ℕ). take m l) (sym f) ∙ take_runs 29 held 2 t n le) in
      record {
        within = omega (arith, q.within);
        up = rises_front 29 (page_rows row qs) (key ∷ []) u;
        sum = omega (arith, q.sum);
      }

  -- none is left
  pub counting_end : ps ≡ [] → c ≡ F
  counting_end e = omega (arith, q.sum, ap (λ (qs : List ℕ). fresh 29 (page_rows row qs) (runs held 29 2 t)) e)
