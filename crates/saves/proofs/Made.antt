-- The commit of a save: what the builders make is the rules' commit laid out, with its own LSN as its checkpoint or with none. By the number of pages that is counted.
use Rattle.std.proofs.Common.{◌≡◌, ℕ, ◌^◌, Bool, true, cond, eqb, List, [], ◌∷◌, length, set, sym, ap, ◌∙◌, eq-eqb, ne_eqb}
use Rattle.octets.specs.Bytes.{put}
use Rattle.octets.proofs.Places as P
use Rattle.basics.specs.declared.lsn.Lsn.{Lsn}
use Rattle.basics.specs.declared.page_count.PageCount.{PageCount}
use Rattle.basics.specs.Hashes.{zero_hash}
use Rattle.pageset.specs.declared.PageSet.{PageSet}
use Rattle.pageset.specs.Sets.{shown, normal, member}
use Rattle.pageset.specs.Counts.{count}
use Rattle.rules.specs.Records as R
use Rattle.rules.specs.Forms.{commit_form}
use Rattle.rules.specs.Pages.{size}
use Rattle.rules.specs.Save.{saved_commit}
use Rattle.rules.proofs.PageCounts.{size_counts}
use Rattle.commit.specs.Builders.{zero_lsns, new_segment, new_commit, with_segment, with_checkpoints}
use Rattle.commit.specs.declared.Presence.TheVariants.{Missing, Given}
use Rattle.commit.specs.declared.Commit.{Commit}
use Rattle.pageset.proofs.FormLaws.{shown_form}
use Rattle.setbytes.proofs.LaidLaws.{laid_says}
use Rattle.commit.specs.Says.{commit_says}
use Rattle.layout.specs.Records.{commit_bytes}
use Rattle.rows.proofs.Rows.{long_is}
use Rattle.rows.proofs.Tables.{commits}
use Rattle.commitbytes.specs.Laid.{lsns_laid, commit_laid}
use Rattle.commitbytes.proofs.Trips.{commit_says_lem}

-- the number of pages of a set that is counted
pub counted : (s : PageSet) → normal s ≡ true → (m : ℕ) → m ≡ count (member s) (2 ^ 32) → m ≡ size (shown s)
counted s e m h = h ∙ sym (size_counts (shown s) (shown_form s e))

module _ (v : R.Volume) (lsn : Lsn) (n : PageCount) (sid : List ℕ) (s : PageSet) (e : normal s ≡ true) (m : ℕ) (h : m ≡ count (member s) (2 ^ 32)) where
  -- the commit with these checkpoints, over the set p
  abbrev over : PageSet → List ℕ → Commit
  over p cs =
      record { log = v.local; lsn = lsn; count = n; has_hash = Missing; hash = zero_hash; has_segment = Given; segment = new_segment sid p; listed = length cs; checkpoints = lsns_laid cs }

  abbrev listed : Bool → List ℕ
  listed b = cond b (lsn.0 ∷ []) []

  laid_is : commit_laid (saved_commit v lsn.0 n.0 sid (shown s)) ≡ over s (listed (eqb n.0 (size (shown s))))
  laid_is = ap (λ (p : PageSet). over p (listed (eqb n.0 (size (shown s))))) (laid_says s e)

  -- not all pages are written
  pub not_whole : (n.0 ≡ m → ⊥) → (c : Commit) → c ≡ with_segment (new_commit v.local lsn n) Given (new_segment sid s) → c ≡ commit_laid (saved_commit v lsn.0 n.0 sid (shown s))
  not_whole k c f =
      f ∙ ap (λ (b : Bool). over s (listed b)) (sym (ne_eqb n.0 (size (shown s)) (λ q. k (q ∙ sym (counted s e m h))))) ∙ sym laid_is

  -- all are
  pub whole : n.0 ≡ m → (ns : List Lsn) → ns ≡ zero_lsns → (c : Commit) → c ≡ with_checkpoints (with_segment (new_commit v.local lsn n) Given (new_segment sid s)) 1 (set ns 0 lsn)
      → c ≡ commit_laid (saved_commit v lsn.0 n.0 sid (shown s))
  whole k ns z c f =
      f ∙ ap (λ (l : List Lsn). with_checkpoints (with_segment (new_commit v.local lsn n) Given (new_segment sid s)) 1 (set l 0 lsn)) z
      ∙ ap (λ (b : Bool). over s (listed b)) (sym (eq-eqb n.0 (size (shown s)) (k ∙ counted s e m h))) ∙ sym laid_is

-- ---- its bytes

module _ (v : R.Commit) (c : Commit) (e : c ≡ commit_laid v) where
  says : commit_says c ≡ v
  says = ap commit_says e ∙ commit_says_lem v

  pub made_laid : commit_laid (commit_says c) ≡ c
  made_laid = ap commit_laid says ∙ sym e

  module _ (f : commit_form v ≡ true) (was : List ℕ) (l : length was ≡ 722) (b : List ℕ) (g : b ≡ put 0 (commit_bytes.spell (commit_says c)) was) where
    pub made_bytes : b ≡ commit_bytes.spell v
    made_bytes =
        g ∙ ap (λ (x : R.Commit). put 0 (commit_bytes.spell x) was) says
        ∙ P.put_all (commit_bytes.spell v) was (long_is commits v f ∙ sym l)
