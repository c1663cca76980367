-- A page set that was written is read again, and one that was read is written as it stood.
use Rattle.std.proofs.Common.{◌≡◌, ℕ, ◌+◌, ◌≤◌, true, List, length}
use Rattle.octets.specs.Bytes.{part, put}
use Rattle.pageset.specs.declared.PageSet.{PageSet}
use Rattle.pageset.specs.Sets.{shown, normal_form, normal}
use Rattle.layout.specs.Codecs.{in_form}
use Rattle.layout.specs.Values.{window_bytes, set_bytes}
use Rattle.layout.proofs.FormHolds.{set_held}
use Rattle.setbytes.specs.Laid.{set_laid}
use Rattle.pageset.proofs.FormLaws.{shown_form}
use Rattle.setbytes.proofs.LaidLaws.{says_laid, laid_says}
use Rattle.setbytes.proofs.TripLaws.{read_again, written_again}

module _ (s : List ℕ) (at : ℕ) (h : at + 385 ≤ length s) where
  pub set_read_again : (x : PageSet) → normal x ≡ true → set_laid (set_bytes.read (part at 385 (put at (set_bytes.spell (shown x)) s))) ≡ x
  unfolding set_bytes window_bytes
  set_read_again x e = read_again set_bytes shown set_laid s at h x (set_held (shown x) (shown_form x e)) (laid_says x e)

  pub set_written_again : in_form set_bytes normal_form (part at 385 s) ≡ true → put at (set_bytes.spell (shown (set_laid (set_bytes.read (part at 385 s))))) s ≡ s
  unfolding set_bytes window_bytes
  set_written_again f = written_again set_bytes shown set_laid s at h normal_form f (says_laid (set_bytes.read (part at 385 s)))
