-- What the code's answers say, and what its functions for single calls promise.
use Rattle.std.specs.Prelude.{◌≡◌, ℕ, List}
use Rattle.std.proofs.Math.Option.{Option}
use Rattle.basics.specs.Answers.{Answer, code}
use Rattle.rules.specs.Records.{Pages}
use Rattle.rules.specs.Write.{Logs}
use Rattle.layout.specs.Records.{commit_bytes, checkpoint_bytes, entry_bytes, present_bytes}
use Rattle.layout.specs.Lent.{after}
use Rattle.callline.specs.Texts.{Text}
use Rattle.callline.specs.Says.{ranges_in}
use Rattle.calltext.specs.Says.{head_says}
use Rattle.callstep.specs.declared.Printed.{Printed}
use Rattle.callstep.specs.Testers.{Tester}
use Rattle.callstep.specs.Steps.{Step, SetOf, saved_on, saved_head, after_save, fetch_on}

-- what is printed
abbrev pub printed_says : Printed → ℕ × Option (ℕ × ℕ)
printed_says p = (p.code, head_says p.head)

-- a step of the code: what is printed, and the lent bytes
abbrev pub stepped : Printed → Tester → Step
stepped p t = record { code = p.code; head = head_says p.head; tester = t }

-- op=save of the pages in a text
pub record Saves (t : Tester) (vid slot count sid : ℕ) (text : Text) (p : Printed) (left : Tester) : Type 0 where
  pub pages : Answer Pages
  pub are : SetOf (ranges_in text) pages
  pub says : printed_says p ≡ (code (saved_on t vid slot count sid pages), saved_head (saved_on t vid slot count sid pages))
  pub leaves : left ≡ after_save t (saved_on t vid slot count sid pages)

-- op=fetch of the pages in a text
pub record Fetches (commits checkpoints index : List ℕ) (log lsn count sid : ℕ) (text : Text) (n : ℕ) (commits' checkpoints' index' : List ℕ) : Type 0 where
  pub pages : Answer Pages
  pub are : SetOf (ranges_in text) pages
  pub number : n ≡ code (fetch_on commits checkpoints index log lsn count sid pages)
  pub of_commits : commits' ≡ after commit_bytes (λ (g : Logs). g.commits) commits (fetch_on commits checkpoints index log lsn count sid pages)
  pub of_checkpoints : checkpoints' ≡ after checkpoint_bytes (λ (g : Logs). g.checkpoints) checkpoints (fetch_on commits checkpoints index log lsn count sid pages)
  pub of_index : index' ≡ after entry_bytes (λ (g : Logs). g.index) index (fetch_on commits checkpoints index log lsn count sid pages)
