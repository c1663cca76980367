-- What a line prints: its step's code and head as a line of output, and a newline.
use Rattle.std.specs.Prelude.{◌≡◌, ℕ, List, [], ◌∷◌, ◌++◌, length}
use Rattle.std.proofs.Math.Option.{Option}
use Rattle.octets.specs.Bytes.{put}
use Rattle.callline.specs.Texts.{Text}
use Rattle.calltext.specs.Output.{output_line}
use Rattle.callstep.specs.Testers.{Tester}
use Rattle.callstep.specs.Steps.{Steps}

-- the bytes of a printed line and its newline, over the first of those that are lent
pub record Prints (t : Tester) (line : Text) (number : ℕ) (out : List ℕ) (n : ℕ) (out' : List ℕ) (left : Tester) : Type 0 where
  pub code : ℕ
  pub head : Option (ℕ × ℕ)
  pub steps : Steps t line (record { code = code; head = head; tester = left })
  pub bytes : out' ≡ put 0 (output_line number code head ++ (10 ∷ [])) out
  pub long : n ≡ length (output_line number code head ++ (10 ∷ []))
