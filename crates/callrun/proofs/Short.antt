-- A printed line and its newline have at most 84 bytes.
use Rattle.std.proofs.Common.{ℕ, ◌≤◌, List, [], ◌∷◌, arith, length-append}
use Rattle.calltext.specs.Output.{output_line}
use Rattle.callline.specs.Texts.{Text}
use Rattle.callstep.specs.Testers.{Tester}
use Rattle.callrun.specs.Prints.{Prints}
use Rattle.callrun.proofs.Newline.{line_short}

pub printed_short : (t : Tester) (line : Text) (number : ℕ) (out : List ℕ) (n : ℕ) (out' : List ℕ) (left : Tester) → Prints t line number out n out' left → n ≤ 84
printed_short t line number out n out' left p =
    omega (arith, p.long, length-append (output_line number p.code p.head) (10 ∷ []), line_short number p.code p.head)
