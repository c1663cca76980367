-- Arguments in bytes. What is not in form becomes a value that the call by value refuses as 3, in its turn: 1 and 2 of the other arguments come first.
use Rattle.std.specs.Prelude.{ℕ, Bool, cond, ◌&&◌, List, length, replicate, ◌==◌}
use Rattle.pageset.specs.declared.PageSet.{PageSet}
use Rattle.pageset.specs.Sets.{normal_form, zero_window}
use Rattle.layout.specs.Codecs.{Codec, in_form}
use Rattle.layout.specs.Values.{set_bytes}
use Rattle.setbytes.specs.Laid.{set_laid}

-- an argument in bytes: of a form's size and in document 01's form it is the value that it spells, else one that the call refuses
unfoldable pub argument : {A B : Type 0} → Codec A → (A → Bool) → (A → B) → B → List ℕ → B
argument c form laid bad b = cond (length b == c.size && in_form c form b) (laid (c.read b)) bad

-- a set that is not in normal form: a window that holds no page
unfoldable pub not_aset : PageSet
not_aset = record { len = 1; windows = replicate 32 zero_window }

-- a page set in bytes
abbrev pub set_arg : List ℕ → PageSet
set_arg b = argument set_bytes normal_form set_laid not_aset b
