-- What the check of a table answers.
use Rattle.std.specs.Prelude.{Bool, true, false}
use Rattle.arguments.specs.declared.Reply.{Reply}

-- 0 for a table, 20 for other bytes
abbrev pub formed_reply : Bool → Reply
formed_reply true = record { code = 0; found = 1 }
formed_reply false = record { code = 20; found = 0 }
