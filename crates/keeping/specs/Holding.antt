-- The tables that a call is lent, as the frame theorem speaks of them: a table that it is not lent stands as an empty one.
use Rattle.rules.specs.Records.{Volume, Commit, Present, Tag}
use Rattle.rules.specs.Tables.{Table}
use Rattle.rules.specs.Write.{Logs}
use Rattle.rules.specs.Calls.{Tables, empty}

abbrev pub holding : Table Volume → Table Commit → Table Present → Table Tag → Tables
holding vs cs ps gs = record { volumes = vs; logs = record { commits = cs; checkpoints = empty 0; index = empty 0 }; presence = ps; tags = gs }

-- volumes, and commits that are read
abbrev pub volumes_and : Table Commit → Table Volume → Tables
volumes_and cs vs = holding vs cs (empty 0) (empty 0)

-- volumes alone
abbrev pub volumes_alone : Table Volume → Tables
volumes_alone vs = volumes_and (empty 0) vs

-- present pages alone
abbrev pub presence_alone : Table Present → Tables
presence_alone ps = holding (empty 0) (empty 0) ps (empty 0)

-- tags alone
abbrev pub tags_alone : Table Tag → Tables
tags_alone gs = holding (empty 0) (empty 0) (empty 0) gs

-- volumes, and the three tables of commits
abbrev pub volumes_and_logs : Table Volume → Logs → Tables
volumes_and_logs vs g = record { volumes = vs; logs = g; presence = empty 0; tags = empty 0 }

-- the three tables of commits alone
abbrev pub logs_alone : Logs → Tables
logs_alone g = volumes_and_logs (empty 0) g
