use Rattle.std.proofs.Common.{take}
use Rattle.sql_commits.specs.Entries.{AreShown}
use Rattle.sql_commits.proofs.changed_entries.stays_of.Given as goal

-- an entry is marked exactly where one of the rows so far shows it at its place
abbrev pub invariant-loop-row : goal.invariant-loop-row
invariant-loop-row l = AreShown (take l.row-index l.rows) l.stays.items l.entries
