use Rattle.std.proofs.Common.{take}
use Rattle.std.specs.Prelude.{All}
use Rattle.sql_keepable.specs.Keepable.{IsKeepableEntry}
use Rattle.sql_keepable.proofs.entries.entries_fit.Given as goal

abbrev pub invariant-loop-entry : goal.invariant-loop-entry
invariant-loop-entry l = All IsKeepableEntry (take l.entry-index l.entries)
