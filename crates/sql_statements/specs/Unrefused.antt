-- Which errors walks tell where no query is refused.
use Rattle.std.specs.Prelude.{⊤, Result, IfErr}
use Rattle.sqlite.specs.State.{State, HasCleanDisk}
use Rattle.sql_schema.specs.Errors.{IsUnread}
use Rattle.sql_streams.specs.declared.walking.WalkFault.{WalkFault}
use Rattle.sql_streams.specs.declared.walking.WalkFault.TheVariants.{NoRows, NoSink}

-- the query's error is want of memory, a failure of the disk, or a limit on its steps that was met
abbrev pub EndsUnread : {R : Type 0} → State → State → WalkFault R → Type 0
EndsUnread old new (NoRows error) = IsUnread old new error
EndsUnread old new (NoSink refusal) = ⊤

-- No walk is refused, but for a row by its sink.
abbrev pub RefusesNoWalk : {A R : Type 0} → State → State → Result A (WalkFault R) → Type 0
RefusesNoWalk old new result = HasCleanDisk new → IfErr result (EndsUnread old new)
