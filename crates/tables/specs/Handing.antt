-- What a walk over entries has handed to a sink. This project's own words.
use Rattle.std.specs.Prelude.{◌≡◌, ◌≢◌, List, ◌++◌, map, filter, not, ◌&&◌, Result, MatchResult}
use Rattle.po_text.specs.declared.entry.Entry.{Entry}
use Rattle.units.specs.Units.{all_empty}
use Rattle.units.specs.declared.unit.Unit.{Unit}
use Rattle.office_specification.specs.ExportedEntries.{obsolete_entry}
use Rattle.tables.specs.declared.faults.EachFault.{EachFault}
use Rattle.tables.specs.declared.faults.EachFault.TheVariants.{NoTables}
use Rattle.tables.specs.declared.faults.Lost.{Lost}
use Rattle.tables.specs.declared.faults.Lost.TheVariants.{Memory, Disk}
use Rattle.tables.specs.Sinks.{WasCutShort}

-- The sink took a beginning of the entries; of the tables want of memory alone is told.
pub record CutShort {S R : Type 0} (Took : S → List Entry → S → Type 0) (Refuses : S → Entry → R → S → Type 0) (old new : S) (entries : List Entry) (fault : EachFault R) : Type 0 where
  pub cut : WasCutShort Took Refuses old new entries fault
  pub no_disk : fault ≢ NoTables Disk
  pub memory : (lost : Lost) → fault ≡ NoTables lost → lost ≡ Memory

-- The sink took all of the entries, or the walk was cut short.
abbrev pub Hands : {S R T : Type 0} → (S → List Entry → S → Type 0) → (S → Entry → R → S → Type 0) → S → S → List Entry → Result T (EachFault R) → Type 0
Hands Took Refuses old new entries outcome = MatchResult outcome (λ _. Took old entries new) (CutShort Took Refuses old new entries)

-- What the sink has taken so far of all the entries, and what is left of them.
pub record HandedSoFar {S : Type 0} (Took : S → List Entry → S → Type 0) (old now : S) (all left : List Entry) : Type 0 where
  pub front : List Entry
  pub cut : all ≡ front ++ left
  pub took : Took old front now

-- the entries of a language's obsolete units, of those with a nonempty form
abbrev pub obsolete_entries : List Unit → List Entry
obsolete_entries units = map obsolete_entry (filter (λ unit. unit.obsolete && not (all_empty unit.forms)) units)
