-- What tables on SQLite mean, what a stop may leave of them, and what they keep true. This project's own words, for those of the trait of
-- tables; a value is what the connection holds, whether the tables are stopped, and which part of the office is at hand.
use Rattle.std.specs.Prelude.{◌≡◌, ℕ, Bool, IsTrue, Option, Some, option_map, IfSome}
use Rattle.sqlite.specs.Held.{Held, state}
use Rattle.sqlite.specs.State.{State, HasCleanDisk}
use Rattle.sqlite.specs.Tree.{Trees}
use Rattle.sqlite_trees.specs.declared.store.Store as store
use Rattle.request_book.specs.Book.{OfficeWithBook}
use Rattle.office_specification.specs.OfficeRules.{KeepsRules}
use Rattle.office_specification.specs.OneProof.{rules_prop}
use Rattle.std.proofs.Props.{props}
use Rattle.std.proofs.Math.Logic.{∥∥₁_prop}
use Rattle.sql_schema.specs.Whole.{IsIdleOver}
use Rattle.sql_meaning.specs.Meaning.{AreNumbered}
use Rattle.sql_meaning.specs.Domains.{office_of_rows, meaning_by_domain, TreesMean}
use Rattle.office_specification.specs.Parts.{AreAlikeIn}
use Rattle.office_specification.specs.declared.parts.Part.{Part}
use Rattle.office_maps.specs.OfficeIn.{office_in}
use Rattle.sql_files.specs.Files.{KeepsFile, LeavesFiles}
use Rattle.tables.specs.Stops.{LeavesOnly, IsReadable}
use Rattle.store_sql.specs.OneMeaning.{meaning_set}
use Rattle.store_sql.specs.declared.loaded_part.LoadedPart.{LoadedPart}
use Rattle.sql_schema.specs.Layouts.{by_domain, rows_named}
use Rattle.store_sql.specs.declared.office_part.OfficePart.{OfficePart}
use Rattle.store_sql.specs.OfficeParts.{IsPartOf}

-- A stop leaves trees of a connection, and an opening can read them.
abbrev pub LeavesReadableTrees : State → Type 0
LeavesReadableTrees s =
    HasCleanDisk s → (∥ ((trees : Trees) × s.may_leave trees) ∥₁) × ((trees : Trees) → s.may_leave trees → ∥ ((m : OfficeWithBook) × TreesMean trees m) ∥₁)

-- as the law of tables says it, of what a stop may leave
pub readable :
    (clean : Type 0) (left : Trees → Type 0) → (clean → (∥ ((trees : Trees) × left trees) ∥₁) × ((trees : Trees) → left trees → ∥ ((m : OfficeWithBook) × TreesMean trees m) ∥₁)) →
    clean → IsReadable left TreesMean (λ meaning. (trees : Trees) × left trees × TreesMean trees meaning)
readable clean left leaves is_clean = record {
  something = (leaves is_clean).0;
  means = (leaves is_clean).1;
  found = λ trees m is_left means. (trees, is_left, means);
}

-- beside what the connection holds: whether the tables are stopped, and which part of the office is at hand
abbrev pub Flags : Type 0
Flags = Bool × Option Part

abbrev pub held_part : Option LoadedPart → Option Part
held_part = option_map (λ loaded. loaded.part)

module _ {S : Type 0} (g : store.Ghosts S) (tables : Held S × Flags) where
  -- the disk has returned what was written
  abbrev pub is_honest : Type 0
  is_honest = HasCleanDisk (state g tables.0)

  -- no failure has shut the connection
  abbrev pub is_whole : Type 0
  is_whole = IsTrue (state g tables.0).is_open

  abbrev pub means : OfficeWithBook
  means = meaning_by_domain (rows_named (state g tables.0).now)

  -- what the rows mean that an opening after a stop may find, by the layout whose tables they list
  abbrev pub may_leave : OfficeWithBook → Type 0
  may_leave meaning = (trees : Trees) × (state g tables.0).may_leave trees × TreesMean trees meaning

  -- how many times the disk has failed or refused
  abbrev pub faults : ℕ
  faults = (state g tables.0).faults

  abbrev pub is_stopped : Bool
  is_stopped = tables.1.0

  -- the rules of an office with its book hold
  abbrev pub KeepsOwnRules : Type 0
  KeepsOwnRules = is_honest → is_whole → KeepsRules means

  -- of that there is one proof at most
  pub own_rules_prop : IsProp KeepsOwnRules
  own_rules_prop = hlevel (props, rules_prop)

  -- a stop leaves what they mean, and nothing else
  abbrev pub LeavesItsOwn : Type 0
  LeavesItsOwn = is_honest → is_whole → LeavesOnly may_leave means

  -- of that there is one proof at most
  pub leaves_own_prop : IsProp LeavesItsOwn
  leaves_own_prop = hlevel (props, meaning_set)

  -- whatever was left before, a stop leaves trees, and an opening can read them
  abbrev pub LeavesReadable : Type 0
  LeavesReadable = LeavesReadableTrees (state g tables.0)

  -- of that there is one proof at most
  pub leaves_readable_prop : IsProp LeavesReadable
  leaves_readable_prop = hlevel (props, ∥∥₁_prop)

  -- this part of the office was read last, and nothing was written since
  abbrev pub is_loaded : Part → Type 0
  is_loaded part = tables.1.1 ≡ Some part

-- what a stop leaves of a connection that isn't shut means what its rows mean
abbrev pub LeavesOwnTrees : State → Type 0
LeavesOwnTrees s = HasCleanDisk s → IsTrue s.is_open → (trees : Trees) → s.may_leave trees → TreesMean trees (meaning_by_domain (rows_named s.now))

-- The rows of a connection that isn't shut are those of an office with its book, an office's file, and a stop leaves one.
pub record KeepsOffice (s : State) : Type 0 where
  pub idle : IsIdleOver by_domain s
  pub numbered : HasCleanDisk s → IsTrue s.is_open → AreNumbered (rows_named s.now)
  pub rules : HasCleanDisk s → IsTrue s.is_open → KeepsRules (meaning_by_domain (rows_named s.now))
  pub file : KeepsFile s
  pub leaves : LeavesFiles s

-- A part at hand is alike to the office of the rows, of a connection that isn't shut.
abbrev pub IsAtHand : State → Option LoadedPart → Type 0
IsAtHand s office = IfSome office (λ loaded. HasCleanDisk s → IsTrue s.is_open × AreAlikeIn loaded.part (office_in loaded.maps) (office_of_rows (rows_named s.now)))

-- What is kept of the office is what it tells, of a connection that isn't shut.
abbrev pub IsPartAtHand : State → Option OfficePart → Type 0
IsPartAtHand s part = HasCleanDisk s → IsTrue s.is_open → IfSome part (IsPartOf (office_of_rows (rows_named s.now)))
