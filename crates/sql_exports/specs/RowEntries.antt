-- What a sink of entries took of rows, some of which stand for none. The last entry that was read is held back.
use Rattle.std.specs.Prelude.{◌≡◌, List, [], ◌∷◌, ◌++◌, Option}
use Rattle.std.specs.Borrow.{MutBor}
use Rattle.std.specs.List.{filter_map}
use Rattle.po_text.specs.declared.entry.Entry.{Entry}
use Rattle.sqlite.specs.Order.{Row}
use Rattle.tables.specs.declared.faults.EachFault.{EachFault}
use Rattle.tables.specs.declared.faults.EachFault.TheVariants.{NoTables, NoSink}

-- Of the entry that was held back and those of the rows the same sink took all but the last, which is held back now.
pub record TookEntries {K : Type 0} (Took : K → List Entry → K → Type 0) (entry : Row → Option Entry) (old : MutBor K) (held : MutBor Entry) (rows : List Row) (new : MutBor K) (last : MutBor Entry) : Type 0 where
  pub same_reference : new.ghost_name ≡ old.ghost_name
  pub held_reference : last.ghost_name ≡ held.ghost_name
  pub front : List Entry
  pub whole : held.now ∷ filter_map entry rows ≡ front ++ last.now ∷ []
  pub took : Took old.now front new.now

-- it refused the entry that was held back, or the row's was not read
abbrev pub IsRefusal : {K R : Type 0} → (K → Entry → R → K → Type 0) → K → Entry → EachFault R → K → Type 0
IsRefusal Refuses old held (NoTables lost) new = new ≡ old
IsRefusal Refuses old held (NoSink refusal) new = Refuses old held refusal new

pub record RefusedEntry {K R : Type 0} (Refuses : K → Entry → R → K → Type 0) (old : MutBor K) (held : MutBor Entry) (fault : EachFault R) (new : MutBor K) (last : MutBor Entry) : Type 0 where
  pub same_reference : new.ghost_name ≡ old.ghost_name
  pub held_reference : last.ghost_name ≡ held.ghost_name
  pub refused : IsRefusal Refuses old.now held.now fault new.now
