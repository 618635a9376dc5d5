-- What is known of a connection whose tables were made, opened or worked on.
use Rattle.std.proofs.Common.{◌≡◌, refl, subst}
use Rattle.sqlite.specs.Held.{Held, state}
use Rattle.sqlite.specs.Tree.{Trees}
use Rattle.sqlite_trees.specs.declared.store.Store as store
use Rattle.request_book.specs.Book.{OfficeWithBook}
use Rattle.sql_meaning.specs.Domains.{meaning_for, TreesMean}
use Rattle.tables.specs.Starts.{started}
use Rattle.tables.specs.declared.start.Start.{Start}
use Rattle.store_sql.specs.Adopting.{AreAdopted}
use Rattle.store_sql.specs.Making.{AreMade}
use Rattle.store_commands.specs.Opening.{Holds, IsOpened, running_meaning}
use Rattle.sql_schema.specs.Layouts.{schema_of, rows_in}
use Rattle.sql_files.specs.Files.{IsOfficeFile}
use Rattle.store_sql.specs.TablesInFile.{Flags}

-- trees of an office's file mean the only meaning that they may have
one_meaning : (trees : Trees) → IsOfficeFile trees → (meaning : OfficeWithBook) → ((m : OfficeWithBook) → TreesMean trees m → m ≡ meaning) → TreesMean trees meaning
one_meaning trees (form, layout, file) meaning only =
    let own : TreesMean trees (meaning_for form (rows_in (schema_of layout) trees)) = (form, layout, file.ready.sound, refl) in
    subst (TreesMean trees) (only (meaning_for form (rows_in (schema_of layout) trees)) own) own

module _ {S : Type 0} (g : store.Ghosts S) (tables : Held S × Flags) where
  pub holds_made : (start : Start) → AreMade g start tables → Holds (state g tables.0) (started start)
  holds_made start are = record {
    is_open = are.whole;
    means = are.means;
    stops = λ clean db left. one_meaning db (are.leaves clean db left) (started start) (λ m it. are.only clean m (db, left, it));
    only = are.only;
  }

  pub is_opened : (old : Held S) → AreAdopted g old tables → IsOpened g old tables.0
  is_opened old are = record {
    rows = are.rows;
    means = are.means;
    holds = record {
      is_open = are.whole;
      means = λ clean. refl;
      stops = λ clean db left. one_meaning db (are.leaves clean db left) (running_meaning (state g tables.0)) (λ m it. are.only clean m (db, left, it));
      only = are.only;
    };
  }
