-- Each row that is shown of the records can be read.
use Rattle.std.proofs.Common.{◌≡◌, ℤ, true, ◌&&◌, List, [], ◌∷◌, filter, Option, IsTrue, sym, subst}
use Rattle.std.proofs.lemmas.Bool.{and_parts, and_from}
use Rattle.std.specs.Prelude.{codes}
use Rattle.sqlite.specs.Order.{Row}
use Rattle.sqlite.specs.State.{State, HasCleanDisk}
use Rattle.sqlite.specs.Effect.{Database}
use Rattle.sqlite_rules.specs.Lists.{Has}
use Rattle.sqlite_rules.proofs.ListLemmas.{all_from, has_filtered}
use Rattle.sql_laws.proofs.RemovedRows.{from_mapped, has_permuted}
use Rattle.sql_schema.specs.Keys.{columns}
use Rattle.sql_schema.specs.Layouts.{by_domain, rows_named}
use Rattle.sql_schema.specs.Whole.{StaysIdle}
use Rattle.sql_statements.specs.RecordsInOrder.{is_behind, ShowsBehind}
use Rattle.sql_decoding.specs.RowTests.{holds_text, holds_integer, any_text, is_number, is_status, is_record, is_record_row}
use Rattle.sql_decoding.specs.RecordHeads.{is_head}
use Rattle.sql_files.proofs.Listed.{file_read}
use Rattle.store_sql.specs.TablesInFile.{KeepsOffice}
use Rattle.store_sql.specs.RecordsBehind.{AreHeads, HoldsHeads}

-- a row that stands for a record shows its number and its reply's status
head_of : (row : Row) → is_record_row (columns (2 ∷ 3 ∷ 4 ∷ 1 ∷ []) row) ≡ true → is_head (columns (1 ∷ 3 ∷ 0 ∷ []) row) ≡ true
head_of row stands =
    let all = columns (2 ∷ 3 ∷ 4 ∷ 1 ∷ []) row in
    let parts = and_parts (holds_text is_number 3 all) (is_record all) stands in
    let rest = and_parts (holds_text any_text 0 all) (holds_integer is_status 1 all && holds_text any_text 2 all) parts.1 in
    let status = (and_parts (holds_integer is_status 1 all) (holds_text any_text 2 all) rest.1).0 in
    and_from (holds_text is_number 0 (columns (1 ∷ 3 ∷ 0 ∷ []) row)) (holds_integer is_status 1 (columns (1 ∷ 3 ∷ 0 ∷ []) row)) parts.0 status

heads_shown : (db : Database) → ((row : Row) → Has (rows_named db (codes "record")) row → is_record_row (columns (2 ∷ 3 ∷ 4 ∷ 1 ∷ []) row) ≡ true)
    → (place : Option ℤ) (rows : List Row) → ShowsBehind place db rows → AreHeads rows
heads_shown db stand place rows shown = all_from (λ row. is_head row ≡ true) rows (λ row there.
    let back = from_mapped (columns (1 ∷ 3 ∷ 0 ∷ [])) (filter (is_behind place) (rows_named db (codes "record"))) row (has_permuted _ rows row shown.all there) in
    let was = has_filtered (is_behind place) (rows_named db (codes "record")) back.0 back.1 in
    subst (λ r. is_head r ≡ true) (sym back.2) (head_of back.0 (stand back.0 was.0)))

pub holds_heads : (s : State) → KeepsOffice s → HoldsHeads s
holds_heads s keeps clean is_open = heads_shown s.now (file_read by_domain s.now (keeps.idle.ready clean is_open) (keeps.file clean is_open)).rows.book.records

-- also when something was read
pub still_heads : (old new : State) → HoldsHeads old → (HasCleanDisk new → HasCleanDisk old) → (HasCleanDisk new → IsTrue new.is_open → StaysIdle old new) → HoldsHeads new
still_heads old new holds early stays clean is_open =
    let same = stays clean is_open in
    subst (λ (db : Database). (place : Option ℤ) (rows : List Row) → ShowsBehind place db rows → AreHeads rows) (sym same.now) (holds (early clean) same.was_open)
