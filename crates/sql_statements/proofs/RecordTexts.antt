-- The text that reads all records.
use Rattle.std.proofs.Common.{ℕ, List, [], ◌∷◌, ◌++◌, codes, refl}
use Rattle.sqlite.specs.Order.{Row}
use Rattle.sqlite.specs.State.{State, Begins, Shown}
use Rattle.sqlite.specs.Listing.{understood}
use Rattle.sqlite.proofs.Callers.{IsPlain}
use Rattle.sqlite_tied.specs.Compute.{everything}
use Rattle.sql_schema.specs.Inside.{IsReadyFor}
use Rattle.sql_statements.proofs.TableQueries.{IsTableQueryOf, table_plain, table_shown, table_begun}
use Rattle.sql_statements.specs.RecordTable.{ShowsRecords}
use Rattle.sql_schema.specs.Layouts.{Form, made_new, made_second, made_last, from_first, from_second}
use Rattle.sql_schema.proofs.Layouts.{record_placed}
use Rattle.sql_schema.specs.Schema.{record_table}
use Rattle.sql_statements.proofs.ReadsUnread.{IsAcceptedBy, IsUnreadBy, unread_by}

abbrev pub records_text : List ℕ
records_text = codes "SELECT content, status, body, number FROM record ORDER BY number"

records_are : {form : Form} → IsTableQueryOf form records_text record_table (2 ∷ 3 ∷ 4 ∷ 1 ∷ []) (1 ∷ [])
    (codes "content" ∷ codes "status" ∷ codes "body" ∷ codes "number" ∷ [])
unfolding understood everything
records_are made_new = record { command = refl; own_tables = refl; plain = (refl, refl) }
records_are made_second = record { command = refl; own_tables = refl; plain = (refl, refl) }
records_are made_last = record { command = refl; own_tables = refl; plain = (refl, refl) }
records_are from_first = record { command = refl; own_tables = refl; plain = (refl, refl) }
records_are from_second = record { command = refl; own_tables = refl; plain = (refl, refl) }

records_accepted : {form : Form} → IsAcceptedBy form records_text []
unfolding understood everything
records_accepted made_new = refl
records_accepted made_second = refl
records_accepted made_last = refl
records_accepted from_first = refl
records_accepted from_second = refl

pub records_unread : {form : Form} → IsUnreadBy form records_text []
records_unread = unread_by records_text [] _ _ records_are records_accepted

module _ {form : Form} (s : State) (ready : IsReadyFor form s) where
  pub records_plain : IsPlain (understood s.now.schema records_text)
  records_plain = table_plain records_text record_table record_placed (2 ∷ 3 ∷ 4 ∷ 1 ∷ []) (1 ∷ []) (3 ∷ []) _ records_are (λ tree r s. refl) s ready

  pub records_shown : (rows : List Row) → Shown records_text [] s s rows → ShowsRecords s.now rows
  records_shown = table_shown records_text record_table record_placed (2 ∷ 3 ∷ 4 ∷ 1 ∷ []) (1 ∷ []) (3 ∷ []) _ records_are (λ tree r s. refl) s ready

  pub records_begun : (rows : List Row) → Begins records_text [] s rows → (tail : List Row) × ShowsRecords s.now (rows ++ tail)
  records_begun = table_begun records_text record_table record_placed (2 ∷ 3 ∷ 4 ∷ 1 ∷ []) (1 ∷ []) (3 ∷ []) _ records_are (λ tree r s. refl) s ready
