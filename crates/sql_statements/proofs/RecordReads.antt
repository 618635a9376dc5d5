-- What is read of the table of records.
use Rattle.std.proofs.Common.{ℕ, List, [], ◌∷◌, codes, refl}
use Rattle.sqlite.specs.declared.types.Value.TheVariants.{Text}
use Rattle.sqlite.specs.Listing.{understood}
use Rattle.sqlite_tied.specs.Compute.{everything}
use Rattle.sql_schema.specs.Inside.{ShowsKey}
use Rattle.sql_schema.specs.Keys.{first_text, columns}
use Rattle.sql_schema.proofs.Queries.{IsQueryOf, ReadsLastOf, is_given, reads_by_text}
use Rattle.sql_schema.proofs.TableRows.{record_numbers}
use Rattle.sql_schema.specs.Layouts.{Form, made_new, made_second, made_last, from_first, from_second}
use Rattle.sql_schema.proofs.Layouts.{record_placed}
use Rattle.sql_schema.specs.Schema.{record_table}
use Rattle.sql_statements.proofs.ReadsUnread.{IsAcceptedBy, IsUnreadBy, unread_by}

abbrev find_text : List ℕ
find_text = codes "SELECT content, status, body FROM record WHERE number = ?1"

find_is : {form : Form} → IsQueryOf form find_text record_table (is_given 1 0 ∷ []) (2 ∷ 3 ∷ 4 ∷ []) (codes "content" ∷ codes "status" ∷ codes "body" ∷ [])
unfolding understood everything
find_is made_new = record { command = refl; own_tables = refl; plain = (refl, refl) }
find_is made_second = record { command = refl; own_tables = refl; plain = (refl, refl) }
find_is made_last = record { command = refl; own_tables = refl; plain = (refl, refl) }
find_is from_first = record { command = refl; own_tables = refl; plain = (refl, refl) }
find_is from_second = record { command = refl; own_tables = refl; plain = (refl, refl) }

find_accepted : {form : Form} (number : List ℕ) → IsAcceptedBy form find_text (Text number ∷ [])
unfolding understood everything
find_accepted number made_new = refl
find_accepted number made_second = refl
find_accepted number made_last = refl
find_accepted number from_first = refl
find_accepted number from_second = refl

pub find_unread : {form : Form} (number : List ℕ) → IsUnreadBy form find_text (Text number ∷ [])
find_unread number = unread_by find_text (Text number ∷ []) _ _ find_is (find_accepted number)

pub finds_record : {form : Form} (number : List ℕ) → ReadsLastOf form find_text (Text number ∷ []) (ShowsKey (codes "record") first_text (columns (2 ∷ 3 ∷ 4 ∷ [])) number)
finds_record number = reads_by_text find_text record_table record_placed 1 (2 ∷ 3 ∷ 4 ∷ []) _ find_is record_numbers number
