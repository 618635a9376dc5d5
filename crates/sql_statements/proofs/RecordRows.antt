-- The table of records: what an insertion does.
use Rattle.std.proofs.Common.{ℕ, ℤ, List, [], ◌∷◌, codes, refl}
use Rattle.sqlite.specs.declared.types.Value.TheVariants.{Null, Int, Text}
use Rattle.sqlite.specs.Order.{Row}
use Rattle.sqlite.specs.Term.{Term, lit, col}
use Rattle.sqlite.specs.Listing.{understood}
use Rattle.sqlite_tied.specs.Compute.{everything}
use Rattle.sql_schema.specs.Keys.{first_text}
use Rattle.sql_schema.specs.Inside.{HoldsValues}
use Rattle.sql_schema.proofs.Insertions.{IsInsertion, PutsOf, puts_values, cast_null, cast_int}
use Rattle.sql_schema.proofs.TableRows.{one_record}
use Rattle.sql_schema.specs.Layouts.{Form, Layout, made_new, made_second, made_last, from_first, from_second}
use Rattle.sql_schema.proofs.Layouts.{record_placed}
use Rattle.sql_schema.specs.Schema.{record_table}

abbrev pub insert_text : List ℕ
insert_text = codes "INSERT INTO record (number, content, status, body) VALUES (?1, ?2, ?3, ?4)"

abbrev insert_terms : List Term
insert_terms = lit Null ∷ col 0 0 ∷ col 0 1 ∷ col 0 2 ∷ col 0 3 ∷ []

insert_is : {form : Form} (layout : Layout form) → IsInsertion layout insert_text 5 record_table insert_terms
unfolding understood everything
insert_is made_new = record { is_placed = record_placed made_new; uncounted = refl; is = refl; plain = (refl, refl); none = λ news. refl }
insert_is made_second = record { is_placed = record_placed made_second; uncounted = refl; is = refl; plain = (refl, refl); none = λ news. refl }
insert_is made_last = record { is_placed = record_placed made_last; uncounted = refl; is = refl; plain = (refl, refl); none = λ news. refl }
insert_is from_first = record { is_placed = record_placed from_first; uncounted = refl; is = refl; plain = (refl, refl); none = λ news. refl }
insert_is from_second = record { is_placed = record_placed from_second; uncounted = refl; is = refl; plain = (refl, refl); none = λ news. refl }

module _ (number content : List ℕ) (status : ℤ) (body : List ℕ) where
  abbrev pub values : Row
  values = Text number ∷ Text content ∷ Int status ∷ Text body ∷ []

  pub puts_record : {form : Form} → PutsOf form insert_text values (codes "record") first_text (HoldsValues values)
  puts_record = puts_values insert_is values first_text refl (rw (cast_null, cast_int status) refl) one_record
