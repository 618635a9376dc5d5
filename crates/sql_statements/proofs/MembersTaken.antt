-- A member is taken out of the team.
use Rattle.std.proofs.Common.{◌≡◌, ℕ, List, [], ◌∷◌, codes, refl}
use Rattle.std.proofs.Math.Bool.{and-true}
use Rattle.std.specs.Ordering.{is_eq, nat_cmp}
use Rattle.std.specs.Cmp.Lexicographic.{slice_cmp}
use Rattle.sqlite.specs.Collation.TheVariants.{Binary}
use Rattle.sqlite.specs.declared.types.Value.TheVariants.{Text}
use Rattle.sqlite.specs.Order.{Row, column}
use Rattle.sqlite.specs.Term.{Term, col, op2}
use Rattle.sqlite.specs.Listing.{understood}
use Rattle.sqlite_sql.specs.declared.ops.CompareOp.TheVariants as compare
use Rattle.sqlite_sql.specs.declared.ops.BinaryOp.TheVariants as by
use Rattle.sqlite_schema.specs.Names.{same_name}
use Rattle.sqlite_value.specs.Keys.{joined}
use Rattle.sqlite_tied.specs.Compute.{everything}
use Rattle.sql_laws.specs.PlainQueries.{passes}
use Rattle.sql_laws.proofs.Comparisons.{texts_compared}
use Rattle.sql_schema.specs.Keys.{first_text, has_text}
use Rattle.sql_schema.proofs.TableRows.{member_names}
use Rattle.sql_statements.proofs.Removals.{IsRemoval, TakesOf, takes_rows}
use Rattle.sql_schema.specs.Layouts.{Form, Layout, made_new, made_second, made_last, from_first, from_second}
use Rattle.sql_schema.proofs.Layouts.{team_placed}
use Rattle.sql_schema.specs.Schema.{team_table}

abbrev pub delete_text : List ℕ
delete_text = codes "DELETE FROM team WHERE name = ?1"

abbrev delete_terms : List Term
delete_terms = op2 (by.Compare compare.Eq Binary) (col 1 1) (col 0 0) ∷ []

delete_is : {form : Form} (layout : Layout form) → IsRemoval layout delete_text team_table delete_terms
unfolding understood same_name joined everything
delete_is made_new = record { is_placed = team_placed made_new; is = refl; plain = (refl, refl); none = λ olds. refl }
delete_is made_second = record { is_placed = team_placed made_second; is = refl; plain = (refl, refl); none = λ olds. refl }
delete_is made_last = record { is_placed = team_placed made_last; is = refl; plain = (refl, refl); none = λ olds. refl }
delete_is from_first = record { is_placed = team_placed from_first; is = refl; plain = (refl, refl); none = λ olds. refl }
delete_is from_second = record { is_placed = team_placed from_second; is = refl; plain = (refl, refl); none = λ olds. refl }

module _ (name : List ℕ) where
  abbrev pub given : Row
  given = Text name ∷ []

  tested : (row : Row) (a : List ℕ) → column row 1 ≡ Text a → passes given delete_terms row ≡ is_eq (slice_cmp nat_cmp a name)
  tested row a first = rw (first, texts_compared a name) (and-true (is_eq (slice_cmp nat_cmp a name)))

  pub takes_member : {form : Form} → TakesOf form delete_text given (codes "team") (has_text 1 name)
  takes_member = takes_rows delete_is given (has_text 1 name) (λ db has sound row there. tested row (first_text row) (member_names db has sound row there))
