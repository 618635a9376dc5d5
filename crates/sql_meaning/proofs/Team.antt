-- The team, the policy and the headers that the rows stand for: what a query by name, by language, or of the one policy finds of them.
use Rattle.std.proofs.Common.{◌≡◌, [], ◌∷◌, Option, option_map, refl, codes}
use Rattle.std.specs.Cmp.Lexicographic.{nat_list_cmp_total}
use Rattle.std.specs.Prelude.{⊤}
use Rattle.std.specs.FinMap as maps
use Rattle.sqlite.specs.Order.{Row}
use Rattle.sql_laws.specs.RowMaps.{OneEach, IsFound}
use Rattle.po_text.specs.Texts.{Text, text_cmp}
use Rattle.sql_schema.specs.Keys.{first_text, columns}
use Rattle.sql_meaning.specs.Values.{role_at}
use Rattle.sql_meaning.specs.Shown.{shown_header}
use Rattle.sql_meaning.specs.Meaning.{team_in, headers_in, header_of_row}
use Rattle.sql_meaning.proofs.Lookups.{AreOneKey, IsKeyOf, finds}
use Rattle.sql_meaning.proofs.Books.{same_texts}
use Rattle.sql_schema.specs.Layouts.{NamedRows}

abbrev Any : Row → Type 0
Any row = ⊤

by_text : AreOneKey first_text first_text Any
by_text = record { forth = λ r s reads_r reads_s e. e; back = λ r s reads_r reads_s e. e }

text_asked : (text : Text) → IsKeyOf first_text first_text Any text text
text_asked text = record { forth = λ r reads is. is; back = λ r reads is. is }

pub finds_role : (tables : NamedRows) (name : Text) (found : Option Row) → OneEach first_text (tables (codes "team"))
    → IsFound first_text (columns (2 ∷ [])) (tables (codes "team")) name found → maps.get (team_in tables) name ≡ option_map (role_at 0) found
finds_role tables name found one it =
    finds first_text first_text Any text_cmp nat_list_cmp_total same_texts (role_at 2) (tables (codes "team")) name name (columns (2 ∷ [])) (role_at 0) found
    (λ r there. tt) one by_text (text_asked name) (λ r is. refl) it

pub finds_header : (tables : NamedRows) (lang : Text) (found : Option Row) → OneEach first_text (tables (codes "language"))
    → IsFound first_text (columns (2 ∷ 3 ∷ [])) (tables (codes "language")) lang found → maps.get (headers_in tables) lang ≡ option_map shown_header found
finds_header tables lang found one it =
    finds first_text first_text Any text_cmp nat_list_cmp_total same_texts header_of_row (tables (codes "language")) lang lang (columns (2 ∷ 3 ∷ [])) shown_header found
    (λ r there. tt) one by_text (text_asked lang) (λ r is. refl) it
