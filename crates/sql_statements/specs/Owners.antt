-- What walks over the domains of all rows of a table show.
use Rattle.std.specs.Prelude.{ℕ, List, [], ◌∷◌, codes}
use Rattle.sqlite.specs.Order.{Row}
use Rattle.sqlite.specs.Effect.{Database}
use Rattle.sql_statements.specs.Tables.{ShowsTable}
use Rattle.sql_statements.specs.declared.owners.Owned.{Owned}
use Rattle.sql_statements.specs.declared.owners.Owned.TheVariants.{Template, Languages, Units, Suggestions}

-- the table's name
abbrev pub owned_name : Owned → List ℕ
owned_name Template = codes "d_template"
owned_name Languages = codes "d_language"
owned_name Units = codes "d_unit"
owned_name Suggestions = codes "d_suggestion"

-- the place of the domain in its rows
abbrev pub owned_place : Owned → ℕ
owned_place Template = 1
owned_place Languages = 1
owned_place Units = 1
owned_place Suggestions = 2

abbrev pub owners_text : Owned → List ℕ
owners_text Template = codes "SELECT domain FROM d_template ORDER BY domain"
owners_text Languages = codes "SELECT domain FROM d_language ORDER BY domain"
owners_text Units = codes "SELECT domain FROM d_unit ORDER BY domain"
owners_text Suggestions = codes "SELECT domain FROM d_suggestion ORDER BY domain"

-- of a table whose column at this place is the domain
abbrev pub ShowsOwners : List ℕ → ℕ → Database → List Row → Type 0
ShowsOwners name place = ShowsTable name (place ∷ []) (0 ∷ [])
