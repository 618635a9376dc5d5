-- What a look at a unit of a domain shows: the office's rows, the unit's, and the votes on each of its suggestions, or on one of them, or none of them.
use Rattle.std.specs.Prelude.{◌≡◌, ℕ, List, [], map, Option, option_map, IfSome}
use Rattle.std.specs.List.{All}
use Rattle.sqlite.specs.Order.{Row}
use Rattle.sqlite.specs.Effect.{Database}
use Rattle.sql_statements.specs.declared.unit_rows.SuggestionRows.{SuggestionRows}
use Rattle.sql_statements.specs.declared.unit_rows.OfficeRows.{OfficeRows}
use Rattle.sql_statements.specs.declared.unit_rows.UnitRows.{UnitRows}
use Rattle.sql_statements.specs.declared.unit_rows.ContextRows.{ContextRows}
use Rattle.sql_statements.specs.Answers.{ShowsMember, ShowsPolicy}
use Rattle.sql_statements.specs.DomainAnswers.{ShowsDomainEntry, ShowsDomainLanguage, ShowsDomainSuggestions, ShowsDomainUnit, ShowsDomainVotes, ShowsSuggestionOf}
use Rattle.sql_statements.specs.UnitRows.{suggestion_of}
use Rattle.sql_schema.specs.Keys.{text_at}

-- the domain's language, the policy, and the role of the one who asks
pub record ShowsDomainOfficeRows (domain lang name : List ℕ) (db : Database) (rows : OfficeRows) : Type 0 where
  pub language : ShowsDomainLanguage domain lang db rows.language
  pub policy : ShowsPolicy db rows.policy
  pub role : ShowsMember name db rows.role

-- the votes are those on this suggestion: a suggestion's number is the first column that is shown of it
abbrev pub ShowsDomainVotesOn : Database → SuggestionRows → Type 0
ShowsDomainVotesOn db rows = ShowsDomainVotes (text_at 0 rows.suggestion) db rows.votes.items

-- this suggestion, and the votes on it
pub record ShowsWithDomainVotes (suggestion : Row) (db : Database) (rows : SuggestionRows) : Type 0 where
  pub same : rows.suggestion ≡ suggestion
  pub votes : ShowsDomainVotesOn db rows

-- each suggestion on the unit, and the votes on each
pub record ShowsEachWithDomainVotes (domain lang key : List ℕ) (db : Database) (rows : List SuggestionRows) : Type 0 where
  pub suggestions : ShowsDomainSuggestions domain lang key db (map suggestion_of rows)
  pub votes : All (ShowsDomainVotesOn db) rows

-- the unit, its template's entry, and its suggestions with the votes on each
pub record ShowsDomainUnitRows (domain lang key : List ℕ) (db : Database) (rows : UnitRows) : Type 0 where
  pub unit : ShowsDomainUnit domain lang key db rows.unit
  pub entry : ShowsDomainEntry domain key db rows.entry
  pub suggestions : ShowsDomainSuggestions domain lang key db (map suggestion_of rows.suggestions.items)
  pub votes : All (ShowsDomainVotesOn db) rows.suggestions.items

-- both
pub record ShowsDomainContextRows (domain lang key name : List ℕ) (db : Database) (rows : ContextRows) : Type 0 where
  pub office : ShowsDomainOfficeRows domain lang name db rows.office
  pub unit : ShowsDomainUnitRows domain lang key db rows.unit

-- ---- without the suggestions, or of them one

-- the unit and its template's entry; no suggestion is asked for
pub record ShowsDomainUnitAlone (domain lang key : List ℕ) (db : Database) (rows : UnitRows) : Type 0 where
  pub unit : ShowsDomainUnit domain lang key db rows.unit
  pub entry : ShowsDomainEntry domain key db rows.entry
  pub none : rows.suggestions.items ≡ []

-- with the office's rows
pub record ShowsDomainContextAlone (domain lang key name : List ℕ) (db : Database) (rows : ContextRows) : Type 0 where
  pub office : ShowsDomainOfficeRows domain lang name db rows.office
  pub unit : ShowsDomainUnitAlone domain lang key db rows.unit

-- the suggestion of a number on the unit, if there is one, and the votes on it
pub record ShowsOneDomainSuggestion (domain lang key number : List ℕ) (db : Database) (found : Option SuggestionRows) : Type 0 where
  pub suggestion : ShowsSuggestionOf domain lang key number db (option_map suggestion_of found)
  pub votes : IfSome found (ShowsDomainVotesOn db)
