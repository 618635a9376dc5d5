-- What a read of the whole office shows.
use Rattle.std.specs.Prelude.{[], cond, codes}
use Rattle.std.specs.Ordering.{nat_cmp, is_eq}
use Rattle.std.specs.Cmp.Lexicographic.{slice_cmp}
use Rattle.sqlite.specs.Effect.{Database}
use Rattle.sql_schema.specs.Layouts.{NamedRows, rows_named}
use Rattle.sql_statements.specs.Answers.{ShowsPolicyIn}
use Rattle.sql_statements.specs.declared.whole_office.OfficeTables.{OfficeTables}
use Rattle.sql_statements.specs.declared.whole_office.UnitTables.{UnitTables}
use Rattle.sql_statements.specs.declared.whole_office.WholeOffice.{WholeOffice}
use Rattle.sql_statements.specs.Tables.{ShowsTeamIn, ShowsTemplateIn, ShowsLanguagesIn, ShowsUnitsIn, ShowsSuggestionsIn, ShowsVotesIn}

-- the team, the policy, the template and the languages
pub record ShowsOfficeTablesIn (tables : NamedRows) (rows : OfficeTables) : Type 0 where
  pub team : ShowsTeamIn tables rows.team.items
  pub policy : ShowsPolicyIn tables rows.policy
  pub template : ShowsTemplateIn tables rows.template.items
  pub languages : ShowsLanguagesIn tables rows.languages.items

-- the units, the suggestions on them, and the votes on these
pub record ShowsUnitTablesIn (tables : NamedRows) (rows : UnitTables) : Type 0 where
  pub units : ShowsUnitsIn tables rows.units.items
  pub suggestions : ShowsSuggestionsIn tables rows.suggestions.items
  pub votes : ShowsVotesIn tables rows.votes.items

-- all of them
pub record ShowsWholeOfficeIn (tables : NamedRows) (rows : WholeOffice) : Type 0 where
  pub office : ShowsOfficeTablesIn tables rows.office
  pub units : ShowsUnitTablesIn tables rows.units

-- those of a database
abbrev pub ShowsOfficeTables : Database → OfficeTables → Type 0
ShowsOfficeTables db rows = ShowsOfficeTablesIn (rows_named db) rows

abbrev pub ShowsUnitTables : Database → UnitTables → Type 0
ShowsUnitTables db rows = ShowsUnitTablesIn (rows_named db) rows

abbrev pub ShowsWholeOffice : Database → WholeOffice → Type 0
ShowsWholeOffice db rows = ShowsWholeOfficeIn (rows_named db) rows

-- ---- without units

-- the rows by domains, but none of a unit, of a suggestion or of a vote
abbrev pub without_units : NamedRows → NamedRows
without_units rows name =
    cond (is_eq (slice_cmp nat_cmp name (codes "d_unit"))) [] (cond (is_eq (slice_cmp nat_cmp name (codes "d_suggestion"))) []
    (cond (is_eq (slice_cmp nat_cmp name (codes "d_vote"))) [] (rows name)))
