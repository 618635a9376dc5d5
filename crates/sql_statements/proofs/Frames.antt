-- What a domain sees without units, read off the office's own tables.
use Rattle.std.proofs.Common.{◌≡◌, ℕ, List, [], ◌∷◌, sym, subst, arith}
use Rattle.std.specs.List.Sorted.{IsSorted}
use Rattle.std.specs.declared.cmp.Ordering.{Ordering}
use Rattle.std.proofs.lemmas.List.Sorted.{IsPermutation-refl}
use Rattle.sqlite.specs.Order.{Row}
use Rattle.sql_schema.specs.Layouts.{NamedRows}
use Rattle.sql_schema.specs.SeenRows.{seen_in}
use Rattle.sql_statements.specs.Tables.{by_columns, ShowsUnitsIn, ShowsSuggestionsIn, ShowsVotesIn}
use Rattle.sql_statements.specs.WholeOffice.{ShowsOfficeTablesIn, ShowsUnitTablesIn, ShowsWholeOfficeIn, without_units}
use Rattle.sql_statements.specs.declared.whole_office.OfficeTables.{OfficeTables}
use Rattle.sql_statements.specs.declared.whole_office.UnitTables.{UnitTables}

nothing_sorted : (compare : Row → Row → Ordering) → IsSorted compare []
nothing_sorted compare k d low high = absurd (omega arith)

module _ (domain : List ℕ) (rows : NamedRows) where
  abbrev bare : NamedRows
  bare = seen_in domain (without_units rows)

  office_shown : (office : OfficeTables) → ShowsOfficeTablesIn (seen_in domain rows) office → ShowsOfficeTablesIn bare office
  office_shown office it = record {
    team = record { all = it.team.all; in_order = it.team.in_order };
    policy = it.policy;
    template = record { all = it.template.all; in_order = it.template.in_order };
    languages = record { all = it.languages.all; in_order = it.languages.in_order };
  }

  nothing_shown : (units : UnitTables) → units.units.items ≡ [] → units.suggestions.items ≡ [] → units.votes.items ≡ [] → ShowsUnitTablesIn bare units
  nothing_shown units none no_suggestion no_vote = record {
    units = subst (ShowsUnitsIn bare) (sym none) (record { all = IsPermutation-refl []; in_order = nothing_sorted (by_columns (7 ∷ 8 ∷ [])) });
    suggestions = subst (ShowsSuggestionsIn bare) (sym no_suggestion) (record { all = IsPermutation-refl []; in_order = nothing_sorted (by_columns (4 ∷ 5 ∷ 1 ∷ [])) });
    votes = subst (ShowsVotesIn bare) (sym no_vote) (record { all = IsPermutation-refl []; in_order = nothing_sorted (by_columns (2 ∷ 0 ∷ [])) });
  }

  pub frame_shown : (office : OfficeTables) (units : UnitTables) → ShowsOfficeTablesIn (seen_in domain rows) office → units.units.items ≡ [] → units.suggestions.items ≡ [] → units.votes.items ≡ []
      → ShowsWholeOfficeIn bare (record { office = office; units = units })
  frame_shown office units it none no_suggestion no_vote = record { office = office_shown office it; units = nothing_shown units none no_suggestion no_vote }
