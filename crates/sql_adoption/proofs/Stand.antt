-- The rows that reads show stand for values where those of the tables do.
use Rattle.std.proofs.Common.{◌≡◌, ℕ, Bool, true, List, [], ◌∷◌, map, Option, Some, None, refl, sym, ap, subst, ◌∙◌, codes}
use Rattle.std.specs.Prelude.{All, IsTrue, pos}
use Rattle.std.specs.List.{list_all}
use Rattle.std.specs.Option.{option_map_or}
use Rattle.std.proofs.lemmas.Bool.{and_parts, and_from}
use Rattle.std.proofs.lemmas.List.Elements.{recursion_from_All, All-from_recursion}
use Rattle.std.proofs.lemmas.List.Sorted.{IsPermutation-sym}
use Rattle.sqlite.specs.declared.types.Value.TheVariants.{Int}
use Rattle.sqlite.specs.Order.{Row}
use Rattle.sqlite_rules.specs.Lists.{Has}
use Rattle.sqlite_rules.proofs.ListLemmas.{all_has, all_from, test_has, test_from}
use Rattle.sql_laws.proofs.RemovedRows.{to_mapped, from_mapped, has_permuted}
use Rattle.po_text.specs.Valid.{IsValid}
use Rattle.sql_statements.specs.Answers.{ShowsPolicyIn}
use Rattle.sql_schema.specs.Keys.{columns, row_number}
use Rattle.sql_meaning.specs.Values.{integer_of}
use Rattle.sql_meaning.specs.RowKeys.{AreOfficeRows}
use Rattle.sql_statements.specs.Tables.{ShowsTableIn}
use Rattle.sql_statements.specs.WholeOffice.{ShowsWholeOfficeIn}
use Rattle.sql_statements.specs.declared.whole_office.WholeOffice.{WholeOffice}
use Rattle.sql_meaning.proofs.WholeOffice.{whole_rows}
use Rattle.units.specs.Project.{Project}
use Rattle.sql_statements.specs.RecordTable.{ShowsRecordsIn}
use Rattle.sql_decoding.specs.RowTests.{AreOfficeRows as ReadRows, is_policy_row}
use Rattle.sql_adoption.specs.BookShown.{IsRecordRow}
use Rattle.sql_adoption.specs.FigureRows.{ListsTable}
use Rattle.sql_adoption.specs.Adoption.{Each, AreContents, StandForOffice, StandForBook}
use Rattle.sql_schema.specs.Layouts.{NamedRows}

-- ---- a table

module _ (tables : NamedRows) (name : List ℕ) (places : List ℕ) (rows : List Row) (lists : ListsTable name places tables rows) where
  abbrev shown : List Row
  shown = map (columns places) (tables name)

  -- a row of the table is shown
  pub is_listed : (row : Row) → Has (tables name) row → Has rows (columns places row)
  is_listed row there = has_permuted rows shown (columns places row) (IsPermutation-sym shown rows lists) (to_mapped (columns places) (tables name) row there)

  -- what is shown is a row of the table
  pub was_listed : (row : Row) → Has rows row → (r : Row) × Has (tables name) r × (row ≡ columns places r)
  was_listed row here = from_mapped (columns places) (tables name) row (has_permuted shown rows row lists here)

  pub all_listed : (test : Row → Bool) → Each name places test tables → list_all test rows ≡ true
  all_listed test each = test_from test rows (λ row here.
      let was = was_listed row here in
      ap test was.2 ∙ each was.0 was.1)

-- the same in an order
module _ (tables : NamedRows) (name : List ℕ) (places order : List ℕ) (rows : List Row) (shows : ShowsTableIn name places order tables rows) where
  pub is_shown : (row : Row) → Has (tables name) row → Has rows (columns places row)
  is_shown = is_listed tables name places rows shows.all

  pub was_there : (row : Row) → Has rows row → (r : Row) × Has (tables name) r × (row ≡ columns places r)
  was_there = was_listed tables name places rows shows.all

  module _ (test : Row → Bool) where
    pub each_stands : list_all test rows ≡ true → Each name places test tables
    each_stands stand row there = test_has test rows (columns places row) stand (is_shown row there)

    pub all_stand : Each name places test tables → list_all test rows ≡ true
    all_stand = all_listed tables name places rows shows.all test

-- ---- the policy

module _ (tables : NamedRows) (found : Option Row) (shows : ShowsPolicyIn tables found) where
  policy_stands : AreOfficeRows tables → option_map_or is_policy_row found true ≡ true → (row : Row) → Has (tables (codes "policy")) row → row_number row ≡ Int (pos 1)
      → IsTrue (is_policy_row (columns (2 ∷ 3 ∷ 4 ∷ 5 ∷ 6 ∷ 7 ∷ 8 ∷ []) row))
  policy_stands office stands row there first = by found refl
    where
      by : (o : Option Row) → found ≡ o → IsTrue (is_policy_row (columns (2 ∷ 3 ∷ 4 ∷ 5 ∷ 6 ∷ 7 ∷ 8 ∷ []) row))
      by (Some seen) is =
          let it = subst (ShowsPolicyIn tables) is shows in
          let same = office.keyed.one_policy row it.0 there it.1 (ap integer_of (first ∙ sym it.2)) in
          ap (λ r. is_policy_row (columns (2 ∷ 3 ∷ 4 ∷ 5 ∷ 6 ∷ 7 ∷ 8 ∷ []) r)) same ∙ ap is_policy_row it.3 ∙ ap (λ o. option_map_or is_policy_row o true) (sym is) ∙ stands
      by None is = absurd (subst (ShowsPolicyIn tables) is shows row there first)

  policy_shown_stands : ((row : Row) → Has (tables (codes "policy")) row → row_number row ≡ Int (pos 1) → IsTrue (is_policy_row (columns (2 ∷ 3 ∷ 4 ∷ 5 ∷ 6 ∷ 7 ∷ 8 ∷ []) row)))
      → option_map_or is_policy_row found true ≡ true
  policy_shown_stands stands = by found refl
    where
      by : (o : Option Row) → found ≡ o → option_map_or is_policy_row found true ≡ true
      by (Some seen) is =
          let it = subst (ShowsPolicyIn tables) is shows in
          ap (λ o. option_map_or is_policy_row o true) is ∙ ap is_policy_row (sym it.3) ∙ stands it.0 it.1 it.2
      by None is = ap (λ o. option_map_or is_policy_row o true) is

-- ---- the office

module _ (tables : NamedRows) (office : AreOfficeRows tables) (rows : WholeOffice) (shows : ShowsWholeOfficeIn tables rows) where
  pub office_stands : ReadRows rows → StandForOffice tables
  office_stands stand = record {
    members = each_stands tables _ _ _ _ shows.office.team _ stand.members;
    policy = policy_stands tables rows.office.policy shows.office.policy office stand.policy;
    entries = each_stands tables _ _ _ _ shows.office.template _ stand.template.each;
    template = subst IsValid (ap (λ (p : Project). p.template) (whole_rows tables office rows shows)) stand.template.valid;
    languages = each_stands tables _ _ _ _ shows.office.languages _ stand.languages;
    units = each_stands tables _ _ _ _ shows.units.units _ (and_parts _ _ stand.units).1;
    suggestions = each_stands tables _ _ _ _ shows.units.suggestions _ (and_parts _ _ (and_parts _ _ stand.units).0).1;
    votes = each_stands tables _ _ _ _ shows.units.votes _ (and_parts _ _ (and_parts _ _ stand.units).0).0;
  }

  pub rows_stand : StandForOffice tables → ReadRows rows
  rows_stand stand = record {
    members = all_stand tables _ _ _ _ shows.office.team _ stand.members;
    policy = policy_shown_stands tables rows.office.policy shows.office.policy stand.policy;
    template = record {
      each = all_stand tables _ _ _ _ shows.office.template _ stand.entries;
      valid = subst IsValid (sym (ap (λ (p : Project). p.template) (whole_rows tables office rows shows))) stand.template;
    };
    languages = all_stand tables _ _ _ _ shows.office.languages _ stand.languages;
    units = and_from _ _ (and_from _ _ (all_stand tables _ _ _ _ shows.units.votes _ stand.votes) (all_stand tables _ _ _ _ shows.units.suggestions _ stand.suggestions))
        (all_stand tables _ _ _ _ shows.units.units _ stand.units);
  }

-- ---- the book

module _ (tables : NamedRows) (rows : List Row) (shows : ShowsRecordsIn tables rows) where
  pub all_contents : All IsRecordRow rows → AreContents tables
  all_contents stand row there =
      IsRecordRow.content (all_has IsRecordRow rows _ (recursion_from_All IsRecordRow rows stand) (is_shown tables _ _ _ rows shows row there))

  pub book_stands : All IsRecordRow rows → StandForBook tables
  book_stands stand = record {
    records = λ row there. IsRecordRow.stands (all_has IsRecordRow rows _ (recursion_from_All IsRecordRow rows stand) (is_shown tables _ _ _ rows shows row there));
    contents = all_contents stand;
  }

  pub records_stand : StandForBook tables → All IsRecordRow rows
  records_stand stand = All-from_recursion IsRecordRow rows (all_from IsRecordRow rows (λ row here.
      let was = was_there tables (codes "record") (2 ∷ 3 ∷ 4 ∷ 1 ∷ []) (3 ∷ []) rows shows row here in
      subst IsRecordRow (sym was.2) (record { stands = stand.records was.0 was.1; content = stand.contents was.0 was.1 })))
