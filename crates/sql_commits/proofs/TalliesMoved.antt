-- How a tally moves by what is read of a unit that is there: for its new view, for its row alone, and for a suggestion more.
use Rattle.std.specs.Prelude.{⊤}
use Rattle.std.proofs.Common.{◌⊎◌, inl, inr, ◌≡◌, ◌&&◌, List, [], ◌∷◌, ◌++◌, map, filter, length, Bool, true, Option, Some, None, cond, option_map, unwrap_or, nat_eq, rules, codes, refl, sym, ap, subst, ◌∙◌}
use Rattle.std.specs.FinMap as maps
use Rattle.std.specs.List.Sorted.{IsPermutation}
use Rattle.sqlite.specs.Effect.{Database}
use Rattle.sqlite.specs.Order.{Row}
use Rattle.po_text.specs.declared.entry.Entry.{Entry}
use Rattle.po_text.specs.Texts.{Text, text_eq}
use Rattle.units.specs.KeyTexts.{HasStrings}
use Rattle.units.specs.Office.{same_domain}
use Rattle.units.specs.Project.{Project, entry_of, view_of}
use Rattle.units.specs.Units.{key_text}
use Rattle.units.specs.declared.unit.Key.{Key}
use Rattle.units.specs.declared.unit.Suggestion.{Suggestion}
use Rattle.units.specs.declared.unit.Unit.{Unit}
use Rattle.units.specs.declared.unit.UnitView.{UnitView}
use Rattle.office_specification.specs.Counting.{none_counted}
use Rattle.office_specification.specs.declared.tally.Tally.{Tally}
use Rattle.tables.specs.Tallies.{counted, moved}
use Rattle.sql_schema.specs.Inside.{AreOfficeTablesOf}
use Rattle.sql_schema.specs.Keys.{has_text, is_on_unit, columns}
use Rattle.sql_schema.specs.Layouts.{by_domain, NamedRows, rows_named}
use Rattle.sql_schema.specs.SeenRows.{suggestion_seen, seen_in}
use Rattle.sql_schema.proofs.DomainsSeen.{unit_found_seen}
use Rattle.sql_statements.specs.DomainAnswers.{ShowsDomainUnit, ShowsPlaces}
use Rattle.sql_statements.specs.DomainCleared.{is_on_domain_unit}
use Rattle.sql_statements.proofs.Seen.{mapped_seen, filtered_seen}
use Rattle.sql_meaning.specs.Meaning.{suggestions_in}
use Rattle.sql_meaning.specs.Shown.{shown_unit}
use Rattle.sql_meaning.specs.Values.{flag_at, state_at}
use Rattle.sql_meaning.proofs.DomainOfficeRows.{domain_rows}
use Rattle.sql_meaning.proofs.OfficeQueries.{places_found}
use Rattle.sql_meaning.proofs.Units.{finds_unit}
use Rattle.sql_figures.specs.Figures.{moved_at, FiguresFollow}
use Rattle.sql_figures.specs.KeptTallies.{Counts, counted_at}
use Rattle.sql_figures.proofs.FigureSteps.{follow_as}
use Rattle.sql_commits.specs.Counted.{HasValues, HasValuesIf, HasMoving, HasMovingIf, ShowsMoving, ShowsValues, CountsOneMore}
use Rattle.sql_commits.proofs.UnitTallied.{suggestions_aside}
use Rattle.sql_commits.specs.Figures.{project_at, FollowsView, FollowsOwnRow, FollowsOneMore}
use Rattle.sql_commits.specs.declared.unit_counts.CountedValues.{CountedValues}

-- ---- tallies whose counts all are the same

pub same_tally : (a b : Tally) (told : Bool) → told ≡ true
    → told ≡ nat_eq a.approved b.approved
    && (nat_eq a.needs_editing b.needs_editing && (nat_eq a.obsolete b.obsolete && (nat_eq a.read_only b.read_only && (nat_eq a.suggestions b.suggestions && (nat_eq a.translated b.translated && nat_eq a.untranslated b.untranslated)))))
    → a ≡ b
same_tally a b told is by = search rules

-- ---- a unit that is looked up

module _ (db : Database) (ready : AreOfficeTablesOf by_domain db) (domain lang : Text) (key : Key) (strings : HasStrings key) where
  abbrev tables : NamedRows
  tables = seen_in domain (rows_named db)

  abbrev pub suggested : List Suggestion
  suggested = suggestions_in tables lang (key_text key)

  -- by the texts of its place
  pub unit_looked_up : (given code column : Text) (found : Option Row) → given ≡ domain → code ≡ lang → column ≡ key_text key → ShowsDomainUnit given code column db found
      → maps.get (project_at domain db).units (lang, key) ≡ option_map (shown_unit key suggested) found
  unit_looked_up given code column found is_domain is_lang is_key shown =
      let own = subst (λ (x : Text × Text × Text). ShowsDomainUnit x.0 x.1 x.2 db found) (λ i. (is_domain i, is_lang i, is_key i)) shown in
      finds_unit tables lang key found (domain_rows db ready domain).keyed.one_unit strings (unit_found_seen domain lang (key_text key) db found own (tables (codes "unit")) refl)

  -- what is read of its row is what it counts, but for its suggestions
  module _ (given code column : Text) (found : Option Row) (is_domain : given ≡ domain) (is_lang : code ≡ lang) (is_key : column ≡ key_text key) (shown : ShowsDomainUnit given code column db found) (obsolete : Bool) where
    row_at_key : maps.get (project_at domain db).units (lang, key) ≡ option_map (shown_unit key suggested) found
    row_at_key = unit_looked_up given code column found is_domain is_lang is_key shown

    pub row_moving : (row : Row) (values : CountedValues) → found ≡ Some row → values.state ≡ state_at 2 row → values.obsolete ≡ flag_at 3 row → values.obsolete ≡ obsolete → values.suggestions ≡ 0
        → HasMovingIf key obsolete (maps.get (project_at domain db).units (lang, key)) (Some values)
    row_moving row values is_found is_state is_obsolete alike none =
        subst (λ o. HasMovingIf key obsolete o (Some values)) (sym (row_at_key ∙ ap (option_map (shown_unit key suggested)) is_found))
        (refl, (sym is_state, sym is_obsolete, inl (sym is_obsolete ∙ alike, none)))

    pub none_moving : found ≡ None → HasMovingIf key obsolete (maps.get (project_at domain db).units (lang, key)) None
    none_moving is_found = subst (λ o. HasMovingIf key obsolete o None) (sym (row_at_key ∙ ap (option_map (shown_unit key suggested)) is_found)) tt

  -- as many suggestions are on it as there are places
  places_seen : (rows : List Row) → ShowsPlaces domain lang (key_text key) db rows → length suggested ≡ length rows
  places_seen rows shown =
      let all = rows_named db (codes "d_suggestion") in
      let listed : IsPermutation (map (columns (4 ∷ [])) (filter (is_on_unit lang (key_text key)) (tables (codes "suggestion")))) rows =
      subst (λ l. IsPermutation l rows)
      (mapped_seen (columns (5 ∷ [])) (columns (4 ∷ [])) suggestion_seen (filter (is_on_domain_unit domain lang (key_text key)) all) (λ row there. refl)
      ∙ ap (map (columns (4 ∷ []))) (filtered_seen (has_text 2 domain) (is_on_unit lang (key_text key)) suggestion_seen all)) shown.0 in
      places_found tables (domain_rows db ready domain) lang (key_text key) rows listed shown.1

  module _ (given code column given_again code_again column_again : Text) (is_domain : given ≡ domain) (is_lang : code ≡ lang) (is_key : column ≡ key_text key)
      (is_domain_again : given_again ≡ domain) (is_lang_again : code_again ≡ lang) (is_key_again : column_again ≡ key_text key)
      (found : Option Row) (places : List Row) (shown : ShowsDomainUnit given code column db found × ShowsPlaces given_again code_again column_again db places) where
    at_key : maps.get (project_at domain db).units (lang, key) ≡ option_map (shown_unit key suggested) found
    at_key = unit_looked_up given code column found is_domain is_lang is_key shown.0

    many : length suggested ≡ length places
    many = places_seen places (subst (λ (x : Text × Text × Text). ShowsPlaces x.0 x.1 x.2 db places) (λ i. (is_domain_again i, is_lang_again i, is_key_again i)) shown.1)

    -- what is read of it is what it counts
    pub values_shown : (row : Row) (values : CountedValues) → found ≡ Some row → values.state ≡ state_at 2 row → values.obsolete ≡ flag_at 3 row → values.suggestions ≡ length places
        → ShowsValues domain lang key db (Some values)
    values_shown row values is_found is_state is_obsolete are =
        subst (λ o. HasValuesIf key o (Some values)) (sym (at_key ∙ ap (option_map (shown_unit key suggested)) is_found)) (refl, (sym is_state, sym is_obsolete, many ∙ sym are))

    pub none_shown : found ≡ None → ShowsValues domain lang key db None
    none_shown is_found = subst (λ o. HasValuesIf key o None) (sym (at_key ∙ ap (option_map (shown_unit key suggested)) is_found)) tt

-- with all of its values, whatever takes its place
pub values_moving : (key : Key) (obsolete : Bool) (there : Option Unit) (values : CountedValues) → HasValuesIf key there (Some values) → HasMovingIf key obsolete there (Some values)
values_moving key obsolete (Some unit) values has = (has.0, (has.1.0, has.1.1, inr has.1.2))
values_moving key obsolete None values has = has

-- ---- for its new view

-- what its new view counts, by its template's entry
abbrev pub CountsView : UnitView → Tally → Type 0
CountsView view tally = (template : List Entry) → view.source ≡ entry_of template view.unit.key → tally ≡ counted template view.unit

-- what the unit that is there counts, by its template's entry
abbrev pub CountsThere : Option Entry → Option CountedValues → Tally → Type 0
CountsThere source there tally = (template : List Entry) (key : Key) (unit : Option Unit) → source ≡ entry_of template key → HasValuesIf key unit there → tally ≡ counted_at template unit

pub moves_view : (domain lang : Text) (view : UnitView) (there : Option CountedValues) (was is : Tally) (old mid new : Database) → CountsThere view.source there was → CountsView view is
    → (mid ≡ old) × ShowsValues domain lang view.unit.key old there → FiguresFollow (moved_at domain lang was is) mid new → FollowsView domain lang view old new
moves_view domain lang view there was is old mid new before now shown follows source =
    let project = project_at domain old in
    let first = before project.template view.unit.key (maps.get project.units (lang, view.unit.key)) source shown.1 in
    let second = now project.template source in
    subst (λ (x : Tally × Tally). FiguresFollow (moved_at domain lang x.0 x.1) old new) (λ i. (first i, second i)) (subst (λ (db : Database). FiguresFollow (moved_at domain lang was is) db new) shown.0 follows)

-- what a unit counts that has these values
abbrev pub CountsSo : Option Entry → CountedValues → Tally → Type 0
CountsSo source values tally = (template : List Entry) (unit : Unit) → source ≡ entry_of template unit.key → HasValues unit values → tally ≡ counted template unit

pub counts_there : (source : Option Entry) (there : Option CountedValues) (values : CountedValues) (tally : Tally) → there ≡ Some values → CountsSo source values tally → CountsThere source there tally
counts_there source there values tally is counts template key (Some unit) entry has =
    let own : (unit.key ≡ key) × HasValues unit values = subst (HasValuesIf key (Some unit)) is has in
    counts template unit (entry ∙ ap (entry_of template) (sym own.0)) own.1
counts_there source there values tally is counts template key None entry has = absurd (subst (HasValuesIf key None) is has)

pub counts_nowhere : (source : Option Entry) (there : Option CountedValues) (tally : Tally) → there ≡ None → tally ≡ none_counted → CountsThere source there tally
counts_nowhere source there tally is nothing template key (Some unit) entry has = absurd (subst (HasValuesIf key (Some unit)) is has)
counts_nowhere source there tally is nothing template key None entry has = nothing

-- ---- for its row alone

-- tallies that move the same
moved_alike : (domain lang : Text) (was is first second : Tally) → ((before : Tally) → moved before first second ≡ moved before was is) → (counts : Counts) (d l : Text)
    → moved_at domain lang was is counts d l ≡ moved_at domain lang first second counts d l
moved_alike domain lang was is first second alike counts d l = λ i. cond (same_domain d domain && text_eq l lang) (option_map (λ (before : Tally). sym (alike before) i) (counts d l)) (counts d l)

-- a view is of the unit that is there, and of its key's entry
pub view_parts : (project : Project) (lang : Text) (key : Key) (there : UnitView) → view_of project (lang, key) ≡ Some there
    → (maps.get project.units (lang, key) ≡ Some there.unit) × (there.source ≡ entry_of project.template key)
view_parts project lang key there is = by (maps.get project.units (lang, key)) is
  where
    by : (o : Option Unit) → option_map (λ (unit : Unit). record { unit = unit; source = entry_of project.template key }) o ≡ Some there → (o ≡ Some there.unit) × (there.source ≡ entry_of project.template key)
    by (Some unit) e =
        let same : record { unit = unit; source = entry_of project.template key } ≡ there = ap (λ (o : Option UnitView). unwrap_or o there) e in
        (ap (λ (v : UnitView). Some v.unit) same, sym (ap (λ (v : UnitView). v.source) same))
    by None e = absurd (let none : None ≡ Some there = e in cc)

module _ (domain lang : Text) (view : UnitView) (values own : CountedValues) (was is : Tally) (old new : Database) (before : CountsSo view.source values was) (now : CountsSo view.source own is)
    (is_own : own ≡ record { state = view.unit.state; obsolete = view.unit.obsolete; suggestions = values.suggestions }) (follows : FiguresFollow (moved_at domain lang was is) old new) where
  -- from a unit with these values to the view's with as many suggestions
  moves_so : (template : List Entry) (unit : Unit) → view.source ≡ entry_of template unit.key → unit.key ≡ view.unit.key → HasValues unit values
      → FiguresFollow (moved_at domain lang (counted template unit) (counted template (record view.unit { suggestions = unit.suggestions }))) old new
  moves_so template unit entry same has =
      let left : Unit = record view.unit { suggestions = unit.suggestions } in
      let first = before template unit entry has in
      let second = now template left (entry ∙ ap (entry_of template) same) (subst (HasValues left) (sym is_own) (refl, refl, has.2)) in
      subst (λ (x : Tally × Tally). FiguresFollow (moved_at domain lang x.0 x.1) old new) (λ i. (first i, second i)) follows

  moves_from : (template : List Entry) (unit : Unit) → view.source ≡ entry_of template unit.key → unit.key ≡ view.unit.key → HasMoving view.unit.obsolete unit values
      → FiguresFollow (moved_at domain lang (counted template unit) (counted template (record view.unit { suggestions = unit.suggestions }))) old new
  moves_from template unit entry same has = by has.2
    where
      by : ((unit.obsolete ≡ view.unit.obsolete) × (values.suggestions ≡ 0)) ⊎ (length unit.suggestions ≡ values.suggestions)
          → FiguresFollow (moved_at domain lang (counted template unit) (counted template (record view.unit { suggestions = unit.suggestions }))) old new
      by (inr many) = moves_so template unit entry same (has.0, has.1, many)
      by (inl aside) =
          let without : Unit = record unit { suggestions = [] } in
          let left : Unit = record view.unit { suggestions = unit.suggestions } in
          let bare_left : Unit = record view.unit { suggestions = [] } in
          let change = moved_at domain lang (counted template unit) (counted template left) in
          follow_as (λ counts. ⊤) (moved_at domain lang (counted template without) (counted template bare_left)) change
          (moved_alike domain lang (counted template unit) (counted template left) (counted template without) (counted template bare_left) (λ tally. suggestions_aside template unit view.unit tally aside.0))
          (moves_so template without entry same (has.0, has.1, sym aside.1))

pub moves_row_alone : (domain lang : Text) (view : UnitView) (values own : CountedValues) (was is : Tally) (old mid new : Database) → CountsSo view.source values was → CountsSo view.source own is
    → own ≡ record { state = view.unit.state; obsolete = view.unit.obsolete; suggestions = values.suggestions }
    → (mid ≡ old) × ShowsMoving domain lang view.unit old (Some values) → FiguresFollow (moved_at domain lang was is) mid new → FollowsOwnRow domain lang view old new
moves_row_alone domain lang view values own was is old mid new before now is_own shown follows key there found same source =
    let project = project_at domain old in
    let parts = view_parts project lang key there found in
    let entry : view.source ≡ entry_of project.template key = source ∙ parts.1 in
    let has : (there.unit.key ≡ view.unit.key) × HasMoving view.unit.obsolete there.unit values =
    subst (λ (o : Option Unit). HasMovingIf view.unit.key view.unit.obsolete o (Some values)) (ap (λ (k : Key). maps.get project.units (lang, k)) same ∙ parts.0) shown.1 in
    moves_from domain lang view values own was is old new before now is_own (subst (λ (db : Database). FiguresFollow (moved_at domain lang was is) db new) shown.0 follows)
    project.template there.unit (entry ∙ ap (entry_of project.template) (sym (has.0 ∙ same))) has.0 has.1

-- where there is no unit, there is no view of it
pub no_row_moved : (domain lang : Text) (view : UnitView) (old mid : Database) → (mid ≡ old) × ShowsMoving domain lang view.unit old None → FollowsOwnRow domain lang view old mid
no_row_moved domain lang view old mid shown key there found same source =
    let project = project_at domain old in
    absurd (subst (λ (o : Option Unit). HasMovingIf view.unit.key view.unit.obsolete o None) (ap (λ (k : Key). maps.get project.units (lang, k)) same ∙ (view_parts project lang key there found).0) shown.1)

-- ---- for a suggestion more

module _ (domain lang : Text) (key : Key) (old mid : Database) (found : Option Row) (units : List Suggestion)
    (shown : (mid ≡ old) × (maps.get (project_at domain old).units (lang, key) ≡ option_map (shown_unit key units) found)) where
  pub one_more_moved : (row : Row) (obsolete : Bool) (one : Tally) (new : Database) → found ≡ Some row → obsolete ≡ flag_at 3 row → CountsOneMore obsolete one
      → FiguresFollow (moved_at domain lang none_counted one) mid new → FollowsOneMore domain lang key old new
  one_more_moved row obsolete one new is_found is_obsolete counts follows s there is =
      let project = project_at domain old in
      let unit = there.unit in
      let same : Some unit ≡ Some (shown_unit key units row) = sym (view_parts project lang key there is).0 ∙ shown.1 ∙ ap (option_map (shown_unit key units)) is_found in
      let own : unit ≡ shown_unit key units row = ap (λ (o : Option Unit). unwrap_or o unit) same in
      let is_so : unit.obsolete ≡ obsolete = ap (λ (u : Unit). u.obsolete) own ∙ sym is_obsolete in
      let left : Unit = record unit { suggestions = unit.suggestions ++ s ∷ [] } in
      let change = moved_at domain lang (counted project.template unit) (counted project.template left) in
      follow_as (λ counts. ⊤) (moved_at domain lang none_counted one) change
      (moved_alike domain lang (counted project.template unit) (counted project.template left) none_counted one (λ before. counts project.template unit s before is_so))
      (subst (λ (db : Database). FiguresFollow (moved_at domain lang none_counted one) db new) shown.0 follows)

  pub no_more_moved : found ≡ None → FollowsOneMore domain lang key old mid
  no_more_moved is_found s there is =
      absurd (let none : Some there.unit ≡ None = sym (view_parts (project_at domain old) lang key there is).0 ∙ shown.1 ∙ ap (option_map (shown_unit key units)) is_found in cc)
