-- What the commit of an act on a unit of `main` makes of the office with its book.
use Rattle.std.proofs.Common.{◌≡◌, ◌++◌, [], ◌∷◌, cond, Option, Some, None, option_map, refl, sym, ap, subst, ◌∙◌, codes}
use Rattle.std.specs.Cmp.{eq_by_cmp_equiv}
use Rattle.std.specs.FinMap as maps
use Rattle.sql_laws.specs.RowMaps.{OneEach}
use Rattle.po_text.specs.Texts.{Text}
use Rattle.units.specs.KeyTexts.{HasStrings}
use Rattle.units.specs.Orders.{place_total}
use Rattle.units.specs.Project.{Project, entry_of, view_of}
use Rattle.units.specs.Units.{key_text}
use Rattle.units.specs.declared.unit.Key.{Key}
use Rattle.units.specs.declared.unit.Unit.{Unit}
use Rattle.units.specs.declared.unit.UnitView.{UnitView}
use Rattle.review.specs.UnitStep.{with_vote}
use Rattle.office_specification.specs.MainAlone.{main_alone}
use Rattle.office_specification.specs.OfficeRules.{KeepsRules}
use Rattle.office_specification.specs.UnitAccess.{with_view, view_written, written_at, IsWriteOver, IsPossibleWrite}
use Rattle.office_specification.specs.declared.values.UnitWrite.{UnitWrite}
use Rattle.office_specification.specs.declared.values.UnitWrite.TheVariants.{Whole, Row, Suggested, Voted}
use Rattle.rule_tests.proofs.MainAlone.{project_keeps}
use Rattle.request_book.specs.Book.{Book, with_record}
use Rattle.request_book.specs.declared.book.Record.{Record}
use Rattle.sql_schema.specs.Inside.{Then}
use Rattle.sql_schema.specs.Keys.{first_texts}
use Rattle.sql_schema.specs.Layouts.{NamedRows}
use Rattle.sql_schema.proofs.Layouts.{names_differ}
use Rattle.sql_meaning.specs.Meaning.{AreNumbered, book_in, units_in, suggestions_in, project_of_rows, meaning_in}
use Rattle.sql_meaning.specs.RowKeys.{AreKeyed, AreOfficeRows}
use Rattle.sql_meaning.proofs.CommitLaws.{same_project, commits_unit}
use Rattle.sql_meaning.proofs.RowsPut.{unit_put}
use Rattle.sql_meaning.proofs.UnitsKept.{suggestions_stand, unit_suggested}
use Rattle.sql_meaning.proofs.UnitsWritten.{KeepsOthers, kept_others, writes_unit_over, keyed_same}
use Rattle.sql_changes.specs.Commits.{PutsNumberedRecord, WritesRecordAndUnit}
use Rattle.sql_changes.specs.UnitWrites.{WritesOfUnit, ArePreviousIn}
use Rattle.sql_changes.proofs.AddedSuggestions.{unit_written, unit_writable}
use Rattle.sql_changes.proofs.LastSuggestions.{leaves_last}
use Rattle.sql_changes.proofs.VotesWritten.{leaves_vote}

-- ---- what is written of a unit that is there

unit_of_view : (show : Unit → UnitView) → ((unit : Unit) → (show unit).unit ≡ unit) → (o : Option Unit) (view : UnitView) → option_map show o ≡ Some view → o ≡ Some view.unit
unit_of_view show same (Some unit) view e = (λ i. Some (sym (same unit) i)) ∙ ap (option_map (λ (v : UnitView). v.unit)) e
unit_of_view show same None view e = absurd cc

module _ (old new : NamedRows) (lang : Text) (key : Key) (keyed : AreKeyed old) (one : OneEach first_texts (old (codes "unit"))) (strings : HasStrings key) where
  -- a unit has its place among the units, and all other tables are as they were
  abbrev Leaves : Unit → Type 0
  Leaves unit = (units_in new ≡ maps.insert (units_in old) (lang, key) unit) × KeepsOthers old new

  stands : (there : UnitView) → view_of (project_of_rows old) (lang, key) ≡ Some there → maps.get (units_in old) (lang, key) ≡ Some there.unit
  stands there is =
      let show : Unit → UnitView = λ unit. record { unit = unit; source = entry_of (project_of_rows old).template key } in
      unit_of_view show (λ unit. refl) (maps.get (units_in old) (lang, key)) there is

  write_leaves : (there : UnitView) (write : UnitWrite) → view_of (project_of_rows old) (lang, key) ≡ Some there → IsWriteOver there write → ArePreviousIn write
      → (view_written write there).unit.key ≡ key → WritesOfUnit lang key write old new → Leaves (view_written write there).unit
  write_leaves there (Whole view) is over previous at written =
      let its = subst HasStrings (sym at) strings in
      let left = writes_unit_over old new lang view.unit keyed one (unit_writable lang view.unit old new written its previous) (unit_written lang view.unit old new written) in
      (left.0 ∙ (λ i. maps.insert (units_in old) (lang, at i) view.unit), left.1)
  write_leaves there (Row view) is over previous at put =
      let unit : Unit = record view.unit { suggestions = there.unit.suggestions } in
      let suggested : suggestions_in old lang (key_text view.unit.key) ≡ there.unit.suggestions =
      (λ i. suggestions_in old lang (key_text (at i))) ∙ suggestions_stand old lang key there.unit (stands there is) in (
        unit_put old new lang unit (subst HasStrings (sym at) strings) previous suggested one put ∙ (λ i. maps.insert (units_in old) (lang, at i) unit),
        kept_others old new (λ t no_unit no_suggestion no_vote. put.others t no_unit),
      )
  write_leaves there (Suggested s) is unvoted previous at added =
      let left = leaves_last lang (key_text key) s old new keyed unvoted added in
      let stand = suggestions_stand old lang key there.unit (stands there is) in (
        unit_suggested old lang key there.unit (stands there is) new one left.units (there.unit.suggestions ++ s ∷ []) (left.is_last ∙ (λ i. stand i ++ s ∷ [])) left.others_stay,
        left.keeps,
      )
  write_leaves there (Voted number voter value sum) is over previous at written =
      let stand = suggestions_stand old lang key there.unit (stands there is) in
      let left = leaves_vote lang (key_text key) number voter value there.unit over.0 old new keyed stand over.1 written in (
        unit_suggested old lang key there.unit (stands there is) new one left.units (with_vote number voter value there.unit).suggestions left.own left.others_stay,
        left.keeps,
      )

-- ---- the office with its book

-- a unit that the rules let stand there has its key
stands_at_key : (project : Project) (book : Book) (lang : Text) (key : Key) (view : UnitView) → KeepsRules (record { office = main_alone (with_view project lang key (Some view)); book = book }) → view.unit.key ≡ key
stands_at_key project book lang key view rules = ((project_keeps (with_view project lang key (Some view)) book rules).placed (lang, key) view.unit here).0
  where
    here : maps.get (maps.insert project.units (lang, key) view.unit) (lang, key) ≡ Some view.unit
    here =
        maps.get-insert place_total project.units (lang, key) view.unit (lang, key)
        ∙ ap (λ b. cond b (Some view.unit) (maps.get project.units (lang, key))) ((eq_by_cmp_equiv place_total).refl (lang, key))

-- of a write over a unit that is there
commits_over : (old after : NamedRows) (row : Record) (lang : Text) (key : Key) (there : UnitView) (write : UnitWrite) → AreOfficeRows old → AreNumbered old
    → KeepsRules (record { office = main_alone (with_view (project_of_rows old) lang key (Some (view_written write there))); book = with_record (book_in old) row })
    → HasStrings key → ArePreviousIn write → view_of (project_of_rows old) (lang, key) ≡ Some there → IsWriteOver there write
    → Then (PutsNumberedRecord row) (WritesOfUnit lang key write) old after
    → (meaning_in after ≡ record { office = main_alone (with_view (project_of_rows old) lang key (Some (view_written write there))); book = with_record (book_in old) row }) × AreNumbered after
commits_over old after row lang key there write ready numbered rules strings previous is over (mid, (recorded, valid), written) =
    let keyed = keyed_same old mid (recorded.others (codes "suggestion") (names_differ refl)) (recorded.others (codes "vote") (names_differ refl)) ready.keyed.suggested in
    let one = subst (OneEach first_texts) (sym (recorded.others (codes "unit") (names_differ refl))) ready.keyed.one_unit in
    let is_mid = ap (λ (p : Project). view_of p (lang, key)) (same_project old mid row recorded) ∙ is in
    let at = stands_at_key (project_of_rows old) (with_record (book_in old) row) lang key (view_written write there) rules in
    let left = write_leaves mid after lang key keyed one strings there write is_mid over previous at written in
    commits_unit old mid after lang key (view_written write there).unit row recorded left.0 left.1 ready numbered valid

pub commits_write : (old after : NamedRows) (row : Record) (lang : Text) (key : Key) (write : UnitWrite) → AreOfficeRows old → AreNumbered old
    → KeepsRules (record { office = main_alone (with_view (project_of_rows old) lang key (written_at (project_of_rows old) lang key (Some write))); book = with_record (book_in old) row })
    → HasStrings key → ArePreviousIn write → IsPossibleWrite (project_of_rows old) lang key (Some write) → WritesRecordAndUnit row lang key write old after
    → (meaning_in after ≡ record { office = main_alone (with_view (project_of_rows old) lang key (written_at (project_of_rows old) lang key (Some write))); book = with_record (book_in old) row })
    × AreNumbered after
unfolding WritesRecordAndUnit
commits_write old after row lang key write ready numbered rules strings previous possible made =
    let is : written_at (project_of_rows old) lang key (Some write) ≡ Some (view_written write possible.0) = ap (option_map (view_written write)) possible.1 in
    let left =
    commits_over old after row lang key possible.0 write ready numbered
    (subst (λ view. KeepsRules (record { office = main_alone (with_view (project_of_rows old) lang key view); book = with_record (book_in old) row })) is rules)
    strings previous possible.1 possible.2 made in
    (left.0 ∙ (λ i. record { office = main_alone (with_view (project_of_rows old) lang key (sym is i)); book = with_record (book_in old) row }), left.1)
