-- What the commit of a language of `main` makes of the office with its book.
use Rattle.std.proofs.Common.{◌≡◌, List, [], ◌∷◌, length, true, Option, Some, None, unwrap_or, cond, is_none, refl, sym, ap, subst, ◌∙◌, codes}
use Rattle.std.proofs.lemmas.Bool.{and_parts}
use Rattle.std.specs.Cmp.{eq_by_cmp_equiv}
use Rattle.std.specs.FinMap as maps
use Rattle.sqlite.specs.Order.{Row}
use Rattle.po_text.specs.declared.entry.Entry.{Entry}
use Rattle.po_text.specs.Entries.{is_header}
use Rattle.po_text.specs.Strings.{is_forms}
use Rattle.po_text.specs.Texts.{Text}
use Rattle.po_text.specs.Valid.{IsValid}
use Rattle.units.specs.Project.{Project}
use Rattle.units.specs.Orders.{text_total}
use Rattle.units.specs.Rules.{plural_field}
use Rattle.units.specs.declared.unit.Unit.{Unit}
use Rattle.template_update.specs.declared.plans.Plan.{Plan}
use Rattle.office_specification.specs.MainAlone.{main_alone}
use Rattle.office_specification.specs.ProjectActs.{with_language}
use Rattle.office_specification.specs.OfficeRules.{KeepsRules}
use Rattle.office_specification.specs.declared.values.Language.{Language}
use Rattle.request_book.specs.Book.{with_record}
use Rattle.request_book.specs.declared.book.Record.{Record}
use Rattle.sql_columns.specs.Written.{ArePrevious, IsHeaderEntry, header_text}
use Rattle.sql_laws.specs.RowMaps.{OneEach}
use Rattle.sql_schema.specs.Inside.{Then}
use Rattle.sql_schema.specs.Keys.{first_text}
use Rattle.sql_meaning.specs.Meaning.{AreNumbered, book_in, template_in, headers_in, team_in, policy_in, units_in, project_of_rows, meaning_in}
use Rattle.rule_tests.proofs.MainAlone.{project_keeps}
use Rattle.sql_meaning.proofs.RowsPut.{header_put}
use Rattle.sql_changes.specs.Commits.{PutsNumberedRecord, PutsLanguage, WritesLanguage, MakesLanguage}
use Rattle.sql_changes.specs.UnitWrites.{WritesUnits}
use Rattle.sql_changes.proofs.Changed.{units_same, commits_change}
use Rattle.sql_changes.proofs.PlannedUnits.{HasUnits, in_turn, rows, units_in_turn}
use Rattle.sql_schema.proofs.Layouts.{names_differ}
use Rattle.sql_schema.specs.Layouts.{NamedRows}
use Rattle.sql_meaning.specs.RowKeys.{AreOfficeRows}

-- a header of a catalogue has one form
is_none_of : (o : Option Text) → is_none o ≡ true → o ≡ None
is_none_of None e = refl
is_none_of (Some t) e = absurd cc

one_form : (header : Entry) → is_header header ≡ true → IsValid (header ∷ []) → length header.forms ≡ 1
one_form header head valid =
    let nothing : is_none header.plural ≡ true = (and_parts _ _ (and_parts _ _ head).0).1 in
    valid.each.0.single (is_none_of header.plural nothing)

module _ (old mid next after : NamedRows) (row : Record) (lang : Text) (header : Entry) (units : List Unit) (ready : AreOfficeRows old) (recorded : PutsNumberedRecord row old mid)
    (put : PutsLanguage lang header mid next) (written : WritesUnits lang units next after) where
  has : HasUnits (in_turn (units_in next) (rows lang units)) next after
  has = units_in_turn lang units next after put.0.1 written

  one : OneEach first_text (mid (codes "language"))
  one = subst (OneEach first_text) (sym (recorded.0.others (codes "language") (names_differ refl))) ready.keyed.one_language

  headers_are : IsHeaderEntry header → headers_in after ≡ maps.insert (headers_in old) lang header
  headers_are fits =
      ap (λ (rows : List Row). headers_in (λ name. rows)) has.others.languages
      ∙ header_put mid next lang header (header_text header) (unwrap_or (plural_field (Some header)) []) fits refl one put.0.0
      ∙ ap (λ m. maps.insert m lang header) (ap (λ (rows : List Row). headers_in (λ name. rows)) (recorded.0.others (codes "language") (names_differ refl)))

  units_are : units_in after ≡ in_turn (units_in old) (rows lang units)
  units_are =
      has.units_are ∙ ap (λ m. in_turn m (rows lang units))
      (units_same old next (put.0.0.others (codes "unit") (names_differ refl) ∙ recorded.0.others (codes "unit") (names_differ refl)) (put.0.0.others (codes "suggestion") (names_differ refl) ∙ recorded.0.others (codes "suggestion") (names_differ refl))
      (put.0.0.others (codes "vote") (names_differ refl) ∙ recorded.0.others (codes "vote") (names_differ refl)))

  abbrev left : Project
  left = record (project_of_rows old) { headers = maps.insert (headers_in old) lang header; units = in_turn (units_in old) (rows lang units) }

  office_is : IsHeaderEntry header → project_of_rows after ≡ left
  office_is fits =
      let team : team_in after ≡ team_in old = ap (λ (rows : List Row). team_in (λ name. rows)) (has.others.team ∙ put.0.0.others (codes "team") (names_differ refl) ∙ recorded.0.others (codes "team") (names_differ refl)) in
      let policy : policy_in after ≡ policy_in old = ap (λ (rows : List Row). policy_in (λ name. rows)) (has.others.policy ∙ put.0.0.others (codes "policy") (names_differ refl) ∙ recorded.0.others (codes "policy") (names_differ refl)) in
      let template : template_in after ≡ template_in old =
      ap (λ (rows : List Row). template_in (λ name. rows)) (has.others.template ∙ put.0.0.others (codes "template") (names_differ refl) ∙ recorded.0.others (codes "template") (names_differ refl)) in
      let headers = headers_are fits in
      λ i. record { template = template i; headers = headers i; units = units_are i; team = team i; policy = policy i }

  made : IsHeaderEntry header → AreNumbered old → (meaning_in after ≡ record { office = main_alone left; book = with_record (book_in old) row }) × AreNumbered after
  made fits numbered = commits_change old mid after row left ready numbered recorded (has.others.records ∙ put.0.0.others (codes "record") (names_differ refl)) (office_is fits)

-- the header of a language of a project that keeps the rules reads back
pub header_fits : (project : Project) (lang : Text) (header : Entry) (plan : Plan) (row : Record) (old : NamedRows) → is_forms header.forms ≡ true → ArePrevious header.previous
    → KeepsRules (record { office = main_alone (with_language project lang header plan); book = with_record (book_in old) row }) → IsHeaderEntry header
header_fits project lang header plan row old forms previous rules =
    let there : maps.get (maps.insert project.headers lang header) lang ≡ Some header =
    maps.get-insert text_total project.headers lang header lang ∙ ap (λ b. cond b (Some header) (maps.get project.headers lang)) ((eq_by_cmp_equiv text_total).refl lang) in
    let it = (project_keeps (with_language project lang header plan) (with_record (book_in old) row) rules).ruled lang header there in
    record { plain = it.0; one_form = one_form header it.0 it.1; form = forms; previous = previous }

makes_language : (old after : NamedRows) (row : Record) (lang : Text) (language : Language) (plan : Plan) → AreOfficeRows old → AreNumbered old
    → KeepsRules (record { office = main_alone (with_language (project_of_rows old) lang language.header plan); book = with_record (book_in old) row })
    → Then (PutsNumberedRecord row) (WritesLanguage lang language.header plan.units) old after
    → (meaning_in after ≡ record { office = main_alone (with_language (project_of_rows old) lang language.header plan); book = with_record (book_in old) row }) × AreNumbered after
makes_language old after row lang language plan ready numbered rules (mid, recorded, (next, put, written)) =
    made old mid next after row lang language.header plan.units ready recorded put written
    (header_fits (project_of_rows old) lang language.header plan row old put.1 put.2 rules) numbered

pub commits_language : (old after : NamedRows) (row : Record) (lang : Text) (language : Language) (plan : Plan) → AreOfficeRows old → AreNumbered old
    → KeepsRules (record { office = main_alone (with_language (project_of_rows old) lang language.header plan); book = with_record (book_in old) row }) → MakesLanguage row lang language plan old after
    → (meaning_in after ≡ record { office = main_alone (with_language (project_of_rows old) lang language.header plan); book = with_record (book_in old) row }) × AreNumbered after
unfolding MakesLanguage
commits_language old after row lang language plan ready numbered rules it = makes_language old after row lang language plan ready numbered rules it
