-- The commit of a language keeps an office's file one: its header, and its units.
use Rattle.std.proofs.Common.{◌≡◌, ◌≢◌, ℕ, List, [], ◌∷◌, true, false, Option, Some, None, refl, sym, ap, subst, ◌∙◌, codes}
use Rattle.std.specs.Prelude.{IsTrue, IsOk, is_ok, bytes_eq, unwrap_or}
use Rattle.std.specs.Option.{option_map_or}
use Rattle.std.specs.FinMap as maps
use Rattle.std.proofs.lemmas.Bool.{and_from}
use Rattle.sqlite.specs.declared.types.Value.TheVariants.{Text as Words}
use Rattle.sqlite.specs.Order.{Row}
use Rattle.sqlite_rules.specs.Lists.{Has}
use Rattle.sql_laws.proofs.RowMaps.{get-is}
use Rattle.po_text.specs.declared.entry.Entry.{Entry}
use Rattle.po_text.specs.Texts.{Text, text_cmp}
use Rattle.units.specs.Limits.{is_lang}
use Rattle.units.specs.Openings.{plain_entry}
use Rattle.units.specs.Orders.{text_total, text_IsAntisymmetric}
use Rattle.units.specs.Rules.{plural_field, rule_of_field, rule_in}
use Rattle.units.specs.declared.unit.Unit.{Unit}
use Rattle.template_update.specs.declared.plans.Plan.{Plan}
use Rattle.office_specification.specs.OfficeRules.{KeepsRules}
use Rattle.office_specification.specs.declared.values.Language.{Language}
use Rattle.request_book.specs.declared.book.Record.{Record}
use Rattle.sql_columns.specs.Written.{IsHeaderEntry, header_text}
use Rattle.sql_columns.proofs.Readers.{header_found, only_same}
use Rattle.sql_schema.specs.Inside.{Then, AreOfficeTablesOf}
use Rattle.sql_schema.specs.Keys.{first_text, columns}
use Rattle.sql_meaning.specs.Meaning.{header_of_row, headers_in, project_of_rows}
use Rattle.sql_meaning.specs.Domains.{meaning_by_domain}
use Rattle.sql_changes.specs.Commits.{PutsNumberedRecord, PutsLanguage, WritesLanguage, MakesLanguage, MakesIn}
use Rattle.sql_changes.specs.UnitWrites.{WritesUnits}
use Rattle.sql_changes.proofs.PlannedUnits.{units_in_turn}
use Rattle.sql_decoding.specs.RowTests.{is_language_row, is_rule_of}
use Rattle.sql_decoding.specs.ShownContexts.{header_of_column}
use Rattle.sql_decoding.proofs.ColumnsTested.{text_stands, header_stands, language_stands}
use Rattle.sql_keepable.specs.Keepable.{IsKeepableLanguage, AreKeepableUnits}
use Rattle.units.specs.Projects.{IsProject}
use Rattle.sql_figures.specs.Figures.{HasFigures}
use Rattle.sql_files.specs.Files.{IsKeepable, StandForAll, IsOfficeDatabase}
use Rattle.sql_files.proofs.Puts.{all_put, template_same, form_same, book_same}
use Rattle.sql_files.proofs.UnitKept.{units_keep}
use Rattle.sql_files.proofs.ActKept.{record_step, kept_in}
use Rattle.sql_schema.specs.Layouts.{by_domain, NamedRows, rows_named}
use Rattle.sql_schema.proofs.Layouts.{names_differ}
use Rattle.sql_meaning.specs.RowKeys.{AreOfficeRows}
use Rattle.sqlite.specs.Effect.{Database}
use Rattle.sql_meaning.proofs.DomainOfficeRows.{domain_rows}
use Rattle.sql_schema.specs.SeenRows.{seen_in}

-- ---- a language's row

abbrev pub LanguageStands : Row → Type 0
LanguageStands row = IsTrue (is_language_row (columns (2 ∷ 3 ∷ 1 ∷ []) row))

has_field : (field : Option Text) → is_ok (rule_of_field field) ≡ true → option_map_or (bytes_eq (unwrap_or field [])) field false ≡ true
has_field (Some text) fine = only_same text
has_field None fine = absurd cc

rule_fits : (header : Entry) → IsOk (rule_in (Some header)) → is_rule_of header (unwrap_or (plural_field (Some header)) []) ≡ true
unfolding is_rule_of
rule_fits header fine = and_from _ _ (has_field (plural_field (Some header)) fine) fine

header_back : (header : Entry) → IsHeaderEntry header → header_of_column (header_text header) ≡ header
header_back header fits = ap (λ o. unwrap_or o (plain_entry [] [])) (header_found (header_text header) header fits refl)

language_row_stands : (lang : Text) (header : Entry) → IsKeepableLanguage lang header → IsHeaderEntry header → IsOk (rule_in (Some header))
    → is_language_row (Words (header_text header) ∷ Words (unwrap_or (plural_field (Some header)) []) ∷ Words lang ∷ []) ≡ true
language_row_stands lang header fits entry fine =
    let head = header_text header in
    let rule = unwrap_or (plural_field (Some header)) [] in
    let shown : Row = Words head ∷ Words rule ∷ Words lang ∷ [] in
    and_from _ _ (text_stands 2 shown lang refl is_lang fits.language.1 fits.language.0)
    (language_stands shown head rule refl refl fits.header_column fits.rule_column
    (and_from _ _ (header_stands head header entry refl) (ap (λ h. is_rule_of h rule) (header_back header entry) ∙ rule_fits header fine)))

language_step : (old new : NamedRows) → ((t : List ℕ) → t ≢ codes "language" → new t ≡ old t) → ((row : Row) → Has (new (codes "language")) row → LanguageStands row) → StandForAll old → StandForAll new
language_step old new apart languages it =
    let policy = apart (codes "policy") (names_differ refl) in
    let template = apart (codes "template") (names_differ refl) in
    record {
      form = form_same old new policy it.form;
      office = record {
        members = λ row there. it.office.members row (subst (λ rows. Has rows row) (apart (codes "team") (names_differ refl)) there);
        policy = λ row there. it.office.policy row (subst (λ rows. Has rows row) policy there);
        entries = λ row there. it.office.entries row (subst (λ rows. Has rows row) template there);
        template = template_same old new template it.office.template;
        languages = languages;
        units = λ row there. it.office.units row (subst (λ rows. Has rows row) (apart (codes "unit") (names_differ refl)) there);
        suggestions = λ row there. it.office.suggestions row (subst (λ rows. Has rows row) (apart (codes "suggestion") (names_differ refl)) there);
        votes = λ row there. it.office.votes row (subst (λ rows. Has rows row) (apart (codes "vote") (names_differ refl)) there);
      };
      book = book_same old new (apart (codes "record") (names_differ refl)) it.book;
    }

pub put_step : (lang : Text) (header : Entry) → IsKeepableLanguage lang header → IsHeaderEntry header → IsOk (rule_in (Some header)) → (old new : NamedRows) → PutsLanguage lang header old new
    → StandForAll old → StandForAll new
put_step lang header fits entry fine old new put it =
    let made = put.0.0 in
    language_step old new (λ t apart. made.others t apart)
    (all_put first_text LanguageStands (old (codes "language")) (new (codes "language")) made.row made.put it.office.languages
    (subst LanguageStands (sym made.is_row.1) (language_row_stands lang header fits entry fine))) it

-- ---- the commit

module _ (mid next after : NamedRows) (lang : Text) (header : Entry) (units : List Unit) (fits : IsKeepableLanguage lang header) (entry : IsHeaderEntry header) (put : PutsLanguage lang header mid next)
    (written : WritesUnits lang units next after) (ready : AreOfficeRows after) (project : IsProject (project_of_rows after)) where
  stands_there : Has (after (codes "language")) put.0.0.row
  stands_there = subst (λ rows. Has rows put.0.0.row) (sym (units_in_turn lang units next after put.0.1 written).others.languages) put.0.0.put.here

  -- the rules are those of the header that was written
  header_is : maps.get (headers_in after) lang ≡ Some header
  header_is =
      let row = put.0.0.row in
      ap (λ r. maps.get (headers_in after) (first_text r)) (sym put.0.0.is_row.1)
      ∙ get-is text_cmp text_total text_IsAntisymmetric first_text header_of_row (after (codes "language")) (first_text row) (Some (header_of_row row))
      ready.keyed.one_language (row, stands_there, refl, refl)
      ∙ ap (λ r. Some (header_of_row r)) put.0.0.is_row.1 ∙ ap Some (header_back header entry)

  changed_step : AreKeepableUnits lang units → StandForAll mid → StandForAll after
  changed_step all it = units_keep lang units all next after written (put_step lang header fits entry (project.ruled lang header header_is).2 mid next put it)

makes_language : (old new : NamedRows) (row : Record) (lang : Text) (header : Entry) (units : List Unit) → Then (PutsNumberedRecord row) (WritesLanguage lang header units) old new
    → AreOfficeRows new → IsKeepable row → IsKeepableLanguage lang header → IsHeaderEntry header → AreKeepableUnits lang units → IsProject (project_of_rows new) → StandForAll old → StandForAll new
makes_language old new row lang header units (mid, recorded, (next, put, written)) ready keepable fits entry all project it =
    changed_step mid next new lang header units fits entry put written ready project all (record_step old mid row recorded keepable it)

stand_after_language : (old new : NamedRows) (row : Record) (lang : Text) (language : Language) (plan : Plan) → MakesLanguage row lang language plan old new → AreOfficeRows new
    → IsKeepable row → IsKeepableLanguage lang language.header → IsHeaderEntry language.header → AreKeepableUnits lang plan.units → IsProject (project_of_rows new) → StandForAll old → StandForAll new
unfolding MakesLanguage
stand_after_language old new row lang language plan it ready keepable fits entry all project = makes_language old new row lang language.header plan.units it ready keepable fits entry all project

pub language_keeps : (old new : Database) (row : Record) (domain lang : Text) (language : Language) (plan : Plan) → MakesIn domain row (MakesLanguage row lang language plan) old new → AreOfficeTablesOf by_domain new
    → IsKeepable row → IsKeepableLanguage lang language.header → IsHeaderEntry language.header → AreKeepableUnits lang plan.units → KeepsRules (meaning_by_domain (rows_named new)) → HasFigures (rows_named new) → IsOfficeDatabase by_domain old → IsOfficeDatabase by_domain new
language_keeps old new row domain lang language plan it ready keepable fits entry all rules figures file =
    kept_in old new row ready keepable rules figures file domain (MakesLanguage row lang language plan) it
    (λ made project. stand_after_language (seen_in domain (rows_named old)) (seen_in domain (rows_named new)) row lang language plan made (domain_rows new ready domain) keepable fits entry all project)
