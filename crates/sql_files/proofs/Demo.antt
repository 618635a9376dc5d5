-- The rows of the demo are an office's.
use Rattle.std.proofs.Common.{◌≡◌, ◌≢◌, ℕ, pos, List, [], ◌∷◌, true, Some, codes, arith, refl, sym, ap, subst, ◌∙◌}
use Rattle.std.specs.Prelude.{IsTrue, nat_lt, false, unwrap_or, bytes_eq}
use Rattle.std.specs.Option.{option_map_or}
use Rattle.json.specs.Print.{escape_byte}
use Rattle.po_text.specs.Header.{field_value}
use Rattle.po_lex.specs.Lines.{lines_of}
use Rattle.units.specs.Rules.{plural_field}
use Rattle.office_specification.proofs.rows.DemoRequests.{demo_project, header_de}
use Rattle.std.specs.List.{list_all}
use Rattle.std.specs.FinMap as maps
use Rattle.std.proofs.lemmas.Bool.{and_from}
use Rattle.sqlite.specs.declared.types.Value.TheVariants.{Null, Int, Text as Words}
use Rattle.sqlite.specs.Order.{Row, column}
use Rattle.sqlite_rules.specs.Lists.{Has}
use Rattle.office_specification.specs.OfficeRules.{KeepsRules}
use Rattle.po_text.specs.Strings.{is_string}
use Rattle.units.specs.KeyTexts.{HasStrings}
use Rattle.units.specs.Limits.{is_lang}
use Rattle.units.specs.Openings.{demo_header, demo_unit, plain_entry}
use Rattle.units.specs.Units.{no_previous}
use Rattle.units.specs.declared.unit.Role.TheVariants.{Translator, Manager}
use Rattle.sql_columns.specs.Written.{ArePrevious, IsHeaderEntry, texts_text, previous_text, header_text}
use Rattle.sql_columns.proofs.Readers.{header_found}
use Rattle.sql_schema.specs.Keys.{first_text, first_texts, row_number, columns}
use Rattle.sql_meaning.specs.Beginnings.{closed_row, hello_row, MakesDemo}
use Rattle.sql_meaning.specs.Meaning.{project_of_rows, book_in, meaning_in}
use Rattle.sql_meaning.proofs.Openings.{opens_demo, demo_keeps}
use Rattle.sql_decoding.specs.RowTests.{is_key, is_domain_row, is_policy_row, is_entry_row, is_language_row, is_rule_of}
use Rattle.sql_decoding.specs.ShownContexts.{header_of_column}
use Rattle.sql_decoding.proofs.ColumnsTested.{text_stands, null_stands, key_stands, header_stands, no_texts_stand, language_stands}
use Rattle.sql_keepable.specs.Keepable.{IsKeepableUnit}
use Rattle.rule_tests.proofs.MainAlone.{project_keeps}
use Rattle.sql_files.specs.Files.{HoldsOfficeRows, StandForAll}
use Rattle.sql_files.proofs.InDomains.{whole_book, stand_alone}
use Rattle.sql_files.proofs.DomainKept.{plain, main_named}
use Rattle.sql_files.proofs.Puts.{no_row, all_put}
use Rattle.sql_files.proofs.StartFigures.{demo_figures}
use Rattle.sql_files.proofs.RoleKept.{member_stands, MemberStands}
use Rattle.sql_files.proofs.UnitKept.{unit_stands, UnitStands}
use Rattle.sql_schema.specs.Creation.{HaveNoRows}
use Rattle.sql_schema.proofs.Layouts.{names_differ}
use Rattle.sql_schema.specs.SeenRows.{seen_in}
use Rattle.sql_adoption.specs.Adoption.{Each}
use Rattle.units.specs.Office.{main}
use Rattle.sql_schema.specs.Layouts.{by_domain, NamedRows, rows_named}
use Rattle.sqlite.specs.Effect.{Database}
use Rattle.sql_meaning.proofs.MainBeginnings.{demo_in, demo_is_main, demo_means}
use Rattle.sql_meaning.specs.BeginningRows.{PutsMemberIn, PutsClosedPolicyIn, PutsDemoEntryIn, PutsDemoLanguageIn, PutsDemoUnitIn, MakesDemoIn}

strings : HasStrings demo_unit.key
strings = record { ctx = refl; id = refl }

none_previous : ArePrevious no_previous
none_previous = record { ctx = refl; id = refl; plural = refl }

fits : IsHeaderEntry (plain_entry [] demo_header)
fits = record { plain = refl; one_form = refl; form = refl; previous = none_previous }

entry_shown : Row
entry_shown = Null ∷ Words (texts_text []) ∷ Words (texts_text []) ∷ Words (texts_text []) ∷ Words (codes "Hello") ∷ Int (pos 0) ∷ []

hello_stands : is_entry_row (columns (3 ∷ 4 ∷ 5 ∷ 6 ∷ 2 ∷ 0 ∷ []) hello_row) ≡ true
hello_stands =
    let shown : Row = columns (3 ∷ 4 ∷ 5 ∷ 6 ∷ 2 ∷ 0 ∷ []) hello_row in
    and_from _ _ (text_stands 4 shown (codes "Hello") refl is_key (plain (codes "Hello") refl) (key_stands (codes "Hello") demo_unit.key strings refl))
    (and_from _ _ (null_stands 0 shown (omega arith) refl is_string) (and_from _ _ (no_texts_stand 1 shown refl) (and_from _ _ (no_texts_stand 2 shown refl) (no_texts_stand 3 shown refl))))

german_plain : list_all (λ b. nat_lt b 128) (header_text (plain_entry [] demo_header)) ≡ true
unfolding escape_byte
german_plain = refl

german_field : option_map_or (bytes_eq (codes "nplurals=2; plural=n != 1;")) (plural_field (Some (plain_entry [] demo_header))) false ≡ true
unfolding field_value lines_of
german_field = refl

german_rule : is_rule_of (plain_entry [] demo_header) (codes "nplurals=2; plural=n != 1;") ≡ true
unfolding is_rule_of
german_rule = and_from _ _ german_field ((project_keeps demo_project maps.empty demo_keeps).ruled (codes "de") (plain_entry [] demo_header) header_de).2

german_back : header_of_column (header_text (plain_entry [] demo_header)) ≡ plain_entry [] demo_header
german_back = ap (λ o. unwrap_or o (plain_entry [] [])) (header_found (header_text (plain_entry [] demo_header)) (plain_entry [] demo_header) fits refl)

german_stands : is_language_row (Words (header_text (plain_entry [] demo_header)) ∷ Words (codes "nplurals=2; plural=n != 1;") ∷ Words (codes "de") ∷ []) ≡ true
german_stands =
    let head = header_text (plain_entry [] demo_header) in
    let rule = codes "nplurals=2; plural=n != 1;" in
    let shown : Row = Words head ∷ Words rule ∷ Words (codes "de") ∷ [] in
    and_from _ _ (text_stands 2 shown (codes "de") refl is_lang (plain (codes "de") refl) refl)
    (language_stands shown head rule refl refl (plain head german_plain) (plain rule refl)
    (and_from _ _ (header_stands head (plain_entry [] demo_header) fits refl) (ap (λ h. is_rule_of h rule) german_back ∙ german_rule)))

unit_fits : IsKeepableUnit (codes "de") demo_unit
unit_fits = record {
  language = (refl, plain (codes "de") refl);
  key = strings;
  key_column = plain (codes "Hello") refl;
  plural = tt;
  forms = refl;
  forms_column = plain (texts_text ([] ∷ [])) refl;
  revision = refl;
  comment_column = plain (texts_text []) refl;
  previous = none_previous;
  previous_column = plain (previous_text no_previous) refl;
  suggestions = λ s there. absurd there;
}

module _ (made one two closed hello german last : NamedRows) (empty : HaveNoRows made) (root : PutsMemberIn (codes "root") (pos 3) made one)
    (ann : PutsMemberIn (codes "ann") (pos 1) one two) (policy : PutsClosedPolicyIn two closed) (entry : PutsDemoEntryIn closed hello) (language : PutsDemoLanguageIn hello german)
    (unit : PutsDemoUnitIn german last) where
  teamed : (t : List ℕ) → t ≢ codes "team" → two t ≡ []
  teamed t differ =
      ann.others t differ ∙ root.others t differ ∙ empty t

  ruled : (t : List ℕ) → t ≢ codes "policy" → t ≢ codes "template" → hello t ≡ two t
  ruled t no_policy no_template =
      entry.others t no_template ∙ policy.others t no_policy

  filled : (t : List ℕ) → t ≢ codes "language" → t ≢ codes "unit" → last t ≡ hello t
  filled t no_language no_unit =
      unit.others t no_unit ∙ language.others t no_language

  none : (t : List ℕ) → t ≢ codes "team" → t ≢ codes "policy" → t ≢ codes "template" → t ≢ codes "language" → t ≢ codes "unit" → last t ≡ []
  none t a b c d e = filled t d e ∙ ruled t b c ∙ teamed t a

  two_members : (row : Row) → Has (two (codes "team")) row → MemberStands row
  two_members =
      all_put first_text MemberStands (one (codes "team")) (two (codes "team")) ann.row ann.put
      (all_put first_text MemberStands (made (codes "team")) (one (codes "team")) root.row root.put
      (λ x there. no_row (made (codes "team")) x (empty (codes "team")) there)
      (subst MemberStands (sym root.is_row.1) (member_stands (codes "root") refl (plain (codes "root") refl) Manager (pos 3) refl)))
      (subst MemberStands (sym ann.is_row.1) (member_stands (codes "ann") refl (plain (codes "ann") refl) Translator (pos 1) refl))

  policy_last : last (codes "policy") ≡ closed (codes "policy")
  policy_last = filled (codes "policy") (names_differ refl) (names_differ refl) ∙ entry.others (codes "policy") (names_differ refl)

  one_policy : (row : Row) → Has (closed (codes "policy")) row → row ≡ closed_row
  one_policy =
      all_put row_number (λ r. r ≡ closed_row) (two (codes "policy")) (closed (codes "policy")) policy.row policy.put
      (λ x there. no_row (two (codes "policy")) x (teamed (codes "policy") (names_differ refl)) there) policy.is_row

  one_entry : (row : Row) → Has (hello (codes "template")) row → row ≡ hello_row
  one_entry =
      all_put row_number (λ r. r ≡ hello_row) (closed (codes "template")) (hello (codes "template")) entry.row entry.put
      (λ x there. no_row (closed (codes "template")) x (policy.others (codes "template") (names_differ refl) ∙ teamed (codes "template") (names_differ refl)) there)
      entry.is_row

  one_language : (row : Row) → Has (german (codes "language")) row → IsTrue (is_language_row (columns (2 ∷ 3 ∷ 1 ∷ []) row))
  one_language =
      all_put first_text (λ r. IsTrue (is_language_row (columns (2 ∷ 3 ∷ 1 ∷ []) r))) (hello (codes "language")) (german (codes "language")) language.row language.put
      (λ x there. no_row (hello (codes "language")) x (ruled (codes "language") (names_differ refl) (names_differ refl) ∙ teamed (codes "language") (names_differ refl)) there)
      (subst (λ r. IsTrue (is_language_row (columns (2 ∷ 3 ∷ 1 ∷ []) r))) (sym language.is_row.1) german_stands)

  before : german (codes "unit") ≡ []
  before =
      language.others (codes "unit") (names_differ refl) ∙ ruled (codes "unit") (names_differ refl) (names_differ refl) ∙ teamed (codes "unit") (names_differ refl)

  one_unit : (row : Row) → Has (last (codes "unit")) row → UnitStands row
  one_unit =
      all_put first_texts UnitStands (german (codes "unit")) (last (codes "unit")) unit.row unit.put
      (λ x there. no_row (german (codes "unit")) x before there) (subst UnitStands (sym unit.is_row.1) (unit_stands (codes "de") demo_unit unit_fits))

  rows_of_demo : KeepsRules (meaning_in last) → StandForAll last
  rows_of_demo rules = record {
    form = (policy.row, subst (λ rows. Has rows policy.row) (sym policy_last) policy.put.here, ap row_number policy.is_row, ap (λ r. column r 2) policy.is_row);
    office = record {
      members = λ row there. two_members row (subst (λ rows. Has rows row) (filled (codes "team") (names_differ refl) (names_differ refl) ∙ ruled (codes "team") (names_differ refl) (names_differ refl)) there);
      policy = λ row there at_one. ap (λ r. is_policy_row (columns (2 ∷ 3 ∷ 4 ∷ 5 ∷ 6 ∷ 7 ∷ 8 ∷ []) r)) (one_policy row (subst (λ rows. Has rows row) policy_last there));
      entries = λ row there.
          ap (λ r. is_entry_row (columns (3 ∷ 4 ∷ 5 ∷ 6 ∷ 2 ∷ 0 ∷ []) r)) (one_entry row (subst (λ rows. Has rows row) (filled (codes "template") (names_differ refl) (names_differ refl)) there)) ∙ hello_stands;
      template = (project_keeps (project_of_rows last) (book_in last) rules).template_valid;
      languages = λ row there. one_language row (subst (λ rows. Has rows row) (unit.others (codes "language") (names_differ refl)) there);
      units = one_unit;
      suggestions = λ row there. no_row _ row (none (codes "suggestion") (names_differ refl) (names_differ refl) (names_differ refl) (names_differ refl) (names_differ refl)) there;
      votes = λ row there. no_row _ row (none (codes "vote") (names_differ refl) (names_differ refl) (names_differ refl) (names_differ refl) (names_differ refl)) there;
    };
    book = record {
      records = λ row there. no_row _ row (none (codes "record") (names_differ refl) (names_differ refl) (names_differ refl) (names_differ refl) (names_differ refl)) there;
      contents = λ row there. no_row _ row (none (codes "record") (names_differ refl) (names_differ refl) (names_differ refl) (names_differ refl) (names_differ refl)) there;
    };
  }

demo_seen : (old new : NamedRows) → MakesDemoIn old new → KeepsRules (meaning_in new) → StandForAll new
demo_seen old new (made, empty, ((two, (one, root, ann), (closed, policy, (hello, entry, (german, language, unit)))))) rules =
    rows_of_demo made one two closed hello german new empty root ann policy entry language unit rules

demo_named : (old new : Database) → MakesDemo old new → Each (codes "domain") (1 ∷ []) is_domain_row (rows_named new)
demo_named old new (made, tables, (team, (one, root, ann), (closed, policy, (hello, entry, (german, language, (unit, put, tally)))))) row there =
    let stays =
    tally.others (codes "domain") (names_differ refl) ∙ put.others (codes "domain") (names_differ refl) ∙ language.others (codes "domain") (names_differ refl) ∙ entry.others (codes "domain") (names_differ refl)
    ∙ policy.others (codes "domain") (names_differ refl) ∙ ann.others (codes "domain") (names_differ refl) ∙ root.others (codes "domain") (names_differ refl) in
    main_named old made tables row (subst (λ rows. Has rows row) stays there)

pub demo_rows : (old new : Database) → MakesDemo old new → HoldsOfficeRows by_domain (rows_named new)
demo_rows old new made =
    let it = demo_in old new made in
    let seen = opens_demo (seen_in main (rows_named old)) (seen_in main (rows_named new)) it in
    let all = demo_seen (seen_in main (rows_named old)) (seen_in main (rows_named new)) it (subst KeepsRules (sym seen.0) demo_keeps) in
    let alone = demo_is_main old new made in
    record {
      form_told = all.form;
      office = stand_alone (rows_named new) alone.0 alone.1 (demo_named old new made) all.office;
      book = whole_book (rows_named new) main all.book;
      figures = demo_figures old new made;
      rules = subst KeepsRules (sym (demo_means old new made).0) demo_keeps;
    }
