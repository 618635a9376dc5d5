-- The tables made anew mean an office of which nothing is recorded: with no row the empty one, and with the rows of an opening, or of the
-- demo, that one.
use Rattle.std.proofs.Common.{◌≡◌, ◌≢◌, ℕ, pos, false, [], ◌∷◌, map, filter, codes, None, unwrap_or, refl, ap, subst, ◌∙◌, List}
use Rattle.std.specs.FinMap as maps
use Rattle.std.specs.Ordering.{int_cmp}
use Rattle.sqlite_rules.specs.Lists.{Has}
use Rattle.sql_laws.specs.RowMaps.{map_of}
use Rattle.po_text.specs.declared.entry.Entry.{Entry}
use Rattle.po_text.specs.Texts.{Text, text_cmp}
use Rattle.units.specs.KeyTexts.{HasStrings}
use Rattle.units.specs.Project.{place_cmp}
use Rattle.units.specs.Openings.{opening, demo, demo_domain, demo_header, demo_unit, plain_entry, closed_policy}
use Rattle.units.specs.Units.{no_previous}
use Rattle.units.specs.declared.unit.Policy.{Policy}
use Rattle.units.specs.declared.unit.Role.TheVariants.{Translator, Manager}
use Rattle.request_book.specs.Book.{OfficeWithBook}
use Rattle.office_specification.specs.MainAlone.{main_alone}
use Rattle.office_specification.specs.OfficeRules.{KeepsRules}
use Rattle.office_specification.proofs.rules.StartLemmas.{demo_starts, opening_starts}
use Rattle.sql_columns.specs.Readings.{texts_read}
use Rattle.sql_columns.specs.Written.{ArePrevious, IsHeaderEntry, texts_text}
use Rattle.sql_columns.proofs.Keys.{parts_of_text}
use Rattle.sql_columns.proofs.Readers.{texts_found}
use Rattle.sql_schema.specs.Creation.{HaveNoRows}
use Rattle.sql_schema.specs.Keys.{first_text, first_texts, is_on_unit}
use Rattle.sql_meaning.specs.Values.{integer_at, role_at}
use Rattle.sql_meaning.specs.Meaning.{number_at, recorded_in, book_in, team_in, policy_of, policy_in, entry_of_row, template_in, header_of_row, headers_in, place_of_row, unit_of_row, units_in, suggestion_of_row, suggestions_in, meaning_in, AreNumbered}
use Rattle.sql_meaning.specs.Beginnings.{closed_row, hello_row}
use Rattle.sql_meaning.proofs.RowsPut.{no_entries, one_of_none, team_put, one_member_each, policy_first, template_first, header_put, unit_put}
use Rattle.sql_schema.specs.Layouts.{NamedRows}
use Rattle.sql_schema.proofs.Layouts.{names_differ}
use Rattle.sql_meaning.specs.BeginningRows.{PutsMemberIn, PutsClosedPolicyIn, MakesOpeningIn, PutsDemoEntryIn, PutsDemoLanguageIn, PutsDemoUnitIn, MakesDemoIn, MeansOnly}

-- ---- no row

module _ (tables : NamedRows) where
  pub no_records : tables (codes "record") ≡ [] → book_in tables ≡ maps.empty
  no_records none = ap (map_of text_cmp (number_at 1) recorded_in) none

  pub no_numbers : tables (codes "record") ≡ [] → AreNumbered tables
  no_numbers none row there = absurd (subst (λ rows. Has rows row) none there)

  pub no_members : tables (codes "team") ≡ [] → team_in tables ≡ maps.empty
  no_members none = ap (map_of text_cmp first_text (role_at 2)) none

  pub no_policy : tables (codes "policy") ≡ [] → policy_in tables ≡ closed_policy
  no_policy none =
      ap (λ rows. unwrap_or (maps.get (map_of int_cmp (integer_at 0) policy_of rows) (pos 1)) closed_policy) none
      ∙ ap (λ o. unwrap_or o closed_policy) (maps.get-empty {X = Policy} int_cmp (pos 1))

  pub no_template : tables (codes "template") ≡ [] → template_in tables ≡ []
  no_template none = ap (λ rows. maps.values (map_of int_cmp (integer_at 0) entry_of_row rows)) none ∙ ap (λ es. map (λ e. e.1) es) (no_entries int_cmp Entry)

  pub no_headers : tables (codes "language") ≡ [] → headers_in tables ≡ maps.empty
  no_headers none = ap (map_of text_cmp first_text header_of_row) none

  pub no_units : tables (codes "unit") ≡ [] → units_in tables ≡ maps.empty
  no_units none = ap (map_of place_cmp place_of_row (unit_of_row tables)) none

  pub no_suggestions : (lang key : Text) → tables (codes "suggestion") ≡ [] → suggestions_in tables lang key ≡ []
  no_suggestions lang key none =
      ap (λ rows. maps.values (map_of int_cmp (integer_at 4) (suggestion_of_row tables) (filter (is_on_unit lang key) rows))) none
      ∙ ap (λ es. map (λ e. e.1) es) (no_entries int_cmp _)

abbrev pub nothing : OfficeWithBook
nothing = record { office = main_alone (record { template = []; headers = maps.empty; units = maps.empty; team = maps.empty; policy = closed_policy }); book = maps.empty }

pub means_nothing : (tables : NamedRows) → HaveNoRows tables → meaning_in tables ≡ nothing
means_nothing tables empty =
    let template = no_template tables (empty (codes "template")) in
    let headers = no_headers tables (empty (codes "language")) in
    let units = no_units tables (empty (codes "unit")) in
    let team = no_members tables (empty (codes "team")) in
    let policy = no_policy tables (empty (codes "policy")) in
    let book = no_records tables (empty (codes "record")) in
    λ i. record { office = main_alone (record { template = template i; headers = headers i; units = units i; team = team i; policy = policy i }); book = book i }

-- ---- an opening

module _ (name : Text) (made first last : NamedRows) (empty : HaveNoRows made) (member : PutsMemberIn name (pos 3) made first) (policy : PutsClosedPolicyIn first last) where
  early : (t : List ℕ) → t ≢ codes "team" → first t ≡ []
  early t differ = member.others t differ ∙ empty t

  late : (t : List ℕ) → t ≢ codes "policy" → last t ≡ first t
  late t differ = policy.others t differ

  none_there : (t : List ℕ) → t ≢ codes "team" → t ≢ codes "policy" → last t ≡ []
  none_there t no_team no_policy = late t no_policy ∙ early t no_team

  manager : team_in last ≡ maps.insert maps.empty name Manager
  manager =
      let none = empty (codes "team") in
      ap (map_of text_cmp first_text (role_at 2)) (late (codes "team") (names_differ refl))
      ∙ team_put made first name Manager (pos 3) refl (one_of_none first_text (made (codes "team")) none) member
      ∙ ap (λ m. maps.insert m name Manager) (no_members made none)

  closed : policy_in last ≡ closed_policy
  closed = policy_first first last closed_row (early (codes "policy") (names_differ refl)) refl policy

  opened : MeansOnly (opening name) made last
  opened =
      let template = no_template last (none_there (codes "template") (names_differ refl) (names_differ refl)) in
      let headers = no_headers last (none_there (codes "language") (names_differ refl) (names_differ refl)) in
      let units = no_units last (none_there (codes "unit") (names_differ refl) (names_differ refl)) in
      let records = none_there (codes "record") (names_differ refl) (names_differ refl) in
      let book = no_records last records in (
        λ i. record { office = main_alone (record { template = template i; headers = headers i; units = units i; team = manager i; policy = closed i }); book = book i },
        no_numbers last records,
      )

pub opens : (name : Text) (old new : NamedRows) → MakesOpeningIn name old new → MeansOnly (opening name) old new
opens name old new (made, empty, (first, member, policy)) = opened name made first new empty member policy

-- ---- the demo

hello_strings : HasStrings demo_unit.key
hello_strings = record { ctx = refl; id = refl }

none_previous : ArePrevious no_previous
none_previous = record { ctx = refl; id = refl; plural = refl }

header_fits : IsHeaderEntry (plain_entry [] demo_header)
header_fits = record { plain = refl; one_form = refl; form = refl; previous = none_previous }

hello_back : entry_of_row hello_row ≡ plain_entry (codes "Hello") []
hello_back =
    let texts : unwrap_or (texts_read (texts_text [])) [] ≡ [] = ap (λ o. unwrap_or o []) (texts_found (texts_text []) [] refl) in
    let key = parts_of_text demo_unit.key hello_strings in
    λ i. record {
      translator = [];
      extracted = texts i;
      references = texts i;
      flags = texts i;
      previous = no_previous;
      ctx = (key i).ctx;
      id = (key i).id;
      plural = None;
      forms = [] ∷ [];
      obsolete = false;
    }

module _ (made one two closed hello german last : NamedRows) (empty : HaveNoRows made) (root : PutsMemberIn (codes "root") (pos 3) made one)
    (ann : PutsMemberIn (codes "ann") (pos 1) one two) (policy : PutsClosedPolicyIn two closed) (entry : PutsDemoEntryIn closed hello) (language : PutsDemoLanguageIn hello german)
    (unit : PutsDemoUnitIn german last) where
  -- which trees are as they were behind the team, the template, and all
  teamed : (t : List ℕ) → t ≢ codes "team" → two t ≡ []
  teamed t differ =
      ann.others t differ ∙ root.others t differ ∙ empty t

  ruled : (t : List ℕ) → t ≢ codes "policy" → t ≢ codes "template" → hello t ≡ two t
  ruled t no_policy no_template =
      entry.others t no_template ∙ policy.others t no_policy

  filled : (t : List ℕ) → t ≢ codes "language" → t ≢ codes "unit" → last t ≡ hello t
  filled t no_language no_unit =
      unit.others t no_unit ∙ language.others t no_language

  team : team_in last ≡ demo.team
  team =
      let none = empty (codes "team") in
      let each = one_of_none first_text (made (codes "team")) none in
      ap (map_of text_cmp first_text (role_at 2)) (filled (codes "team") (names_differ refl) (names_differ refl) ∙ ruled (codes "team") (names_differ refl) (names_differ refl))
      ∙ team_put one two (codes "ann") Translator (pos 1) refl (one_member_each made one (codes "root") Manager (pos 3) refl each root) ann
      ∙ ap (λ m. maps.insert m (codes "ann") Translator)
      (team_put made one (codes "root") Manager (pos 3) refl each root ∙ ap (λ m. maps.insert m (codes "root") Manager) (no_members made none))

  policy_is : policy_in last ≡ closed_policy
  policy_is =
      ap (λ rows. unwrap_or (maps.get (map_of int_cmp (integer_at 0) policy_of rows) (pos 1)) closed_policy)
      (filled (codes "policy") (names_differ refl) (names_differ refl) ∙ entry.others (codes "policy") (names_differ refl))
      ∙ policy_first two closed closed_row (teamed (codes "policy") (names_differ refl)) refl policy

  template : template_in last ≡ demo_domain.template
  template =
      ap (λ rows. maps.values (map_of int_cmp (integer_at 0) entry_of_row rows)) (filled (codes "template") (names_differ refl) (names_differ refl))
      ∙ template_first closed hello hello_row
      (policy.others (codes "template") (names_differ refl) ∙ teamed (codes "template") (names_differ refl)) entry
      ∙ ap (λ e. e ∷ []) hello_back

  headers : headers_in last ≡ demo_domain.headers
  headers =
      let none = ruled (codes "language") (names_differ refl) (names_differ refl) ∙ teamed (codes "language") (names_differ refl) in
      ap (map_of text_cmp first_text header_of_row) (unit.others (codes "language") (names_differ refl))
      ∙ header_put hello german (codes "de") (plain_entry [] demo_header) _ (codes "nplurals=2; plural=n != 1;") header_fits refl (one_of_none first_text (hello (codes "language")) none) language
      ∙ ap (λ m. maps.insert m (codes "de") (plain_entry [] demo_header)) (no_headers hello none)

  -- before the unit's row
  before : (t : List ℕ) → t ≢ codes "team" → t ≢ codes "policy" → t ≢ codes "template" → t ≢ codes "language" → german t ≡ []
  before t no_team no_policy no_template no_language =
      language.others t no_language ∙ ruled t no_policy no_template ∙ teamed t no_team

  units : units_in last ≡ demo_domain.units
  units =
      let none = before (codes "unit") (names_differ refl) (names_differ refl) (names_differ refl) (names_differ refl) in
      let suggestions = no_suggestions german (codes "de") (codes "Hello") (before (codes "suggestion") (names_differ refl) (names_differ refl) (names_differ refl) (names_differ refl)) in
      unit_put german last (codes "de") demo_unit hello_strings none_previous suggestions (one_of_none first_texts (german (codes "unit")) none) unit
      ∙ ap (λ m. maps.insert m (codes "de", demo_unit.key) demo_unit) (no_units german none)

  records : last (codes "record") ≡ []
  records =
      filled (codes "record") (names_differ refl) (names_differ refl) ∙ ruled (codes "record") (names_differ refl) (names_differ refl) ∙ teamed (codes "record") (names_differ refl)

  demo_made : MeansOnly demo made last
  demo_made =
      let book = no_records last records in (
        λ i. record { office = main_alone (record { template = template i; headers = headers i; units = units i; team = team i; policy = policy_is i }); book = book i },
        no_numbers last records,
      )

pub opens_demo : (old new : NamedRows) → MakesDemoIn old new → MeansOnly demo old new
opens_demo old new (made, empty, ((two, (one, root, ann), (closed, policy, (hello, entry, (german, language, unit)))))) =
    demo_made made one two closed hello german new empty root ann policy entry language unit

-- ---- both keep the rules

pub opening_keeps : (name : Text) → KeepsRules (record { office = opening name; book = maps.empty })
opening_keeps name = opening_starts name

pub demo_keeps : KeepsRules (record { office = demo; book = maps.empty })
demo_keeps = demo_starts
