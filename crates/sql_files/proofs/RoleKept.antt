-- The commit of a role keeps an office's file one.
use Rattle.std.proofs.Common.{◌≡◌, ◌≢◌, ℕ, ℤ, [], ◌∷◌, true, Option, Some, None, refl, sym, subst, codes, List}
use Rattle.std.specs.Prelude.{IsTrue, IsUtf8}
use Rattle.std.proofs.lemmas.Bool.{and_from}
use Rattle.sqlite.specs.declared.types.Value.TheVariants.{Int, Text as Words}
use Rattle.sqlite.specs.Order.{Row}
use Rattle.sqlite_rules.specs.Lists.{Has}
use Rattle.office_specification.specs.OfficeRules.{KeepsRules}
use Rattle.po_text.specs.Texts.{Text}
use Rattle.request_book.specs.declared.book.Record.{Record}
use Rattle.sql_columns.specs.Numbers.{role_number}
use Rattle.units.specs.Limits.{is_name}
use Rattle.units.specs.declared.unit.Role.{Role}
use Rattle.sql_schema.specs.Keys.{first_text, columns}
use Rattle.sql_meaning.specs.Domains.{meaning_by_domain}
use Rattle.sql_changes.specs.Commits.{WritesRole, MakesRole}
use Rattle.sql_decoding.specs.RowTests.{is_role, is_member_row}
use Rattle.sql_decoding.proofs.ColumnsTested.{text_stands, integer_is, role_stands}
use Rattle.sql_figures.specs.Figures.{HasFigures}
use Rattle.sql_files.specs.Files.{IsKeepable, StandForAll, IsOfficeDatabase}
use Rattle.sql_files.proofs.Puts.{all_put, template_same, form_same, book_same}
use Rattle.sql_files.proofs.InDomains.{SeesNothing, nothing_more, stand_still}
use Rattle.sql_files.proofs.ActKept.{record_step, record_nothing}
use Rattle.sql_schema.specs.Layouts.{by_domain, NamedRows, rows_named}
use Rattle.sql_schema.proofs.Layouts.{names_differ}
use Rattle.sql_schema.specs.Inside.{AreOfficeTablesOf}
use Rattle.sqlite.specs.Effect.{Database}
use Rattle.sql_changes.specs.OnDomains.{OnEach}
use Rattle.sql_schema.specs.SeenRows.{seen_in}

abbrev pub MemberStands : Row → Type 0
MemberStands row = IsTrue (is_member_row (columns (2 ∷ 1 ∷ []) row))

team_step : (old new : NamedRows) → ((t : List ℕ) → t ≢ codes "team" → new t ≡ old t) → ((row : Row) → Has (new (codes "team")) row → MemberStands row) → StandForAll old → StandForAll new
team_step old new apart members it =
    let policy = apart (codes "policy") (names_differ refl) in
    let template = apart (codes "template") (names_differ refl) in
    record {
      form = form_same old new policy it.form;
      office = record {
        members = members;
        policy = λ row there. it.office.policy row (subst (λ rows. Has rows row) policy there);
        entries = λ row there. it.office.entries row (subst (λ rows. Has rows row) template there);
        template = template_same old new template it.office.template;
        languages = λ row there. it.office.languages row (subst (λ rows. Has rows row) (apart (codes "language") (names_differ refl)) there);
        units = λ row there. it.office.units row (subst (λ rows. Has rows row) (apart (codes "unit") (names_differ refl)) there);
        suggestions = λ row there. it.office.suggestions row (subst (λ rows. Has rows row) (apart (codes "suggestion") (names_differ refl)) there);
        votes = λ row there. it.office.votes row (subst (λ rows. Has rows row) (apart (codes "vote") (names_differ refl)) there);
      };
      book = book_same old new (apart (codes "record") (names_differ refl)) it.book;
    }

pub member_stands : (name : Text) → is_name name ≡ true → IsUtf8 name → (role : Role) (n : ℤ) → role_number role ≡ Some n → is_member_row (Int n ∷ Words name ∷ []) ≡ true
member_stands name named utf8 role n is =
    and_from _ _ (integer_is 0 (Int n ∷ Words name ∷ []) n refl is_role true (role_stands n role is)) (text_stands 1 (Int n ∷ Words name ∷ []) name refl is_name utf8 named)

pub role_step : (name : Text) → is_name name ≡ true → IsUtf8 name → (role : Role) (n : Option ℤ) → role_number role ≡ n → (old new : NamedRows) → WritesRole name n old new
    → StandForAll old → StandForAll new
role_step name named utf8 role (Some n) is old new put it =
    team_step old new (λ t apart. put.others t apart)
    (all_put first_text MemberStands (old (codes "team")) (new (codes "team")) put.row put.put it.office.members
    (subst MemberStands (sym put.is_row.1) (member_stands name named utf8 role n is))) it
role_step name named utf8 role None is old new takes it =
    team_step old new takes.others (λ row there. it.office.members row (takes.rows.only row there).0) it

stand_after_role : (old new : NamedRows) (row : Record) (name : Text) (role : Role) → MakesRole row name role old new → IsKeepable row → is_name name ≡ true → IsUtf8 name
    → StandForAll old → StandForAll new
stand_after_role old new row name role it keepable named utf8 all = role_step name named utf8 role (role_number role) refl it.0 new it.2 (record_step old it.0 row it.1 keepable all)

role_nothing : (old new : NamedRows) (row : Record) (name : Text) (role : Role) → MakesRole row name role old new → SeesNothing old → SeesNothing new
role_nothing old new row name role (mid, recorded, writes) none = by (role_number role) writes
  where
    beside : ((t : List ℕ) → t ≢ codes "team" → new t ≡ mid t) → SeesNothing new
    beside others =
        nothing_more mid new (others (codes "template") (names_differ refl)) (others (codes "language") (names_differ refl)) (others (codes "unit") (names_differ refl))
        (others (codes "suggestion") (names_differ refl)) (record_nothing old mid row recorded none)

    by : (n : Option ℤ) → WritesRole name n mid new → SeesNothing new
    by (Some n) put = beside put.others
    by None takes = beside takes.others

pub role_keeps : (old new : Database) (row : Record) (name : Text) (role : Role) → OnEach (MakesRole row name role) old new → AreOfficeTablesOf by_domain new
    → IsKeepable row → is_name name ≡ true → IsUtf8 name → KeepsRules (meaning_by_domain (rows_named new)) → HasFigures (rows_named new) → IsOfficeDatabase by_domain old → IsOfficeDatabase by_domain new
role_keeps old new row name role it ready keepable named utf8 rules figures file =
    stand_still old new ready rules figures file it (λ domain. tt) (λ domain missing made none. role_nothing (seen_in domain (rows_named old)) (seen_in domain (rows_named new)) row name role made none)
    (λ domain project made. stand_after_role (seen_in domain (rows_named old)) (seen_in domain (rows_named new)) row name role made keepable named utf8)
