-- The rows of an opening are an office's.
use Rattle.std.proofs.Common.{◌≡◌, ◌≢◌, ℕ, pos, List, [], ◌∷◌, true, refl, sym, ap, subst, ◌∙◌, codes}
use Rattle.std.specs.Prelude.{IsTrue, IsUtf8}
use Rattle.std.proofs.lemmas.Bool.{and_from}
use Rattle.sqlite.specs.declared.types.Value.TheVariants.{Int, Text as Words}
use Rattle.sqlite.specs.Order.{Row, column}
use Rattle.sqlite_rules.specs.Lists.{Has}
use Rattle.office_specification.specs.OfficeRules.{KeepsRules}
use Rattle.po_text.specs.Texts.{Text}
use Rattle.po_text.specs.Valid.{IsValid}
use Rattle.units.specs.Limits.{is_name}
use Rattle.units.specs.Office.{main}
use Rattle.sql_schema.specs.Keys.{first_text, row_number, columns}
use Rattle.sql_meaning.specs.Beginnings.{closed_row, MakesOpening}
use Rattle.sql_meaning.proofs.Openings.{no_template, opening_keeps}
use Rattle.sql_decoding.specs.RowTests.{is_domain_row, is_member_row, is_policy_row}
use Rattle.sql_decoding.proofs.ColumnsTested.{text_stands}
use Rattle.sql_files.specs.Files.{HoldsOfficeRows, StandForAll}
use Rattle.sql_files.proofs.InDomains.{nothing_valid, whole_book, stand_alone}
use Rattle.sql_files.proofs.DomainKept.{main_named}
use Rattle.sql_files.proofs.Puts.{no_row, all_put}
use Rattle.sql_files.proofs.StartFigures.{opening_figures}
use Rattle.sql_schema.specs.Creation.{HaveNoRows}
use Rattle.sql_schema.proofs.Layouts.{names_differ}
use Rattle.sql_schema.specs.SeenRows.{seen_in}
use Rattle.sql_adoption.specs.Adoption.{Each}
use Rattle.sql_schema.specs.Layouts.{by_domain, NamedRows, rows_named}
use Rattle.sqlite.specs.Effect.{Database}
use Rattle.sql_meaning.proofs.MainBeginnings.{opening_in, opening_is_main, opening_means}
use Rattle.sql_meaning.specs.BeginningRows.{PutsMemberIn, PutsClosedPolicyIn}

module _ (name : Text) (named : is_name name ≡ true) (utf8 : IsUtf8 name) (made first last : NamedRows) (empty : HaveNoRows made)
    (member : PutsMemberIn name (pos 3) made first) (policy : PutsClosedPolicyIn first last) where
  early : (t : List ℕ) → t ≢ codes "team" → first t ≡ []
  early t differ = member.others t differ ∙ empty t

  late : (t : List ℕ) → t ≢ codes "policy" → last t ≡ first t
  late t differ = policy.others t differ

  none : (t : List ℕ) → t ≢ codes "team" → t ≢ codes "policy" → last t ≡ []
  none t no_team no_policy = late t no_policy ∙ early t no_team

  member_stands : IsTrue (is_member_row (columns (2 ∷ 1 ∷ []) member.row))
  member_stands =
      subst (λ r. IsTrue (is_member_row (columns (2 ∷ 1 ∷ []) r))) (sym member.is_row.1)
      (and_from _ _ refl (text_stands 1 (Int (pos 3) ∷ Words name ∷ []) name refl is_name utf8 named))

  one_member : (row : Row) → Has (first (codes "team")) row → IsTrue (is_member_row (columns (2 ∷ 1 ∷ []) row))
  one_member =
      all_put first_text (λ r. IsTrue (is_member_row (columns (2 ∷ 1 ∷ []) r))) (made (codes "team")) (first (codes "team")) member.row member.put
      (λ x there. no_row (made (codes "team")) x (empty (codes "team")) there) member_stands

  one_policy : (row : Row) → Has (last (codes "policy")) row → row ≡ closed_row
  one_policy =
      all_put row_number (λ r. r ≡ closed_row) (first (codes "policy")) (last (codes "policy")) policy.row policy.put
      (λ x there. no_row (first (codes "policy")) x (early (codes "policy") (names_differ refl)) there) policy.is_row

  rows_of_opening : StandForAll last
  rows_of_opening = record {
    form = (policy.row, policy.put.here, ap row_number policy.is_row, ap (λ r. column r 2) policy.is_row);
    office = record {
      members = λ row there. one_member row (subst (λ rows. Has rows row) (late (codes "team") (names_differ refl)) there);
      policy = λ row there at_one. ap (λ r. is_policy_row (columns (2 ∷ 3 ∷ 4 ∷ 5 ∷ 6 ∷ 7 ∷ 8 ∷ []) r)) (one_policy row there);
      entries = λ row there. no_row _ row (none (codes "template") (names_differ refl) (names_differ refl)) there;
      template = subst IsValid (sym (no_template last (none (codes "template") (names_differ refl) (names_differ refl)))) nothing_valid;
      languages = λ row there. no_row _ row (none (codes "language") (names_differ refl) (names_differ refl)) there;
      units = λ row there. no_row _ row (none (codes "unit") (names_differ refl) (names_differ refl)) there;
      suggestions = λ row there. no_row _ row (none (codes "suggestion") (names_differ refl) (names_differ refl)) there;
      votes = λ row there. no_row _ row (none (codes "vote") (names_differ refl) (names_differ refl)) there;
    };
    book = record {
      records = λ row there. no_row _ row (none (codes "record") (names_differ refl) (names_differ refl)) there;
      contents = λ row there. no_row _ row (none (codes "record") (names_differ refl) (names_differ refl)) there;
    };
  }

opening_named : (name : Text) (old new : Database) → MakesOpening name old new → Each (codes "domain") (1 ∷ []) is_domain_row (rows_named new)
opening_named name old new (made, tables, (first, member, policy)) row there =
    let stays = policy.others (codes "domain") (names_differ refl) ∙ member.others (codes "domain") (names_differ refl) in
    main_named old made tables row (subst (λ rows. Has rows row) stays there)

pub opening_rows : (name : Text) → is_name name ≡ true → IsUtf8 name → (old new : Database) → MakesOpening name old new → HoldsOfficeRows by_domain (rows_named new)
opening_rows name named utf8 old new made =
    let it = opening_in name old new made in
    let all = rows_of_opening name named utf8 it.0 it.2.0 (seen_in main (rows_named new)) it.1 it.2.1 it.2.2 in
    let alone = opening_is_main name old new made in
    record {
      form_told = all.form;
      office = stand_alone (rows_named new) alone.0 alone.1 (opening_named name old new made) all.office;
      book = whole_book (rows_named new) main all.book;
      figures = opening_figures name old new made;
      rules = subst KeepsRules (sym (opening_means name old new made).0) (opening_keeps name);
    }
