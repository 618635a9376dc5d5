-- What a change of some of an office's tables makes of the office with its book: the rows of the other tables mean what they meant.
use Rattle.std.proofs.Common.{◌≡◌, ℕ, List, [], cond, sym, ap, subst, ◌∙◌, codes, refl}
use Rattle.std.specs.Prelude.{IsSome}
use Rattle.std.specs.Ordering.{is_eq, nat_cmp}
use Rattle.std.specs.Cmp.Lexicographic.{slice_cmp}
use Rattle.std.specs.FinMap as maps
use Rattle.sqlite.specs.Order.{Row}
use Rattle.sqlite_rules.specs.Lists.{Has}
use Rattle.po_text.specs.Texts.{Text, text_cmp}
use Rattle.units.specs.Project.{Project}
use Rattle.units.specs.declared.unit.Role.{Role}
use Rattle.office_specification.specs.MainAlone.{main_alone}
use Rattle.request_book.specs.Book.{OfficeWithBook, with_record}
use Rattle.request_book.specs.declared.book.Record.{Record}
use Rattle.sql_columns.specs.Readings.{number_read}
use Rattle.sql_schema.specs.Keys.{first_text}
use Rattle.sql_meaning.specs.Meaning.{AreNumbered, book_in, template_in, headers_in, team_in, policy_in, units_in, suggestions_in, project_of_rows, meaning_in}
use Rattle.sql_meaning.proofs.CommitLaws.{commits_record}
use Rattle.sql_changes.specs.Commits.{PutsNumberedRecord}
use Rattle.sql_schema.specs.Layouts.{NamedRows, SparesOthers}
use Rattle.sql_schema.proofs.Layouts.{names_differ}
use Rattle.sql_meaning.specs.RowKeys.{AreOfficeRows}

-- the rows of each other table are as they were
abbrev pub Spares : List ℕ → NamedRows → NamedRows → Type 0
Spares name old new = SparesOthers name old new

pub spares_same : (name : List ℕ) (old new : NamedRows) → new ≡ old → Spares name old new
spares_same name old new is other apart = ap (λ (d : NamedRows). d other) is

pub spares_both : (name : List ℕ) (old mid new : NamedRows) → Spares name old mid → Spares name mid new → Spares name old new
spares_both name old mid new one two other apart = two other apart ∙ one other apart

abbrev rows_by : (units suggestions votes : List Row) → NamedRows
rows_by units suggestions votes name = cond (is_eq (slice_cmp nat_cmp name (codes "unit"))) units (cond (is_eq (slice_cmp nat_cmp name (codes "suggestion"))) suggestions votes)

pub units_same : (old new : NamedRows) → new (codes "unit") ≡ old (codes "unit") → new (codes "suggestion") ≡ old (codes "suggestion") → new (codes "vote") ≡ old (codes "vote") → units_in new ≡ units_in old
units_same old new units suggestions votes = λ i. units_in (rows_by (units i) (suggestions i) (votes i))

pub suggestions_same : (old new : NamedRows) → new (codes "suggestion") ≡ old (codes "suggestion") → new (codes "vote") ≡ old (codes "vote") → (lang key : Text) → suggestions_in new lang key ≡ suggestions_in old lang key
suggestions_same old new suggestions votes lang key = λ i. suggestions_in (rows_by [] (suggestions i) (votes i)) lang key

module _ (old new : NamedRows) where
  pub book_same : new (codes "record") ≡ old (codes "record") → book_in new ≡ book_in old
  book_same same = ap (λ (rows : List Row). book_in (λ name. rows)) same

  pub numbered_same : new (codes "record") ≡ old (codes "record") → AreNumbered old → AreNumbered new
  numbered_same same numbered = subst (λ (rows : List Row). (r : Row) → Has rows r → IsSome (number_read (first_text r))) (sym same) numbered

  -- the team alone is another
  pub another_team : (team : maps.FinMap text_cmp Role) → Spares (codes "team") old new → team_in new ≡ team → project_of_rows new ≡ record (project_of_rows old) { team = team }
  another_team team others is =
      let policy : policy_in new ≡ policy_in old = ap (λ (rows : List Row). policy_in (λ name. rows)) (others (codes "policy") (names_differ refl)) in
      let template : template_in new ≡ template_in old = ap (λ (rows : List Row). template_in (λ name. rows)) (others (codes "template") (names_differ refl)) in
      let headers : headers_in new ≡ headers_in old = ap (λ (rows : List Row). headers_in (λ name. rows)) (others (codes "language") (names_differ refl)) in
      let units = units_same old new (others (codes "unit") (names_differ refl)) (others (codes "suggestion") (names_differ refl)) (others (codes "vote") (names_differ refl)) in
      λ i. record { template = template i; headers = headers i; units = units i; team = is i; policy = policy i }

-- A request's record, and then a change that spares the records: the project that it leaves, and the book with one record more.
pub commits_change : (old mid after : NamedRows) (row : Record) (left : Project) → AreOfficeRows old → AreNumbered old → PutsNumberedRecord row old mid
    → after (codes "record") ≡ mid (codes "record") → project_of_rows after ≡ left
    → (meaning_in after ≡ record { office = main_alone left; book = with_record (book_in old) row }) × AreNumbered after
commits_change old mid after row left ready numbered put same project =
    let recorded = commits_record old mid row ready numbered put.1 put.0 in
    let book : book_in after ≡ with_record (book_in old) row = book_same mid after same ∙ ap (λ (m : OfficeWithBook). m.book) recorded.0 in
    ((λ i. record { office = main_alone (project i); book = book i }), numbered_same mid after same recorded.1)
