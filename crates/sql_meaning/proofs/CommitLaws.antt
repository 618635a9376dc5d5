-- What the commit of an act on a unit of `main` makes of the office with its book: its record, and the unit at its place, if it writes anything of it.
use Rattle.std.proofs.Common.{◌≡◌, ◌≢◌, ℕ, List, cond, IsSome, sym, ap, subst, ◌∙◌, codes, refl}
use Rattle.std.specs.FinMap as maps
use Rattle.std.specs.Ordering.{is_eq, nat_cmp}
use Rattle.std.specs.Cmp.Lexicographic.{slice_cmp}
use Rattle.sqlite.specs.Order.{Row}
use Rattle.sqlite_rules.specs.Lists.{Has}
use Rattle.po_text.specs.Texts.{Text}
use Rattle.units.specs.Project.{Project, with_unit}
use Rattle.units.specs.declared.unit.Key.{Key}
use Rattle.units.specs.declared.unit.Unit.{Unit}
use Rattle.office_specification.specs.MainAlone.{main_alone}
use Rattle.sql_columns.specs.Readings.{number_read}
use Rattle.request_book.specs.Acts.{IsNumber}
use Rattle.request_book.specs.Book.{with_record}
use Rattle.request_book.specs.declared.book.Record.{Record}
use Rattle.sql_schema.specs.Keys.{first_text}
use Rattle.sql_schema.specs.Inside.{PutsIn, HoldsValues}
use Rattle.sql_meaning.specs.Cells.{record_cells}
use Rattle.sql_meaning.specs.Meaning.{AreNumbered, book_in, template_in, headers_in, team_in, policy_in, units_in, project_of_rows, meaning_in}
use Rattle.sql_meaning.proofs.Books.{book_put, numbered_still}
use Rattle.sql_meaning.proofs.UnitsWritten.{KeepsOthers}
use Rattle.sql_schema.specs.Layouts.{NamedRows}
use Rattle.sql_schema.proofs.Layouts.{names_differ}
use Rattle.sql_meaning.specs.RowKeys.{AreOfficeRows}

-- the rows of the tables that hold the project, by the names of these
abbrev rows_by : (team policy template languages units suggestions votes : List Row) → NamedRows
rows_by team policy template languages units suggestions votes name =
    cond (is_eq (slice_cmp nat_cmp name (codes "team"))) team (cond (is_eq (slice_cmp nat_cmp name (codes "policy"))) policy (cond (is_eq (slice_cmp nat_cmp name (codes "template"))) template
    (cond (is_eq (slice_cmp nat_cmp name (codes "language"))) languages (cond (is_eq (slice_cmp nat_cmp name (codes "unit"))) units (cond (is_eq (slice_cmp nat_cmp name (codes "suggestion"))) suggestions votes)))))

-- ---- a record

module _ (old new : NamedRows) (row : Record) (put : PutsIn (codes "record") first_text (HoldsValues (record_cells row)) old new) where
  -- the rows of the other tables stay
  stays : (name : List ℕ) → name ≢ codes "record" → new name ≡ old name
  stays name apart = put.others name apart

  pub same_project : project_of_rows new ≡ project_of_rows old
  same_project =
      let team = stays (codes "team") (names_differ refl) in
      let policy = stays (codes "policy") (names_differ refl) in
      let template = stays (codes "template") (names_differ refl) in
      let languages = stays (codes "language") (names_differ refl) in
      let units = stays (codes "unit") (names_differ refl) in
      let suggestions = stays (codes "suggestion") (names_differ refl) in
      let votes = stays (codes "vote") (names_differ refl) in
      λ i. project_of_rows (rows_by (team i) (policy i) (template i) (languages i) (units i) (suggestions i) (votes i))

  book_is : AreOfficeRows old → AreNumbered old → IsNumber row.number → book_in new ≡ with_record (book_in old) row
  book_is ready numbered valid =
      book_put old new row valid numbered put ready.keyed.one_record

pub commits_record : (old after : NamedRows) (row : Record) → AreOfficeRows old → AreNumbered old → IsNumber row.number
    → PutsIn (codes "record") first_text (HoldsValues (record_cells row)) old after
    → (meaning_in after ≡ record { office = main_alone (project_of_rows old); book = with_record (book_in old) row }) × AreNumbered after
commits_record old after row ready numbered valid put =
    let project = same_project old after row put in
    let book = book_is old after row put ready numbered valid in
    ((λ i. record { office = main_alone (project i); book = book i }), numbered_still old after row valid numbered put)

-- ---- a record, and then a unit at its place

module _ (old mid after : NamedRows) (lang : Text) (key : Key) (unit : Unit) (row : Record) (recorded : PutsIn (codes "record") first_text (HoldsValues (record_cells row)) old mid)
    (units : units_in after ≡ maps.insert (units_in mid) (lang, key) unit) (keeps : KeepsOthers mid after) where
  project_with : project_of_rows after ≡ with_unit (project_of_rows old) (lang, key) unit
  project_with =
      let template : template_in after ≡ template_in mid = ap (λ (rows : List Row). template_in (λ name. rows)) keeps.template in
      let headers : headers_in after ≡ headers_in mid = ap (λ (rows : List Row). headers_in (λ name. rows)) keeps.languages in
      let team : team_in after ≡ team_in mid = ap (λ (rows : List Row). team_in (λ name. rows)) keeps.team in
      let policy : policy_in after ≡ policy_in mid = ap (λ (rows : List Row). policy_in (λ name. rows)) keeps.policy in
      let over : project_of_rows after ≡ with_unit (project_of_rows mid) (lang, key) unit =
      λ i. record { template = template i; headers = headers i; units = units i; team = team i; policy = policy i } in
      over ∙ ap (λ (p : Project). with_unit p (lang, key) unit) (same_project old mid row recorded)

  pub commits_unit : AreOfficeRows old → AreNumbered old → IsNumber row.number
      → (meaning_in after ≡ record { office = main_alone (with_unit (project_of_rows old) (lang, key) unit); book = with_record (book_in old) row }) × AreNumbered after
  commits_unit ready numbered valid =
      let book = ap (λ (rows : List Row). book_in (λ name. rows)) keeps.records ∙ book_is old mid row recorded ready numbered valid in
      let project = project_with in (
        (λ i. record { office = main_alone (project i); book = book i }),
        subst (λ (rows : List Row). (r : Row) → Has rows r → IsSome (number_read (first_text r))) (sym keeps.records) (numbered_still old mid row valid numbered recorded),
      )
