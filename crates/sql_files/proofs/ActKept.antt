-- The commit of an act on a unit keeps an office's file one: its record, and what it writes of its unit, if it writes anything.
use Rattle.std.proofs.Common.{◌≡◌, Bool, true, false, Option, Some, None, codes, refl, sym, subst, ◌∙◌}
use Rattle.std.specs.Prelude.{IfSome}
use Rattle.sqlite.specs.Effect.{Database}
use Rattle.office_specification.specs.OfficeRules.{KeepsRules}
use Rattle.office_specification.specs.declared.values.UnitWrite.{UnitWrite}
use Rattle.office_specification.proofs.domains.InDomains.{equal_domains}
use Rattle.po_text.specs.Texts.{Text}
use Rattle.po_text.specs.Valid.{IsValid}
use Rattle.request_book.specs.declared.book.Record.{Record}
use Rattle.units.specs.Office.{same_domain}
use Rattle.units.specs.Projects.{IsProject}
use Rattle.units.specs.declared.unit.Key.{Key}
use Rattle.sql_schema.specs.Inside.{AreOfficeTablesOf}
use Rattle.sql_schema.specs.Layouts.{by_domain, rows_named, NamedRows}
use Rattle.sql_schema.specs.SeenRows.{seen_in, AreSameByName}
use Rattle.sql_schema.proofs.Layouts.{names_differ}
use Rattle.sql_meaning.specs.Domains.{project_seen, meaning_by_domain, is_domain}
use Rattle.sql_meaning.specs.Meaning.{template_in, project_of_rows}
use Rattle.sql_changes.specs.Commits.{PutsNumberedRecord, PutsRecordAlone, WritesRecordAndUnit, MakesThere, MakesIn}
use Rattle.sql_changes.specs.OnDomains.{OnEach, MakesIf}
use Rattle.sql_commits.specs.Acts.{MakesAct}
use Rattle.sql_figures.specs.Figures.{HasFigures}
use Rattle.sql_files.specs.Files.{IsKeepable, IsKeepableWrite, StandForAll, IsOfficeDatabase}
use Rattle.sql_files.proofs.InDomains.{SeesNothing, nothing_more, nothing_same, stand_still}
use Rattle.sql_files.proofs.RecordKept.{office_kept, form_kept, book_kept}
use Rattle.sql_files.proofs.UnitKept.{write_keeps}

-- ---- a record

pub record_step : (old new : NamedRows) (row : Record) → PutsNumberedRecord row old new → IsKeepable row → StandForAll old → StandForAll new
record_step old new row it keepable all = record {
  form = form_kept old new row it.1 it.0 all.form;
  office = office_kept old new row it.1 it.0 all.office;
  book = book_kept old new row it.1 it.0 keepable all.book;
}

pub record_nothing : (old new : NamedRows) (row : Record) → PutsNumberedRecord row old new → SeesNothing old → SeesNothing new
record_nothing old new row it =
    let others = it.0.others in
    nothing_more old new (others (codes "template") (names_differ refl)) (others (codes "language") (names_differ refl)) (others (codes "unit") (names_differ refl)) (others (codes "suggestion") (names_differ refl))

-- ---- a record alone, in another domain

-- rows that are the same, in whatever order
same_step : (old new : NamedRows) → AreSameByName old new → IsValid (template_in new) → StandForAll old → StandForAll new
same_step old new same valid it = record {
  form = (it.form.0, (same (codes "policy")).kept it.form.0 it.form.1, it.form.2, it.form.3);
  office = record {
    members = λ row there. it.office.members row ((same (codes "team")).only row there);
    policy = λ row there. it.office.policy row ((same (codes "policy")).only row there);
    entries = λ row there. it.office.entries row ((same (codes "template")).only row there);
    template = valid;
    languages = λ row there. it.office.languages row ((same (codes "language")).only row there);
    units = λ row there. it.office.units row ((same (codes "unit")).only row there);
    suggestions = λ row there. it.office.suggestions row ((same (codes "suggestion")).only row there);
    votes = λ row there. it.office.votes row ((same (codes "vote")).only row there);
  };
  book = record {
    records = λ row there. it.book.records row ((same (codes "record")).only row there);
    contents = λ row there. it.book.contents row ((same (codes "record")).only row there);
  };
}

alone_step : (old new : NamedRows) (row : Record) → PutsRecordAlone row old new → IsKeepable row → IsProject (project_of_rows new) → StandForAll old → StandForAll new
alone_step old new row (mid, put, same) keepable project it = same_step mid new same project.template_valid (record_step old mid row put keepable it)

alone_nothing : (old new : NamedRows) (row : Record) → PutsRecordAlone row old new → SeesNothing old → SeesNothing new
alone_nothing old new row (mid, put, same) none = nothing_same mid new same (record_nothing old mid row put none)

-- ---- a commit

pub record_keeps : (old new : Database) (row : Record) → OnEach (PutsNumberedRecord row) old new → AreOfficeTablesOf by_domain new → IsKeepable row → KeepsRules (meaning_by_domain (rows_named new))
    → HasFigures (rows_named new) → IsOfficeDatabase by_domain old → IsOfficeDatabase by_domain new
record_keeps old new row it ready keepable rules figures file =
    stand_still old new ready rules figures file it (λ domain. tt) (λ domain missing made none. record_nothing (seen_in domain (rows_named old)) (seen_in domain (rows_named new)) row made none)
    (λ domain project made. record_step (seen_in domain (rows_named old)) (seen_in domain (rows_named new)) row made keepable)

module _ (old new : Database) (row : Record) (ready : AreOfficeTablesOf by_domain new) (keepable : IsKeepable row) (rules : KeepsRules (meaning_by_domain (rows_named new)))
    (figures : HasFigures (rows_named new)) (file : IsOfficeDatabase by_domain old) where
  -- what is made in a domain that is there, where the others have the record alone
  pub kept_in : (domain : Text) (Makes : NamedRows → NamedRows → Type 0) → MakesIn domain row Makes old new
      → (Makes (seen_in domain (rows_named old)) (seen_in domain (rows_named new)) → IsProject (project_seen domain (rows_named new)) → StandForAll (seen_in domain (rows_named old))
      → StandForAll (seen_in domain (rows_named new)))
      → IsOfficeDatabase by_domain new
  kept_in domain Makes it step = by (is_domain (rows_named old) domain) refl it
    where
      was : Text → NamedRows
      was d = seen_in d (rows_named old)

      is : Text → NamedRows
      is d = seen_in d (rows_named new)

      each : (d : Text) (own : Bool) → same_domain d domain ≡ own → IsProject (project_of_rows (is d)) → MakesIf own Makes (PutsRecordAlone row) (was d) (is d) → StandForAll (was d) → StandForAll (is d)
      each d true tied project made =
          subst (λ t. Makes (was t) (is t) → IsProject (project_of_rows (is t)) → StandForAll (was t) → StandForAll (is t)) (sym (equal_domains d domain tied)) step made project
      each d false apart project made = alone_step (was d) (is d) row made keepable project

      nothing : is_domain (rows_named old) domain ≡ true → (d : Text) (own : Bool) → same_domain d domain ≡ own → is_domain (rows_named old) d ≡ false
          → MakesIf own Makes (PutsRecordAlone row) (was d) (is d) → SeesNothing (was d) → SeesNothing (is d)
      nothing there d true tied missing made none =
          let gone = subst (λ t. is_domain (rows_named old) t ≡ false) (equal_domains d domain tied) missing in
          let wrong : true ≡ false = sym there ∙ gone in
          absurd cc
      nothing there d false apart missing made none = alone_nothing (was d) (is d) row made none

      by : (b : Bool) → is_domain (rows_named old) domain ≡ b → MakesThere b domain row Makes old new → IsOfficeDatabase by_domain new
      by true there made =
          stand_still old new ready rules figures file made (λ d. tt) (λ d missing its none. nothing there d (same_domain d domain) refl missing its none)
          (λ d project its. each d (same_domain d domain) refl project its)
      by false missing made = record_keeps old new row made ready keepable rules figures file

-- ---- an act

unit_after : (old new : NamedRows) (row : Record) (lang : Text) (key : Key) (write : UnitWrite) → WritesRecordAndUnit row lang key write old new → IsKeepable row
    → IsKeepableWrite lang key write → StandForAll old → StandForAll new
unfolding WritesRecordAndUnit
unit_after old new row lang key write (mid, put, writes) keepable fits all = write_keeps lang key write fits mid new writes (record_step old mid row put keepable all)

pub act_keeps : (old new : Database) (row : Record) (domain lang : Text) (key : Key) (write : Option UnitWrite) → MakesAct row domain lang key write old new → AreOfficeTablesOf by_domain new
    → IsKeepable row → IfSome write (IsKeepableWrite lang key) → KeepsRules (meaning_by_domain (rows_named new)) → HasFigures (rows_named new) → IsOfficeDatabase by_domain old → IsOfficeDatabase by_domain new
act_keeps old new row domain lang key None it ready keepable fits rules figures file = record_keeps old new row it ready keepable rules figures file
act_keeps old new row domain lang key (Some write) it ready keepable fits rules figures file =
    kept_in old new row ready keepable rules figures file domain (WritesRecordAndUnit row lang key write) it
    (λ made project. unit_after (seen_in domain (rows_named old)) (seen_in domain (rows_named new)) row lang key write made keepable fits)
