-- What the commit of a template of `main` makes of the office with its book.
use Rattle.std.proofs.Common.{◌≡◌, ◌≢◌, inl, inr, suc, List, [], ◌∷◌, All, sym, ap, subst, ◌∙◌, arith, codes, refl}
use Rattle.std.specs.List.{flat_map}
use Rattle.std.specs.FinMap as maps
use Rattle.sqlite.specs.Order.{Row}
use Rattle.sqlite_rules.specs.Lists.{Has}
use Rattle.po_text.specs.declared.entry.Entry.{Entry}
use Rattle.po_text.specs.Texts.{Text}
use Rattle.units.specs.Projects.{IsTemplateEntry}
use Rattle.office_specification.specs.MainAlone.{main_alone}
use Rattle.office_specification.specs.ProjectActs.{LanguagePlan, placed, with_template}
use Rattle.office_specification.specs.OfficeRules.{KeepsRules}
use Rattle.request_book.specs.Book.{with_record}
use Rattle.request_book.specs.declared.book.Record.{Record}
use Rattle.sql_schema.specs.Inside.{Then}
use Rattle.sql_meaning.specs.Meaning.{AreNumbered, book_in, template_in, headers_in, team_in, policy_in, units_in, project_of_rows, meaning_in}
use Rattle.rule_tests.proofs.MainAlone.{project_keeps}
use Rattle.sql_changes.specs.Commits.{PutsNumberedRecord, WritesTemplate, MakesTemplate}
use Rattle.sql_changes.specs.EntryWrites.{HoldsEntries}
use Rattle.sql_changes.specs.UnitWrites.{LeavesRows, WritesPlansBack}
use Rattle.sql_changes.proofs.Changed.{units_same, commits_change}
use Rattle.sql_changes.proofs.PlannedUnits.{HasUnits, from_last, changing, plans_from_last}
use Rattle.sql_changes.proofs.PlansCover.{all_covered}
use Rattle.sql_changes.proofs.StayingUnits.{PlansFollow, thinned}
use Rattle.sql_changes.proofs.EntriesWritten.{template_held}
use Rattle.sql_schema.proofs.Layouts.{names_differ}
use Rattle.sql_schema.specs.Layouts.{NamedRows}
use Rattle.sql_meaning.specs.RowKeys.{AreOfficeRows}

each_plain : (es : List Entry) → All IsTemplateEntry es → (e : Entry) → Has es e → IsTemplateEntry e
each_plain [] all e there = absurd there
each_plain (x ∷ es) all e (inl is) = subst IsTemplateEntry (sym is) (all 0 x (omega arith))
each_plain (x ∷ es) all e (inr later) = each_plain es (λ k d less. all (suc k) d (omega arith)) e later

module _ (old mid next after : NamedRows) (row : Record) (entries : List Entry) (plans : List LanguagePlan) (ready : AreOfficeRows old) (recorded : PutsNumberedRecord row old mid)
    (held : LeavesRows (HoldsEntries entries) mid next) (written : WritesPlansBack plans next after) where
  has : HasUnits (from_last (units_in next) (flat_map changing plans)) next after
  has = plans_from_last plans next after held.1 written

  -- the rows of each other table before the units
  before : (t : Text) → t ≢ codes "template" → t ≢ codes "record" → next t ≡ old t
  before t no_template no_record = held.0.others t no_template ∙ recorded.0.others t no_record

  units_before : units_in next ≡ units_in old
  units_before =
      units_same old next (before (codes "unit") (names_differ refl) (names_differ refl)) (before (codes "suggestion") (names_differ refl) (names_differ refl))
      (before (codes "vote") (names_differ refl) (names_differ refl))

  -- those of the plans, where these follow the units that are there
  units_are : PlansFollow (units_in old) plans → units_in after ≡ maps.from_entries (flat_map placed plans)
  units_are follow =
      has.units_are ∙ ap (λ m. from_last m (flat_map changing plans)) units_before ∙ thinned (units_in old) plans follow.apart follow.still ∙ all_covered (units_in old) (flat_map placed plans) follow.named

  template_is : ((e : Entry) → Has entries e → IsTemplateEntry e) → template_in after ≡ entries
  template_is plain =
      ap (λ (rows : List Row). template_in (λ name. rows)) has.others.template
      ∙ template_held entries mid next held.1 held.0 plain

  same_records : after (codes "record") ≡ mid (codes "record")
  same_records = has.others.records ∙ held.0.others (codes "record") (names_differ refl)

  same_team : after (codes "team") ≡ old (codes "team")
  same_team = has.others.team ∙ before (codes "team") (names_differ refl) (names_differ refl)

  same_policy : after (codes "policy") ≡ old (codes "policy")
  same_policy = has.others.policy ∙ before (codes "policy") (names_differ refl) (names_differ refl)

  same_languages : after (codes "language") ≡ old (codes "language")
  same_languages = has.others.languages ∙ before (codes "language") (names_differ refl) (names_differ refl)

  office_is : PlansFollow (units_in old) plans → ((e : Entry) → Has entries e → IsTemplateEntry e)
      → project_of_rows after ≡ with_template (project_of_rows old) entries plans
  office_is follow plain =
      let template = template_is plain in
      let units = units_are follow in
      let headers : headers_in after ≡ headers_in old = ap (λ (rows : List Row). headers_in (λ name. rows)) same_languages in
      let team : team_in after ≡ team_in old = ap (λ (rows : List Row). team_in (λ name. rows)) same_team in
      let policy : policy_in after ≡ policy_in old = ap (λ (rows : List Row). policy_in (λ name. rows)) same_policy in
      λ i. record { template = template i; headers = headers i; units = units i; team = team i; policy = policy i }

-- what a commit of a template leaves
abbrev Leaves : NamedRows → NamedRows → Record → List Entry → List LanguagePlan → Type 0
Leaves old after row entries plans =
    (meaning_in after ≡ record { office = main_alone (with_template (project_of_rows old) entries plans); book = with_record (book_in old) row }) × AreNumbered after

makes_template : (old after : NamedRows) (row : Record) (entries : List Entry) (plans : List LanguagePlan) → AreOfficeRows old → AreNumbered old
    → KeepsRules (record { office = main_alone (with_template (project_of_rows old) entries plans); book = with_record (book_in old) row })
    → PlansFollow (units_in old) plans
    → Then (PutsNumberedRecord row) (WritesTemplate entries plans) old after → Leaves old after row entries plans
makes_template old after row entries plans ready numbered rules follow (mid, recorded, (next, held, written)) =
    commits_change old mid after row (with_template (project_of_rows old) entries plans) ready numbered recorded
    (same_records old mid next after row entries plans ready recorded held written)
    (office_is old mid next after row entries plans ready recorded held written follow
    (each_plain entries (project_keeps (with_template (project_of_rows old) entries plans) (with_record (book_in old) row) rules).template_plain))

-- where the plans follow the units that are there
pub commits_template : (old after : NamedRows) (row : Record) (entries : List Entry) (plans : List LanguagePlan) → AreOfficeRows old → AreNumbered old
    → KeepsRules (record { office = main_alone (with_template (project_of_rows old) entries plans); book = with_record (book_in old) row })
    → PlansFollow (units_in old) plans → MakesTemplate row entries plans old after → Leaves old after row entries plans
unfolding MakesTemplate
commits_template old after row entries plans ready numbered rules follow it = makes_template old after row entries plans ready numbered rules follow it
