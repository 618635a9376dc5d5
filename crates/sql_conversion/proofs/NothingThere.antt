-- Of a domain that isn't there nothing is written, and how an office is written anew step by step.
use Rattle.std.proofs.Common.{◌≡◌, List, [], ◌∷◌, false, Option, None, Ok, refl, sym, subst, codes}
use Rattle.std.specs.FinMap as maps
use Rattle.sqlite.specs.Effect.{Database}
use Rattle.sqlite.specs.Order.{Row}
use Rattle.sqlite.specs.State.{State}
use Rattle.sqlite.specs.declared.error.Error.{Error}
use Rattle.po_text.specs.Texts.{Text, text_cmp}
use Rattle.po_text.specs.declared.entry.Entry.{Entry}
use Rattle.units.specs.Office.{Office, main, empty_domain, as_project, project_in}
use Rattle.units.specs.Project.{Project}
use Rattle.office_specification.proofs.domains.InDomains.{no_domain_yet}
use Rattle.sql_schema.specs.Creation.{KeepsNamedRows}
use Rattle.sql_schema.specs.Inside.{IsInsideOf, OnRows, PutsRow, Then}
use Rattle.sql_schema.specs.Keys.{first_text}
use Rattle.sql_schema.specs.Layouts.{by_domain, NamedRows, SparesOthers}
use Rattle.sql_schema.proofs.Layouts.{names_differ}
use Rattle.sql_decoding.specs.declared.faults.Failure.{Failure}
use Rattle.sql_meaning.specs.Beginnings.{PutsMain}
use Rattle.sql_changes.specs.OnDomains.{OnDomain}
use Rattle.sql_changes.proofs.DomainWrites.{seen, nothing_on_domain}
use Rattle.sql_figures.specs.Figures.{FiguresStay}
use Rattle.sql_figures.proofs.FigureSteps.{IsBeside, stay_both, stay_beside, put_beside, policy_beside}
use Rattle.sql_commits.proofs.WritesInTurn.{write_told, write_then}
use Rattle.sql_conversion.specs.Conversion.{WritesIf, WritesLanguages, WritesProject, TellsPolicy, WritesAnew}

no_languages : (project : Project) (langs : List Text) (rows : NamedRows) → project.headers ≡ maps.empty → WritesLanguages project langs rows rows
no_languages project [] rows none = refl
no_languages project (lang ∷ langs) rows none =
    let missing : maps.get project.headers lang ≡ None = subst (λ (m : maps.FinMap text_cmp Entry). maps.get m lang ≡ None) (sym none) (maps.get-empty text_cmp lang) in
    (rows, subst (λ (o : Option Entry). WritesIf o project lang rows rows) (sym missing) refl, no_languages project langs rows none)

nothing_written : (office : Office) (langs : List Text) (rows : NamedRows) → WritesProject (as_project office empty_domain) langs rows rows
nothing_written office langs rows = (rows, (refl, (λ entry there. absurd there)), no_languages (as_project office empty_domain) langs rows refl)

pub nothing_there : (office : Office) (langs : List Text) (db : Database) → maps.contains_key office.domains main ≡ false → OnDomain main (WritesProject (project_in office main) langs) db db
nothing_there office langs db missing =
    nothing_on_domain main (WritesProject (project_in office main) langs) db
    (subst (λ (p : Project). WritesProject p langs (seen main db) (seen main db)) (sym (no_domain_yet office main missing)) (nothing_written office langs (seen main db)))

-- ---- the steps

-- the tables and the domain
abbrev pub MakesDomain : Database → Database → Type 0
MakesDomain = Then KeepsNamedRows PutsMain

-- and the policy
abbrev pub Begins : Office → Database → Database → Type 0
Begins office = Then MakesDomain (TellsPolicy office.policy)

pub anew_then : (office : Office) (langs : List Text) (old told new : Database) → Begins office old told → OnDomain main (WritesProject (project_in office main) langs) told new → WritesAnew office langs old new
anew_then office langs old told new (named, (made, keeps, puts), tells) written = (made, keeps, (named, puts, (told, tells, written)))

-- ---- the first of them count nothing

domain_beside : IsBeside (codes "domain")
domain_beside = record { suggestions = names_differ refl; votes = names_differ refl; sums = names_differ refl; tallies = names_differ refl }

-- the tables, the domain and the policy's row
pub begins_uncounted : {A B C : Type 0} {IsRow : Row → Type 0} (old made named told : State) (x : A) (y : B) (z : C) → IsInsideOf {E = Error} by_domain old made (Ok x) KeepsNamedRows
    → IsInsideOf {E = Error} by_domain made named (Ok y) (PutsRow (codes "domain") first_text IsRow) → IsInsideOf {E = Error} by_domain named told (Ok z) (OnRows (SparesOthers (codes "policy")))
    → IsInsideOf {E = Failure} by_domain old told (Ok z) FiguresStay
begins_uncounted {A} {B} {C} {IsRow} old made named told x y z tables domain policy =
    let Named = PutsRow (codes "domain") first_text IsRow in
    let Told = OnRows (SparesOthers (codes "policy")) in
    let one = write_then old made named {A = A} {B = B} {E = Error} {F = Error} x (Ok y) KeepsNamedRows Named FiguresStay
    (λ keeps puts. stay_both (stay_beside (codes "domain") domain_beside (λ name apart. keeps name)) (put_beside domain_beside puts)) tables domain in
    write_told old told {A = C} {B = C} {E = Error} {F = Failure} z z FiguresStay FiguresStay (λ stays. stays)
    (write_then old named told {A = B} {B = C} {E = Error} {F = Error} y (Ok z) FiguresStay Told FiguresStay (λ stays others. stay_both stays (stay_beside (codes "policy") policy_beside others)) one policy)
