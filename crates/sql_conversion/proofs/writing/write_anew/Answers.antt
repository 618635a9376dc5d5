use Rattle.std.proofs.Common.{◌≡◌, [], ◌∷◌, Ok, codes, rules, subst, ℕ, Err}
use Rattle.sqlite.specs.Held.{state}
use Rattle.sqlite.specs.declared.types.Value.TheVariants.{Text as Words}
use Rattle.po_text.specs.Texts.{Text}
use Rattle.units.specs.Office.{main, project_in}
use Rattle.units.specs.Project.{Project}
use Rattle.office_maps.specs.OfficeIn.{lent_project, office_in}
use Rattle.sql_decoding.specs.declared.faults.Failure.{Failure}
use Rattle.sql_schema.specs.Creation.{KeepsNamedRows}
use Rattle.sql_schema.specs.Inside.{PutsRow, HoldsValues}
use Rattle.sql_schema.specs.Keys.{first_text}
use Rattle.sql_changes.specs.Commits.{PutsPolicy}
use Rattle.sql_changes.specs.OnDomains.{OnEach, OnDomain}
use Rattle.sql_figures.specs.Figures.{FiguresStay}
use Rattle.sql_commits.proofs.WritesInTurn.{write_told, write_then, write_left}
use Rattle.sql_conversion.specs.Conversion.{TellsPolicy, WritesProject, WritesAnew, FollowsLanguages, FollowsLanguagesIn}
use Rattle.sql_conversion.proofs.LanguagesCounted.{counted_behind, none_there}
use Rattle.sql_conversion.proofs.NothingThere.{nothing_there, MakesDomain, Begins, anew_then, begins_uncounted}
use Rattle.sql_decoding.proofs.DiskFailures.{error_told, fails_behind}
use Rattle.sql_schema.proofs.Losses.{blames_of_lost}
use Rattle.sql_laws.proofs.Transactions.{survives_both}
use Rattle.sql_conversion.proofs.writing.write_anew.Goals as goal

pub returns-in-Some-clause-put : goal.returns-in-Some-clause-put
returns-in-Some-clause-put g c =
    let old = state g.S.Store c.args.tx.now.conn.now in
    let made = state g.S.Store c.make_domain_tables.new.tx.conn.now in
    let named = state g.S.Store c.put_domain.new.tx.conn.now in
    let told = state g.S.Store c.put_policy_of.new.tx.conn.now in
    let new = state g.S.Store c.write_project.new.tx.conn.now in
    let office = office_in c.args.maps.now in
    let langs = c.args.langs.now in
    let domain = c.main_domain-domain.result in
    let is : c.as_str.result.now ≡ main = search rules in
    let Named = PutsRow (codes "domain") first_text (HoldsValues (Words c.as_str.result.now ∷ [])) in
    let one = write_then old made named {F = Failure} c.in_ok-make_domain_tables.field-0 (Ok c.in_ok-put_domain.field-0) KeepsNamedRows Named MakesDomain
    (λ keeps puts. (made.now, keeps, subst (λ name. PutsRow (codes "domain") first_text (HoldsValues (Words name ∷ [])) made.now named.now) is puts))
    c.in_ok-make_domain_tables.ensures.made (write_told made named {F = Failure} c.in_ok-put_domain.field-0 c.in_ok-put_domain.field-0 Named Named (λ it. it) c.in_ok-put_domain.ensures.put) in
    let policy = write_left named told (Ok c.in_ok-put_policy_of.field-0) (OnEach (PutsPolicy office.policy)) (TellsPolicy office.policy) (λ ready it. (it, ready)) c.in_ok-put_policy_of.ensures.put in
    let two = write_then old named told {F = Failure} c.in_ok-put_domain.field-0 (Ok c.in_ok-put_policy_of.field-0) MakesDomain (TellsPolicy office.policy) (Begins office) (λ domain tells. (named.now, domain, tells)) one
    (write_told named told {F = Failure} c.in_ok-put_policy_of.field-0 c.in_ok-put_policy_of.field-0 (TellsPolicy office.policy) (TellsPolicy office.policy) (λ it. it) policy) in
    let its : lent_project c.in-Some.project ≡ project_in office main = search rules in
    write_then old told new c.in_ok-put_policy_of.field-0 c.write_project.result (Begins office) (OnDomain domain (WritesProject (lent_project c.in-Some.project) langs)) (WritesAnew office langs)
    (λ begun written. anew_then office langs old.now told.now new.now begun
    (subst (λ (w : Text × Project). OnDomain w.0 (WritesProject w.1 langs) told.now new.now) (λ i. (c.main_domain-domain.ensures i, its i)) written)) two c.write_project.ensures.put

pub returns-in-Some-clause-figures : goal.returns-in-Some-clause-figures
returns-in-Some-clause-figures g c =
    let old = state g.S.Store c.args.tx.now.conn.now in
    let made = state g.S.Store c.make_domain_tables.new.tx.conn.now in
    let named = state g.S.Store c.put_domain.new.tx.conn.now in
    let told = state g.S.Store c.put_policy_of.new.tx.conn.now in
    let new = state g.S.Store c.write_project.new.tx.conn.now in
    let office = office_in c.args.maps.now in
    let langs = c.args.langs.now in
    let domain = c.main_domain-domain.result in
    write_then old told new c.in_ok-put_policy_of.field-0 c.write_project.result FiguresStay (FollowsLanguagesIn domain office langs) (FollowsLanguages office langs)
    (λ stays follows. counted_behind main office langs old.now told.now new.now stays (subst (λ d. FollowsLanguagesIn d office langs told.now new.now) c.main_domain-domain.ensures follows))
    (begins_uncounted old made named told c.in_ok-make_domain_tables.field-0 c.in_ok-put_domain.field-0 c.in_ok-put_policy_of.field-0 c.in_ok-make_domain_tables.ensures.made c.in_ok-put_domain.ensures.put c.in_ok-put_policy_of.ensures.others)
    c.write_project.ensures.figures

-- where `main` isn't there
pub returns-in-None-clause-put : goal.returns-in-None-clause-put
returns-in-None-clause-put g c =
    let old = state g.S.Store c.args.tx.now.conn.now in
    let made = state g.S.Store c.make_domain_tables.new.tx.conn.now in
    let named = state g.S.Store c.put_domain.new.tx.conn.now in
    let told = state g.S.Store c.put_policy_of.new.tx.conn.now in
    let office = office_in c.args.maps.now in
    let langs = c.args.langs.now in
    let is : c.as_str.result.now ≡ main = search rules in
    let Named = PutsRow (codes "domain") first_text (HoldsValues (Words c.as_str.result.now ∷ [])) in
    let one = write_then old made named {F = Failure} c.in_ok-make_domain_tables.field-0 (Ok c.in_ok-put_domain.field-0) KeepsNamedRows Named MakesDomain
    (λ keeps puts. (made.now, keeps, subst (λ name. PutsRow (codes "domain") first_text (HoldsValues (Words name ∷ [])) made.now named.now) is puts))
    c.in_ok-make_domain_tables.ensures.made (write_told made named {F = Failure} c.in_ok-put_domain.field-0 c.in_ok-put_domain.field-0 Named Named (λ it. it) c.in_ok-put_domain.ensures.put) in
    let policy = write_left named told (Ok c.in_ok-put_policy_of.field-0) (OnEach (PutsPolicy office.policy)) (TellsPolicy office.policy) (λ ready it. (it, ready)) c.in_ok-put_policy_of.ensures.put in
    let two = write_then old named told {F = Failure} c.in_ok-put_domain.field-0 (Ok c.in_ok-put_policy_of.field-0) MakesDomain (TellsPolicy office.policy) (Begins office) (λ domain tells. (named.now, domain, tells)) one
    (write_told named told {F = Failure} c.in_ok-put_policy_of.field-0 c.in_ok-put_policy_of.field-0 (TellsPolicy office.policy) (TellsPolicy office.policy) (λ it. it) policy) in
    write_told old told {F = Failure} c.in_ok-put_policy_of.field-0 c.in_ok-put_policy_of.field-0 (Begins office) (WritesAnew office langs)
    (λ begun. anew_then office langs old.now told.now told.now begun (nothing_there office langs told.now (search rules))) two

pub returns-in-None-clause-figures : goal.returns-in-None-clause-figures
returns-in-None-clause-figures g c =
    let old = state g.S.Store c.args.tx.now.conn.now in
    let made = state g.S.Store c.make_domain_tables.new.tx.conn.now in
    let named = state g.S.Store c.put_domain.new.tx.conn.now in
    let told = state g.S.Store c.put_policy_of.new.tx.conn.now in
    let office = office_in c.args.maps.now in
    let langs = c.args.langs.now in
    write_told old told {F = Failure} c.in_ok-put_policy_of.field-0 _ FiguresStay (FollowsLanguages office langs)
    (λ stays. counted_behind main office langs old.now told.now told.now stays (none_there main office langs told.now (search rules)))
    (begins_uncounted old made named told c.in_ok-make_domain_tables.field-0 c.in_ok-put_domain.field-0 c.in_ok-put_policy_of.field-0 c.in_ok-make_domain_tables.ensures.made c.in_ok-put_domain.ensures.put c.in_ok-put_policy_of.ensures.others)

pub returns-in_err-make_domain_tables-clause-disk : goal.returns-in_err-make_domain_tables-clause-disk
returns-in_err-make_domain_tables-clause-disk g c =
    let made = state g.S.Store c.make_domain_tables.new.tx.conn.now in
    error_told (state g.S.Store c.args.tx.now.conn.now) made _ c.from_residual.result c.from_residual.ensures.1 (blames_of_lost {A = ℕ} (state g.S.Store c.args.tx.now.conn.now) made (Err c.in_err-make_domain_tables.field-0.0) c.in_err-make_domain_tables.ensures.errors)

pub returns-in_err-put_domain-clause-disk : goal.returns-in_err-put_domain-clause-disk
returns-in_err-put_domain-clause-disk g c =
    let made = state g.S.Store c.make_domain_tables.new.tx.conn.now in
    let named = state g.S.Store c.put_domain.new.tx.conn.now in
    fails_behind (state g.S.Store c.args.tx.now.conn.now) made named (λ _. ⊥) (λ _. ⊥) c.from_residual-in_err-put_domain.result c.in_ok-make_domain_tables.ensures.made.survives c.in_err-put_domain.ensures.put.survives
    (error_told made named _ c.from_residual-in_err-put_domain.result c.from_residual-in_err-put_domain.ensures.1 c.in_err-put_domain.ensures.disk)

pub returns-in_err-put_policy_of-clause-disk : goal.returns-in_err-put_policy_of-clause-disk
returns-in_err-put_policy_of-clause-disk g c =
    let named = state g.S.Store c.put_domain.new.tx.conn.now in
    let told = state g.S.Store c.put_policy_of.new.tx.conn.now in
    let both = survives_both g.S.Store c.args.tx.now.conn.now c.make_domain_tables.new.tx.conn.now c.put_domain.new.tx.conn.now c.in_ok-make_domain_tables.ensures.made.survives c.in_ok-put_domain.ensures.put.survives in
    fails_behind (state g.S.Store c.args.tx.now.conn.now) named told (λ _. ⊥) (λ _. ⊥) c.from_residual-in_err-put_policy_of.result both c.in_err-put_policy_of.ensures.put.survives
    (error_told named told _ c.from_residual-in_err-put_policy_of.result c.from_residual-in_err-put_policy_of.ensures.1 c.in_err-put_policy_of.ensures.disk)

pub returns-in-Some-clause-disk : goal.returns-in-Some-clause-disk
returns-in-Some-clause-disk g c =
    let both = survives_both g.S.Store c.args.tx.now.conn.now c.make_domain_tables.new.tx.conn.now c.put_domain.new.tx.conn.now c.in_ok-make_domain_tables.ensures.made.survives c.in_ok-put_domain.ensures.put.survives in
    let all = survives_both g.S.Store c.args.tx.now.conn.now c.put_domain.new.tx.conn.now c.put_policy_of.new.tx.conn.now both c.in_ok-put_policy_of.ensures.put.survives in
    fails_behind (state g.S.Store c.args.tx.now.conn.now) (state g.S.Store c.put_policy_of.new.tx.conn.now) (state g.S.Store c.write_project.new.tx.conn.now) (λ _. ⊥) (λ _. ⊥) c.write_project.result all c.write_project.ensures.put.survives c.write_project.ensures.disk
