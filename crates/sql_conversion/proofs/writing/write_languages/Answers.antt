use Rattle.std.proofs.Common.{refl, [], ◌∷◌, Ok, ℕ, ◌+◌, take, subst, ◌∙◌}
use Rattle.std.proofs.lemmas.List.{take_all}
use Rattle.sqlite.specs.Held.{state}
use Rattle.sqlite.specs.declared.error.Error.{Error}
use Rattle.office_maps.specs.OfficeIn.{lent_project, office_in}
use Rattle.sql_decoding.specs.declared.faults.Failure.{Failure}
use Rattle.sql_changes.specs.OnDomains.{OnDomain}
use Rattle.sql_changes.proofs.DomainWrites.{seen, on_domain_then, nothing_on_domain}
use Rattle.sql_figures.proofs.FigureSteps.{nothing_follows}
use Rattle.sql_commits.proofs.WritesInTurn.{nothing_put, write_then, write_told}
use Rattle.sql_conversion.specs.Conversion.{WritesThere, WritesLanguages, FollowsLanguagesIn}
use Rattle.sql_conversion.proofs.WrittenInTurn.{languages_next}
use Rattle.sql_conversion.proofs.LanguagesCounted.{one_more_counted}
use Rattle.sql_decoding.proofs.DiskFailures.{fails_behind, failure_told}
use Rattle.sql_conversion.proofs.writing.write_languages.Goals as goal

pub loop-lang-init : goal.loop-lang-init
loop-lang-init g c =
    let old = state g.S.Store c.args.tx.now.conn.now in
    let domain = c.args.domain.now in
    let None = WritesLanguages (lent_project c.args.project.now) [] in (
      refl,
      nothing_put old {E = Error} 0 (OnDomain domain None) c.requires.steady c.requires.open (nothing_on_domain domain None old.now refl),
      nothing_put old {E = Error} 0 (FollowsLanguagesIn domain (office_in c.args.maps.now) []) c.requires.steady c.requires.open (λ rules. nothing_follows old.now),
    )

pub loop-lang-preserved : goal.loop-lang-preserved
loop-lang-preserved g c =
    let old = state g.S.Store c.args.tx.now.conn.now in
    let domain = c.args.domain.now in
    let mid = state g.S.Store c.loop-lang.tx.conn.now in
    let new = state g.S.Store c.write_language_of.new.tx.conn.now in
    let project = lent_project c.args.project.now in
    let langs = c.args.langs.now in
    let i = c.loop-lang.lang-index in
    let One = OnDomain domain (WritesThere project c.lang-item.result) in
    let Counted = FollowsLanguagesIn domain (office_in c.args.maps.now) in (
      c.in_ok-write_language_of.ensures.same_reference ∙ c.loop-lang.invariant.0,
      write_then old mid new {A = ℕ} {B = ℕ} {E = Error} {F = Error} 0 (Ok 0) (OnDomain domain (WritesLanguages project (take i langs))) One (OnDomain domain (WritesLanguages project (take (i + 1) langs)))
          (on_domain_then domain (WritesLanguages project (take i langs)) (WritesThere project c.lang-item.result) (WritesLanguages project (take (i + 1) langs))
          (languages_next project langs i c.lang-item.result (seen domain old.now) (seen domain mid.now) (seen domain new.now) c.loop-lang-test.true c.lang-item.is))
          c.loop-lang.invariant.1 (write_told mid new {E = Failure} c.in_ok-write_language_of.field-0 0 One One (λ made. made) c.in_ok-write_language_of.ensures.put),
      write_then old mid new {A = ℕ} {B = ℕ} {E = Error} {F = Error} 0 (Ok 0) (Counted (take i langs)) (Counted (c.lang-item.result ∷ [])) (Counted (take (i + 1) langs))
          (one_more_counted domain (office_in c.args.maps.now) langs i c.lang-item.result old.now mid.now new.now c.loop-lang-test.true c.lang-item.is) c.loop-lang.invariant.2
          (write_told mid new {E = Failure} c.in_ok-write_language_of.field-0 0 (Counted (c.lang-item.result ∷ [])) (Counted (c.lang-item.result ∷ [])) (λ made. made) c.in_ok-write_language_of.ensures.figures),
    )

-- all of them
pub returns-clause-figures : goal.returns-clause-figures
returns-clause-figures g c =
    let old = state g.S.Store c.args.tx.now.conn.now in
    let domain = c.args.domain.now in
    let last = state g.S.Store c.loop-lang.tx.conn.now in
    let langs = c.args.langs.now in
    let i = c.loop-lang.lang-index in
    let Counted = FollowsLanguagesIn domain (office_in c.args.maps.now) in
    write_told old last {E = Error} 0 _ (Counted (take i langs)) (Counted langs) (subst (λ ls. Counted ls old.now last.now) (take_all i langs c.loop-lang-test.false)) c.loop-lang.invariant.2

pub returns-in_err-write_language_of-clause-disk : goal.returns-in_err-write_language_of-clause-disk
returns-in_err-write_language_of-clause-disk g c =
    let mid = state g.S.Store c.loop-lang.tx.conn.now in
    let new = state g.S.Store c.write_language_of.new.tx.conn.now in
    fails_behind (state g.S.Store c.args.tx.now.conn.now) mid new (λ _. ⊥) (λ _. ⊥) c.from_residual.result c.loop-lang.invariant.1.survives c.in_err-write_language_of.ensures.put.survives
    (failure_told mid new _ c.from_residual.result c.from_residual.ensures.1 c.in_err-write_language_of.ensures.disk)
