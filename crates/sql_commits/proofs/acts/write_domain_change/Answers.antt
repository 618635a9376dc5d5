use Rattle.std.proofs.Common.{subst}
use Rattle.sqlite.specs.Held.{state}
use Rattle.sql_schema.specs.Inside.{IsInsideOf}
use Rattle.sql_schema.specs.Layouts.{by_domain}
use Rattle.sql_changes.specs.Commits.{WritesLanguage, WritesTemplate}
use Rattle.sql_commits.proofs.acts.write_domain_change.Goals as goal
use Rattle.sql_figures.specs.Figures.{with_tallies, FiguresFollow}
use Rattle.sql_changes.specs.OnDomains.{OnDomain}

pub returns-in-NewLanguage-clause-put : goal.returns-in-NewLanguage-clause-put
returns-in-NewLanguage-clause-put g c =
    let old = state g.S.Store c.args.tx.now.conn.now in
    let new = state g.S.Store c.write_language.new.tx.conn.now in
    let lang = c.in-NewLanguage.lang in
    let header = c.in-NewLanguage.language.header in
    rw c.in-NewLanguage.is (subst (λ units. IsInsideOf by_domain old new c.write_language.result (OnDomain c.args.domain.now (WritesLanguage lang header units))) c.as_slice.ensures c.write_language.ensures.put)

pub returns-in-NewTemplate-clause-put : goal.returns-in-NewTemplate-clause-put
returns-in-NewTemplate-clause-put g c =
    let old = state g.S.Store c.args.tx.now.conn.now in
    let new = state g.S.Store c.write_template.new.tx.conn.now in
    let template = c.in-NewTemplate.template in
    rw c.in-NewTemplate.is (subst (λ plans. IsInsideOf by_domain old new c.write_template.result (OnDomain c.args.domain.now (WritesTemplate template plans))) c.as_slice-in-NewTemplate.ensures.value
    (subst (λ entries. IsInsideOf by_domain old new c.write_template.result (OnDomain c.args.domain.now (WritesTemplate entries c.as_slice-in-NewTemplate.result.now))) c.entries.ensures.value c.write_template.ensures.put))

pub returns-in-NewLanguage-clause-figures : goal.returns-in-NewLanguage-clause-figures
returns-in-NewLanguage-clause-figures g c = rw c.in-NewLanguage.is c.write_language.ensures.figures

pub returns-in-NewTemplate-clause-figures : goal.returns-in-NewTemplate-clause-figures
returns-in-NewTemplate-clause-figures g c =
    let old = state g.S.Store c.args.tx.now.conn.now in
    let new = state g.S.Store c.write_template.new.tx.conn.now in
    rw c.in-NewTemplate.is (subst (λ tallies. IsInsideOf by_domain old new c.write_template.result (FiguresFollow (with_tallies c.args.domain.now tallies))) c.as_slice-in-NewTemplate-2.ensures.value c.write_template.ensures.figures)
