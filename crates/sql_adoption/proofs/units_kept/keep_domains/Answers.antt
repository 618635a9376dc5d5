use Rattle.std.proofs.Common.{◌≡◌, List, Ok, Err, Vec, Global, subst, rules}
use Rattle.std.proofs.lemmas.Result.{err_from_is_err_and}
use Rattle.sqlite.specs.Held.{state}
use Rattle.po_text.specs.Texts.{Text}
use Rattle.office_maps.specs.OfficeIn.{office_in}
use Rattle.sql_schema.specs.Whole.{IsLookUp}
use Rattle.sql_adoption.specs.FigureRows.{AreCounted, places_of}
use Rattle.sql_adoption.specs.FramesKept.{KeepsFrame, KeepsThere, RefusesEither, StandsFrame, StandsThere, TestsDomains, walked_counts}
use Rattle.sql_adoption.specs.declared.faults.OpenFault.{OpenFault}
use Rattle.sql_adoption.specs.declared.language_tallies.Counted.{Counted}
use Rattle.sql_layouts.proofs.Looked.{both_looked, idle_still, looked_failed}
use Rattle.sql_adoption.proofs.LanguagesTold.{all_domains, DomainsSoFar, either_less, no_domain_tested, one_domain_more, OneDomain}
use Rattle.sql_adoption.proofs.LooksBehind.{refused_behind}
use Rattle.sql_adoption.proofs.OpensBlame.{fault_opens, opens_behind}
use Rattle.sql_adoption.proofs.units_kept.keep_domains.Goals as goal

pub loop-domain-init : goal.loop-domain-init
loop-domain-init g c =
    no_domain_tested (office_in c.args.frame.now.maps) c.as_slice-domains.result.now c.args.frame.now.langs.items (state g.S.Store c.args.connection.now) c.new-counted.result.items (search rules) c.requires.autocommit c.requires.idle c.requires.is_open

pub loop-domain-preserved : goal.loop-domain-preserved
loop-domain-preserved g c =
    one_domain_more (office_in c.args.frame.now.maps) c.as_slice-domains.result.now c.args.frame.now.langs.items (state g.S.Store c.args.connection.now) (state g.S.Store c.loop-domain.connection) (state g.S.Store c.keep_domain.new.connection)
    c.in_ok-keep_domain.field-0 c.loop-domain.domain-index c.domain-item.result c.loop-domain.counted.items c.keep_domain.new.counted.items c.loop-domain-test.true c.domain-item.is c.loop-domain.invariant c.in_ok-keep_domain.ensures.found

pub keep_domain-requires-clause-idle : goal.keep_domain-requires-clause-idle
keep_domain-requires-clause-idle g c = idle_still (state g.S.Store c.args.connection.now) (state g.S.Store c.loop-domain.connection) {E = OpenFault} (Ok tt) _ c.requires.idle c.loop-domain.invariant

pub keep_domain-requires-clause-is_open : goal.keep_domain-requires-clause-is_open
keep_domain-requires-clause-is_open g c = c.loop-domain.invariant.is_open

pub returns-clause-found : goal.returns-clause-found
returns-clause-found g c =
    let office = office_in c.args.frame.now.maps in
    let langs = c.args.frame.now.langs.items in
    let a = state g.S.Store c.args.connection.now in
    let b = state g.S.Store c.loop-domain.connection in
    let same : c.as_slice-domains.result.now ≡ c.args.frame.now.domains.items = search rules in
    subst (λ (domains : List Text). IsLookUp {E = OpenFault} a b (Ok c.loop-domain.counted) (λ db counted. TestsDomains db office domains × AreCounted (walked_counts db office) (places_of domains langs) counted.items)) same
    (all_domains office c.as_slice-domains.result.now langs a b c.loop-domain.counted c.loop-domain.domain-index (λ (v : Vec Counted Global). v.items) c.loop-domain-test.false c.loop-domain.invariant)

pub returns-in_err-keep_domain-clause-found : goal.returns-in_err-keep_domain-clause-found
returns-in_err-keep_domain-clause-found g c =
    let office = office_in c.args.frame.now.maps in
    let langs = c.args.frame.now.langs.items in
    let domains = c.as_slice-domains.result.now in
    let a = state g.S.Store c.args.connection.now in
    looked_failed a (state g.S.Store c.keep_domain.new.connection) (Err c.in_err-keep_domain.field-0.0) c.from_residual.result _
    (λ db (counted : Vec Counted Global). TestsDomains db office c.args.frame.now.domains.items × AreCounted (walked_counts db office) (places_of c.args.frame.now.domains.items langs) counted.items) c.from_residual.ensures.0
    (both_looked a (state g.S.Store c.loop-domain.connection) (state g.S.Store c.keep_domain.new.connection) {E = OpenFault} tt (Err c.in_err-keep_domain.field-0.0) (DomainsSoFar office domains langs c.loop-domain.domain-index c.loop-domain.counted.items)
    (λ db _. OneDomain office domains langs c.domain-item.result c.loop-domain.counted.items c.keep_domain.new.counted.items db) c.loop-domain.invariant c.in_err-keep_domain.ensures.found)

pub returns-in_err-keep_domain-clause-refused : goal.returns-in_err-keep_domain-clause-refused
returns-in_err-keep_domain-clause-refused g c =
    let p = err_from_is_err_and c.from_residual.result c.from_residual.ensures.1 in
    let office = office_in c.args.frame.now.maps in
    let langs = c.args.frame.now.langs.items in
    let domains = c.as_slice-domains.result.now in
    let domain = c.domain-item.result in
    let a = state g.S.Store c.args.connection.now in
    rw (p.1, p.2) (refused_behind a (state g.S.Store c.loop-domain.connection) (state g.S.Store c.keep_domain.new.connection) tt (Err c.in_err-keep_domain.field-0.0)
    (DomainsSoFar office domains langs c.loop-domain.domain-index c.loop-domain.counted.items) (λ db _. OneDomain office domains langs domain c.loop-domain.counted.items c.keep_domain.new.counted.items db) c.loop-domain.invariant
    c.in_err-keep_domain.ensures.found (λ db fault. RefusesEither (StandsThere db office domain) (KeepsThere db office domain) fault) (λ db fault. RefusesEither (StandsFrame db office) (KeepsFrame db office) fault)
    (λ early fault far. either_less (λ (stands : StandsFrame a.now office). stands domain) (λ (keeps : KeepsFrame a.now office). keeps domain) fault) c.in_err-keep_domain.ensures.refused)

pub returns-in_err-keep_domain-clause-disk : goal.returns-in_err-keep_domain-clause-disk
returns-in_err-keep_domain-clause-disk g c =
    let b = state g.S.Store c.loop-domain.connection in
    let d = state g.S.Store c.keep_domain.new.connection in
    opens_behind (state g.S.Store c.args.connection.now) b d _ _ c.from_residual.result c.loop-domain.invariant.survives c.in_err-keep_domain.ensures.found.survives
    (fault_opens b d _ c.from_residual.result c.from_residual.ensures.1 c.in_err-keep_domain.ensures.disk)
