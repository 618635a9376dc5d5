use Rattle.std.proofs.lemmas.Result.{err_from_is_err_and}
use Rattle.sqlite.specs.Effect.{Database}
use Rattle.sqlite.specs.Held.{state}
use Rattle.sql_schema.specs.Layouts.{by_domain, rows_named}
use Rattle.sql_meaning.specs.Domains.{HoldsOwnDomains}
use Rattle.sql_statements.specs.WholeOffice.{without_units}
use Rattle.sql_adoption.specs.Reading.{AreDomainsRead, RefusesOf}
use Rattle.sql_adoption.specs.WalkedOffice.{IsFrameOf}
use Rattle.sql_adoption.specs.declared.office_put.ReadOffice.{ReadOffice}
use Rattle.sql_layouts.proofs.Looked.{both_looked, idle_still, looked_failed, looked_weaker}
use Rattle.sql_adoption.proofs.LooksBehind.{refused_behind}
use Rattle.sql_adoption.proofs.ReadByDomain.{others_there}
use Rattle.sql_adoption.proofs.OpensBlame.{fault_opens, opens_behind}
use Rattle.sql_adoption.proofs.walked_office.read_frame.Goals as goal

pub read_domains-requires-clause-idle : goal.read_domains-requires-clause-idle
read_domains-requires-clause-idle g c = idle_still (state g.S.Store c.args.connection.now) (state g.S.Store c.hold_own_domains.new.connection) _ _ c.requires.idle c.in_ok-hold_own_domains.ensures.tests.found

pub returns-clause-found : goal.returns-clause-found
returns-clause-found g c =
    let a = state g.S.Store c.args.connection.now in
    let d = state g.S.Store c.read_domains.new.connection in
    let Own : Database → Type 0 = λ db. HoldsOwnDomains (rows_named db) in
    let Read : Database → ReadOffice → Type 0 = λ db read. AreDomainsRead (without_units (rows_named db)) read in
    looked_weaker a d c.read_domains.result (λ db read. Own db × Read db read) IsFrameOf (λ db read it. record { own = it.0; read = it.1 })
    (both_looked a (state g.S.Store c.hold_own_domains.new.connection) d _ c.read_domains.result (λ db _. Own db) Read c.in_ok-hold_own_domains.ensures.tests.found c.read_domains.ensures.found)

pub returns-clause-refused : goal.returns-clause-refused
returns-clause-refused g c =
    refused_behind (state g.S.Store c.args.connection.now) (state g.S.Store c.hold_own_domains.new.connection) (state g.S.Store c.read_domains.new.connection) _ c.read_domains.result (λ db _. HoldsOwnDomains (rows_named db))
    (λ db read. AreDomainsRead (without_units (rows_named db)) read) c.in_ok-hold_own_domains.ensures.tests.found c.read_domains.ensures.found (RefusesOf by_domain) (RefusesOf by_domain) (λ early fault own refused. refused) c.read_domains.ensures.refused

pub returns-in_err-hold_own_domains-clause-found : goal.returns-in_err-hold_own_domains-clause-found
returns-in_err-hold_own_domains-clause-found g c =
    looked_failed (state g.S.Store c.args.connection.now) (state g.S.Store c.hold_own_domains.new.connection) _ c.from_residual.result _ IsFrameOf c.from_residual.ensures.0 c.in_err-hold_own_domains.ensures.tests.found

pub returns-in_err-hold_own_domains-clause-refused : goal.returns-in_err-hold_own_domains-clause-refused
returns-in_err-hold_own_domains-clause-refused g c =
    let p = err_from_is_err_and c.from_residual.result c.from_residual.ensures.1 in
    rw (p.1, p.2) (λ clean. others_there (state g.S.Store c.args.connection.now).now c.in_err-hold_own_domains.field-0.0 (c.in_err-hold_own_domains.ensures.tests.refused clean))

pub returns-in_err-hold_own_domains-clause-disk : goal.returns-in_err-hold_own_domains-clause-disk
returns-in_err-hold_own_domains-clause-disk g c = fault_opens (state g.S.Store c.args.connection.now) (state g.S.Store c.hold_own_domains.new.connection) _ c.from_residual.result c.from_residual.ensures.1 c.in_err-hold_own_domains.ensures.disk

pub returns-clause-disk : goal.returns-clause-disk
returns-clause-disk g c =
    opens_behind (state g.S.Store c.args.connection.now) (state g.S.Store c.hold_own_domains.new.connection) (state g.S.Store c.read_domains.new.connection) _ _ c.read_domains.result c.in_ok-hold_own_domains.ensures.tests.found.survives c.read_domains.ensures.found.survives
    c.read_domains.ensures.disk
