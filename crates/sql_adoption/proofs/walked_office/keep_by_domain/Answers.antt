use Rattle.std.proofs.Common.{true, false, sym, ◌∙◌}
use Rattle.std.proofs.lemmas.Bool.{false≢true}
use Rattle.sqlite.specs.Held.{state}
use Rattle.sql_schema.specs.Layouts.{by_domain}
use Rattle.sql_adoption.specs.Adoption.{IsAdoptedOf}
use Rattle.sql_adoption.specs.Reading.{RefusesOf}
use Rattle.sql_adoption.specs.WalkedOffice.{IsFrameOf}
use Rattle.sql_adoption.specs.declared.faults.OpenFault.{OpenFault}
use Rattle.sql_adoption.specs.declared.faults.OpenFault.TheVariants.{Foreign}
use Rattle.sql_adoption.specs.declared.faults.Mismatch.TheVariants.{BrokenRules}
use Rattle.sql_layouts.proofs.Looked.{both_looked, idle_still, looked_failed, looked_in_vain, looked_ready, looked_weaker}
use Rattle.sql_adoption.proofs.AdoptedByWalks.{few_domains_refused}
use Rattle.sql_adoption.proofs.LooksBehind.{refused_behind}
use Rattle.sql_adoption.proofs.OpensBlame.{fault_opens, opens_behind}
use Rattle.sql_adoption.proofs.walked_office.keep_by_domain.Goals as goal

pub keep_walked-requires-clause-idle : goal.keep_walked-requires-clause-idle
keep_walked-requires-clause-idle g c = idle_still (state g.S.Store c.args.connection.now) (state g.S.Store c.read_frame.new.connection) {E = OpenFault} _ IsFrameOf c.requires.idle c.in_ok-frame.ensures.found

pub keep_walked-requires-clause-is_open : goal.keep_walked-requires-clause-is_open
keep_walked-requires-clause-is_open g c = c.in_ok-frame.ensures.found.is_open

pub keep_walked-requires-clause-few : goal.keep_walked-requires-clause-few
keep_walked-requires-clause-few g c = c.has_few_domains.ensures.0 c.if-not-has_few_domains.false

pub returns-clause-found : goal.returns-clause-found
returns-clause-found g c =
    let a = state g.S.Store c.args.connection.now in
    let d = state g.S.Store c.keep_walked.new.connection in
    let frame = c.in_ok-frame.frame in
    looked_weaker a d c.keep_walked.result (λ db _. IsFrameOf db frame × (IsFrameOf db frame → IsAdoptedOf by_domain db)) (λ db _. IsAdoptedOf by_domain db) (λ db u it. it.1 it.0)
    (both_looked a (state g.S.Store c.read_frame.new.connection) d {E = OpenFault} frame c.keep_walked.result IsFrameOf (λ db _. IsFrameOf db frame → IsAdoptedOf by_domain db) c.in_ok-frame.ensures.found c.keep_walked.ensures.found)

pub returns-clause-refused : goal.returns-clause-refused
returns-clause-refused g c =
    let frame = c.in_ok-frame.frame in
    refused_behind (state g.S.Store c.args.connection.now) (state g.S.Store c.read_frame.new.connection) (state g.S.Store c.keep_walked.new.connection) frame c.keep_walked.result IsFrameOf
    (λ db _. IsFrameOf db frame → IsAdoptedOf by_domain db) c.in_ok-frame.ensures.found c.keep_walked.ensures.found (λ db fault. IsFrameOf db frame → RefusesOf by_domain db fault) (RefusesOf by_domain) (λ early fault is refused. refused is)
    c.keep_walked.ensures.refused

pub returns-then-not-has_few_domains-clause-found : goal.returns-then-not-has_few_domains-clause-found
returns-then-not-has_few_domains-clause-found g c =
    looked_in_vain (state g.S.Store c.args.connection.now) (state g.S.Store c.read_frame.new.connection) {E = OpenFault} _ (Foreign BrokenRules) IsFrameOf (λ db _. IsAdoptedOf by_domain db) c.in_ok-frame.ensures.found

pub returns-then-not-has_few_domains-clause-refused : goal.returns-then-not-has_few_domains-clause-refused
returns-then-not-has_few_domains-clause-refused g c = λ clean.
    let a = state g.S.Store c.args.connection.now in
    let frame = c.in_ok-frame.frame in
    few_domains_refused a.now (looked_ready a (state g.S.Store c.read_frame.new.connection) frame IsFrameOf c.requires.idle c.in_ok-frame.ensures.found clean) frame c.in_ok-frame.ensures.holds (c.in_ok-frame.ensures.found.answer clean)
    (λ few. false≢true (sym c.if-not-has_few_domains.true ∙ c.has_few_domains.ensures.1 few))

pub returns-in_err-frame-clause-found : goal.returns-in_err-frame-clause-found
returns-in_err-frame-clause-found g c =
    looked_failed (state g.S.Store c.args.connection.now) (state g.S.Store c.read_frame.new.connection) _ c.from_residual.result IsFrameOf (λ db _. IsAdoptedOf by_domain db) c.from_residual.ensures.0 c.in_err-frame.ensures.found

pub returns-in_err-frame-clause-disk : goal.returns-in_err-frame-clause-disk
returns-in_err-frame-clause-disk g c = fault_opens (state g.S.Store c.args.connection.now) (state g.S.Store c.read_frame.new.connection) _ c.from_residual.result c.from_residual.ensures.1 c.in_err-frame.ensures.disk

pub returns-then-not-has_few_domains-clause-disk : goal.returns-then-not-has_few_domains-clause-disk
returns-then-not-has_few_domains-clause-disk g c = λ clean same. absurd cc

pub returns-clause-disk : goal.returns-clause-disk
returns-clause-disk g c =
    opens_behind (state g.S.Store c.args.connection.now) (state g.S.Store c.read_frame.new.connection) (state g.S.Store c.keep_walked.new.connection) _ _ c.keep_walked.result c.in_ok-frame.ensures.found.survives c.keep_walked.ensures.found.survives c.keep_walked.ensures.disk
