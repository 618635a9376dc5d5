use Rattle.std.proofs.Common.{rules, ◌≡◌, ◌<◌, [], length, Ok, sym, subst}
use Rattle.std.proofs.lemmas.Result.{err_from_is_err_and}
use Rattle.sqlite.specs.Held.{state}
use Rattle.office_maps.specs.OfficeIn.{office_in}
use Rattle.sql_schema.specs.Layouts.{rows_named}
use Rattle.sql_schema.specs.Whole.{IsLookUp}
use Rattle.sql_adoption.specs.ReadParts.{part_of}
use Rattle.sql_adoption.specs.Reading.{HoldAll, AddsDomain}
use Rattle.sql_adoption.specs.declared.faults.OpenFault.{OpenFault}
use Rattle.sql_layouts.proofs.Looked.{idle_still, looked_in_vain}
use Rattle.sql_adoption.proofs.DomainsRead.{no_main}
use Rattle.sql_adoption.proofs.OpensBlame.{fault_opens, memory_opens, opens_behind}
use Rattle.sql_adoption.proofs.PutDomains.{none_held}
use Rattle.sql_adoption.proofs.ReadInTurn.{SoFar, AreRead, one_at_hand, all_at_hand, names_looked, one_looked, one_in_vain, one_refused, all_looked}
use Rattle.sql_adoption.proofs.domains_read.read_domains.Goals as goal

pub loop-domain-init : goal.loop-domain-init
loop-domain-init g c =
    let old = state g.S.Store c.args.connection.now in
    let mid = state g.S.Store c.read_names.new.connection in
    let office = office_in c.in_ok-maps.maps in
    let same : c.as_slice-names.result.now ≡ c.in_ok-domains.domains.items = search rules in
    record {
      looked = subst (λ names. IsLookUp {E = OpenFault} old mid (Ok tt) (SoFar c.args.part names [] office)) (sym same)
          (names_looked c.args.part old mid c.in_ok-domains.domains (λ v. v.items) office c.in_ok-maps.ensures c.in_ok-domains.ensures.found);
      all = none_held office c.new-langs.result.items c.in_ok-maps.ensures (search rules);
    }

pub loop-domain-preserved : goal.loop-domain-preserved
loop-domain-preserved g c =
    let names = c.as_slice-names.result.now in
    let i = c.loop-domain.domain-index in
    record {
      looked = one_looked c.args.part (state g.S.Store c.args.connection.now) (state g.S.Store c.loop-domain.connection) (state g.S.Store c.read_domain.new.connection) names i c.loop-domain.maps c.loop-domain.invariant.looked
          c.in_ok-read_domain.field-0 c.domain-item.result c.read_domain.new.maps c.loop-domain-test.true c.domain-item.is c.in_ok-read_domain.ensures.found;
      all = one_at_hand (office_in c.read_domain.new.maps) names c.read_domain.new.langs.items i c.domain-item.result c.loop-domain-test.true c.domain-item.is
          (c.in_ok-read_domain.ensures.all _ c.loop-domain.invariant.all);
    }

pub read_domain-requires-clause-idle : goal.read_domain-requires-clause-idle
read_domain-requires-clause-idle g c =
    idle_still (state g.S.Store c.args.connection.now) (state g.S.Store c.loop-domain.connection) {E = OpenFault} (Ok tt) _ c.requires.idle c.loop-domain.invariant.looked

pub returns-clause-found : goal.returns-clause-found
returns-clause-found g c =
    let names = c.as_slice-names.result.now in
    let same : names ≡ c.in_ok-domains.domains.items = search rules in
    let some : 0 < length c.in_ok-domains.domains.items = search rules in
    all_looked c.args.part (state g.S.Store c.args.connection.now) (state g.S.Store c.loop-domain.connection) names c.loop-domain.domain-index
    (record { maps = c.loop-domain.maps; domains = c.in_ok-domains.domains; langs = c.loop-domain.langs }) c.requires.idle (subst (λ l. 0 < length l) (sym same) some) c.loop-domain-test.false
    c.loop-domain.invariant.looked

pub returns-clause-holds : goal.returns-clause-holds
returns-clause-holds g c =
    let names = c.as_slice-names.result.now in
    let same : names ≡ c.in_ok-domains.domains.items = search rules in
    subst (λ l. HoldAll (office_in c.loop-domain.maps) l c.loop-domain.langs.items) same
    (all_at_hand (office_in c.loop-domain.maps) names c.loop-domain.langs.items c.loop-domain.domain-index c.loop-domain-test.false c.loop-domain.invariant.all)

pub returns-in_err-read_domain-clause-found : goal.returns-in_err-read_domain-clause-found
returns-in_err-read_domain-clause-found g c =
    let p = err_from_is_err_and c.from_residual-in_err-read_domain.result c.from_residual-in_err-read_domain.ensures.1 in
    rw (p.1, p.2) (one_in_vain c.args.part (state g.S.Store c.args.connection.now) (state g.S.Store c.loop-domain.connection) (state g.S.Store c.read_domain.new.connection) c.as_slice-names.result.now
    c.loop-domain.domain-index c.loop-domain.maps c.loop-domain.invariant.looked c.in_err-read_domain.field-0.0
    (λ db _. AddsDomain c.domain-item.result (part_of c.args.part (rows_named db)) c.loop-domain.maps c.read_domain.new.maps) c.in_err-read_domain.ensures.found _)

pub returns-in_err-read_domain-clause-refused : goal.returns-in_err-read_domain-clause-refused
returns-in_err-read_domain-clause-refused g c =
    let p = err_from_is_err_and c.from_residual-in_err-read_domain.result c.from_residual-in_err-read_domain.ensures.1 in
    rw (p.1, p.2) (one_refused c.args.part (state g.S.Store c.args.connection.now) (state g.S.Store c.loop-domain.connection) (state g.S.Store c.read_domain.new.connection) c.as_slice-names.result.now
    c.loop-domain.domain-index c.loop-domain.maps c.loop-domain.invariant.looked c.in_err-read_domain.field-0.0
    (λ db _. AddsDomain c.domain-item.result (part_of c.args.part (rows_named db)) c.loop-domain.maps c.read_domain.new.maps) c.in_err-read_domain.ensures.found c.in_err-read_domain.ensures.refused)

pub returns-in_err-maps-clause-found : goal.returns-in_err-maps-clause-found
returns-in_err-maps-clause-found g c =
    let p = err_from_is_err_and c.from_residual-in_err-maps.result c.from_residual-in_err-maps.ensures.1 in
    rw (p.1) (looked_in_vain (state g.S.Store c.args.connection.now) (state g.S.Store c.read_names.new.connection) {E = OpenFault} (Ok c.in_ok-domains.domains) _ _ (AreRead c.args.part) c.in_ok-domains.ensures.found)

pub returns-then-is_empty-clause-found : goal.returns-then-is_empty-clause-found
returns-then-is_empty-clause-found g c =
    looked_in_vain (state g.S.Store c.args.connection.now) (state g.S.Store c.read_names.new.connection) {E = OpenFault} (Ok c.in_ok-domains.domains) _ _ (AreRead c.args.part) c.in_ok-domains.ensures.found

pub returns-then-is_empty-clause-refused : goal.returns-then-is_empty-clause-refused
returns-then-is_empty-clause-refused g c =
    let none : length c.in_ok-domains.domains.items ≡ 0 = search rules in
    λ clean. no_main (state g.S.Store c.args.connection.now).now c.in_ok-domains.domains.items (c.in_ok-domains.ensures.found.answer clean) none

pub returns-in_err-domains-clause-disk : goal.returns-in_err-domains-clause-disk
returns-in_err-domains-clause-disk g c = fault_opens (state g.S.Store c.args.connection.now) (state g.S.Store c.read_names.new.connection) _ c.from_residual.result c.from_residual.ensures.1 c.in_err-domains.ensures.disk

pub returns-then-is_empty-clause-disk : goal.returns-then-is_empty-clause-disk
returns-then-is_empty-clause-disk g c = λ clean same. absurd cc

pub returns-in_err-maps-clause-disk : goal.returns-in_err-maps-clause-disk
returns-in_err-maps-clause-disk g c = memory_opens (state g.S.Store c.args.connection.now) (state g.S.Store c.read_names.new.connection) c.from_residual-in_err-maps.result c.from_residual-in_err-maps.ensures.1

pub returns-in_err-read_domain-clause-disk : goal.returns-in_err-read_domain-clause-disk
returns-in_err-read_domain-clause-disk g c =
    let old = state g.S.Store c.args.connection.now in
    let mid = state g.S.Store c.loop-domain.connection in
    let new = state g.S.Store c.read_domain.new.connection in
    opens_behind old mid new _ _ c.from_residual-in_err-read_domain.result c.loop-domain.invariant.looked.survives c.in_err-read_domain.ensures.found.survives
    (fault_opens mid new _ c.from_residual-in_err-read_domain.result c.from_residual-in_err-read_domain.ensures.1 c.in_err-read_domain.ensures.disk)
