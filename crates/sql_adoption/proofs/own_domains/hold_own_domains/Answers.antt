use Rattle.std.proofs.Common.{◌≡◌, rules, subst, Vec, Global}
use Rattle.sqlite.specs.Order.{Row}
use Rattle.sqlite.specs.Held.{state}
use Rattle.sqlite.specs.declared.error.Error.{Error}
use Rattle.sql_adoption.specs.OwnedRows.{TestsRows}
use Rattle.sql_layouts.proofs.Looked.{idle_still}
use Rattle.sql_adoption.proofs.OwnDomains.{AllAmong, own_tested, no_domains}
use Rattle.sql_adoption.proofs.OpensBlame.{statement_opens, opens_behind}
use Rattle.sql_adoption.proofs.own_domains.hold_own_domains.Goals as goal

pub returns : goal.returns
returns g c =
    let mid = state g.S.Store c.look_up_domains.new.connection in
    let new = state g.S.Store c.hold_all_owners.new.connection in
    let same : c.as_slice.result.now ≡ c.in_ok-domains.domains.items = search rules in
    record {
      tests = own_tested (state g.S.Store c.args.connection.now) mid new c.in_ok-domains.domains (λ (rows : Vec Row Global). rows.items) c.hold_all_owners.result c.in_ok-domains.ensures.found
          (subst (λ ds. TestsRows (AllAmong ds) mid new c.hold_all_owners.result) same c.hold_all_owners.ensures.tests);
      disk = opens_behind (state g.S.Store c.args.connection.now) mid new _ _ c.hold_all_owners.result c.in_ok-domains.ensures.found.survives c.hold_all_owners.ensures.tests.found.survives c.hold_all_owners.ensures.disk;
    }

pub hold_all_owners-requires-clause-idle : goal.hold_all_owners-requires-clause-idle
hold_all_owners-requires-clause-idle g c = idle_still (state g.S.Store c.args.connection.now) (state g.S.Store c.look_up_domains.new.connection) {E = Error} _ _ c.requires.idle c.in_ok-domains.ensures.found

pub hold_all_owners-requires-clause-is_open : goal.hold_all_owners-requires-clause-is_open
hold_all_owners-requires-clause-is_open g c = c.in_ok-domains.ensures.found.is_open

pub returns-in_err-domains : goal.returns-in_err-domains
returns-in_err-domains g c = record {
  tests = no_domains (state g.S.Store c.args.connection.now) (state g.S.Store c.look_up_domains.new.connection) _ c.from_residual.result _ c.in_err-domains.field-0.0 c.from_residual.ensures.0 c.from_residual.ensures.1 c.in_err-domains.ensures.found;
  disk = statement_opens (state g.S.Store c.args.connection.now) (state g.S.Store c.look_up_domains.new.connection) _ c.from_residual.result c.from_residual.ensures.1 c.in_err-domains.ensures.disk;
}
