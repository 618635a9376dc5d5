use Rattle.std.proofs.Common.{Ok, refl}
use Rattle.sqlite.specs.Held.{state}
use Rattle.sql_streams.specs.declared.walking.WalkFault.{WalkFault}
use Rattle.sql_schema.specs.Layouts.{rows_named}
use Rattle.sql_decoding.specs.declared.faults.Failure.{Failure}
use Rattle.sql_adoption.specs.declared.own_domains.Named.{Named}
use Rattle.sql_adoption.specs.OwnedRows.{AreOwnedAmong}
use Rattle.sql_layouts.proofs.Looked.{walked_on, looked_failed}
use Rattle.sql_adoption.proofs.OwnDomains.{walk_told, walk_refused}
use Rattle.sql_adoption.proofs.OpensBlame.{walk_opens}
use Rattle.sql_adoption.proofs.own_domains.hold_owners.Goals as goal

pub returns : goal.returns
returns g c =
    let old = state g.S.Store c.args.connection.now in
    let domains = c.args.domains.now in
    record {
      tests = record {
        found = walked_on old (state g.S.Store c.walk_owners.new.connection) {E = WalkFault Failure} _ (Ok _) _ (λ db _. AreOwnedAmong domains c.args.table (rows_named db)) c.in_ok-walk_owners.ensures.looked (λ clean early is_open.
            let gave = c.in_ok-walk_owners.ensures.handed clean in
            walk_told old.now domains c.args.table gave.rows gave.answer gave.took.named);
        refused = tt;
      };
      disk = λ clean. tt;
    }

pub returns-in_err-walk_owners : goal.returns-in_err-walk_owners
returns-in_err-walk_owners g c =
    let old = state g.S.Store c.args.connection.now in
    let domains = c.args.domains.now in
    record {
      tests = record {
        found = looked_failed old (state g.S.Store c.walk_owners.new.connection) _ c.from_residual.result _ (λ db _. AreOwnedAmong domains c.args.table (rows_named db)) c.from_residual.ensures.0 c.in_err-walk_owners.ensures.looked;
        refused = walk_refused old.now domains c.args.table (λ (s : Named). s.domains.now) _ c.walk_owners.new.sink refl c.from_residual.result c.in_err-walk_owners.field-0.0 c.from_residual.ensures.1 c.in_err-walk_owners.ensures.handed;
      };
      disk = walk_opens old (state g.S.Store c.walk_owners.new.connection) c.in_err-walk_owners.field-0.0 c.from_residual.result c.from_residual.ensures.1 c.in_err-walk_owners.ensures.disk;
    }
