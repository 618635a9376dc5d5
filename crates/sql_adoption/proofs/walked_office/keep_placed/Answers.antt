use Rattle.std.proofs.Common.{List, Ok, false, sym, ◌∙◌}
use Rattle.sqlite.specs.Held.{state}
use Rattle.sqlite.specs.Order.{Row}
use Rattle.sql_streams.specs.declared.walking.WalkFault.{WalkFault}
use Rattle.sql_decoding.specs.declared.faults.Failure.{Failure}
use Rattle.sql_adoption.specs.Told.{TellsAll}
use Rattle.sql_adoption.specs.WalkedOffice.{ArePlaced}
use Rattle.sql_adoption.specs.declared.faults.OpenFault.TheVariants.{Foreign}
use Rattle.sql_adoption.specs.declared.faults.Mismatch.TheVariants.{BrokenRules}
use Rattle.sql_adoption.specs.declared.unit_sinks.NoRow.{NoRow}
use Rattle.sql_layouts.proofs.Looked.{looked_failed, looked_in_vain, walked_on}
use Rattle.sql_adoption.proofs.WalksCut.{one_unplaced, placed_told, unplaced_cut}
use Rattle.sql_adoption.proofs.OpensBlame.{walk_opens}
use Rattle.sql_adoption.proofs.walked_office.keep_placed.Goals as goal

pub returns-then-rows-clause-found : goal.returns-then-rows-clause-found
returns-then-rows-clause-found g c =
    let old = state g.S.Store c.args.connection.now in
    walked_on old (state g.S.Store c.walk_unplaced.new.connection) {E = WalkFault Failure} _ (Ok _) _ (λ db _. ArePlaced db) c.in_ok-walk_unplaced.ensures.looked (λ clean early is_open.
    let gave = c.in_ok-walk_unplaced.ensures.handed clean in
    placed_told old.now gave.rows gave.answer (sym gave.took ∙ c.if-rows.true))

pub returns-else-rows-clause-found : goal.returns-else-rows-clause-found
returns-else-rows-clause-found g c =
    looked_in_vain (state g.S.Store c.args.connection.now) (state g.S.Store c.walk_unplaced.new.connection) _ (Foreign BrokenRules) _ (λ db _. ArePlaced db) c.in_ok-walk_unplaced.ensures.looked

pub returns-else-rows-clause-refused : goal.returns-else-rows-clause-refused
returns-else-rows-clause-refused g c = λ clean.
    let gave = c.in_ok-walk_unplaced.ensures.handed clean in
    one_unplaced (state g.S.Store c.args.connection.now).now gave.rows gave.answer (sym gave.took ∙ c.if-rows.false)

pub returns-in_err-walk_unplaced-clause-found : goal.returns-in_err-walk_unplaced-clause-found
returns-in_err-walk_unplaced-clause-found g c =
    looked_failed (state g.S.Store c.args.connection.now) (state g.S.Store c.walk_unplaced.new.connection) _ c.from_residual.result _ (λ db _. ArePlaced db) c.from_residual.ensures.0 c.in_err-walk_unplaced.ensures.looked

pub returns-in_err-walk_unplaced-clause-refused : goal.returns-in_err-walk_unplaced-clause-refused
returns-in_err-walk_unplaced-clause-refused g c =
    unplaced_cut (state g.S.Store c.args.connection.now).now (λ (a : NoRow) (rows : List Row) (b : NoRow). TellsAll (λ row. false) a.none rows b.none) _ c.walk_unplaced.new.sink c.from_residual.result c.in_err-walk_unplaced.field-0.0
    c.from_residual.ensures.1 c.in_err-walk_unplaced.ensures.handed

pub returns-in_err-walk_unplaced-clause-disk : goal.returns-in_err-walk_unplaced-clause-disk
returns-in_err-walk_unplaced-clause-disk g c = walk_opens (state g.S.Store c.args.connection.now) (state g.S.Store c.walk_unplaced.new.connection) c.in_err-walk_unplaced.field-0.0 c.from_residual.result c.from_residual.ensures.1 c.in_err-walk_unplaced.ensures.disk

pub returns-else-rows-clause-disk : goal.returns-else-rows-clause-disk
returns-else-rows-clause-disk g c = λ clean same. absurd cc
