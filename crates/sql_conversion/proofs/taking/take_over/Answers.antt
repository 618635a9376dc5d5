use Rattle.sqlite.specs.Held.{state}
use Rattle.sql_conversion.proofs.TakenOver.{all_taken, all_given_back, all_refused, all_truly}
use Rattle.sql_adoption.proofs.OpensBlame.{fault_opens}
use Rattle.sql_conversion.proofs.taking.take_over.Goals as goal

pub returns-clause-taken : goal.returns-clause-taken
returns-clause-taken g c =
    all_taken (state g.S.Store c.args.connection.now) (state g.S.Store c.adopted_office.new.connection) (state g.S.Store c.converted.new.connection) c.adopted_office.ensures.unchanged c.in_ok-adopted.adopted
    c.in_ok-adopted.ensures.adopted c.converted.result c.converted.ensures.taken

pub returns-clause-refused : goal.returns-clause-refused
returns-clause-refused g c =
    all_refused (state g.S.Store c.args.connection.now) (state g.S.Store c.adopted_office.new.connection) (state g.S.Store c.converted.new.connection) c.adopted_office.ensures.unchanged c.in_ok-adopted.adopted
    c.in_ok-adopted.ensures.adopted c.converted.result c.converted.ensures.given_back c.converted.ensures.lost

pub returns-clause-given_back : goal.returns-clause-given_back
returns-clause-given_back g c =
    all_given_back (state g.S.Store c.args.connection.now) (state g.S.Store c.adopted_office.new.connection) (state g.S.Store c.converted.new.connection) c.adopted_office.ensures.unchanged c.in_ok-adopted.adopted
    c.in_ok-adopted.ensures.adopted c.converted.result c.converted.ensures.given_back

pub returns-in_err-adopted-clause-disk : goal.returns-in_err-adopted-clause-disk
returns-in_err-adopted-clause-disk g c = fault_opens (state g.S.Store c.args.connection.now) (state g.S.Store c.adopted_office.new.connection) _ c.from_residual.result c.from_residual.ensures.1 c.in_err-adopted.ensures.disk

pub returns-clause-disk : goal.returns-clause-disk
returns-clause-disk g c =
    all_truly (state g.S.Store c.args.connection.now) (state g.S.Store c.adopted_office.new.connection) (state g.S.Store c.converted.new.connection) c.adopted_office.ensures.unchanged c.in_ok-adopted.adopted c.in_ok-adopted.ensures.adopted c.converted.result c.adopted_office.ensures.counts
    c.converted.ensures.given_back c.converted.ensures.disk
