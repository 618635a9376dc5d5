use Rattle.sqlite.specs.Held.{state}
use Rattle.sql_conversion.specs.Conversion.{IsTakenOver, IsGivenBack}
use Rattle.sql_conversion.proofs.TakenOver.{told_ok, told_err, conversion_taken, conversion_given_back, told_truly}
use Rattle.sql_conversion.proofs.taking.convert_adopted.Goals as goal

pub convert-requires-clause-idle : goal.convert-requires-clause-idle
convert-requires-clause-idle g c = c.requires.adopted.idle

pub convert-requires-clause-adopted : goal.convert-requires-clause-adopted
convert-requires-clause-adopted g c = λ clean is_open. c.requires.adopted.adopted clean

pub returns-clause-taken : goal.returns-clause-taken
returns-clause-taken g c =
    let old = state g.S.Store c.args.connection.now in
    let new = state g.S.Store c.convert.new.connection in
    told_ok _ (IsTakenOver old new) c.convert.result c.map_err-done.result c.map_err-done.ensures.cases (conversion_taken old new c.args.adopted c.requires.adopted c.requires.form c.convert.result c.convert.ensures.converted)

pub returns-clause-given_back : goal.returns-clause-given_back
returns-clause-given_back g c =
    let old = state g.S.Store c.args.connection.now in
    let new = state g.S.Store c.convert.new.connection in
    told_err _ (IsGivenBack old new) c.convert.result c.map_err-done.result c.map_err-done.ensures.cases (conversion_given_back old new c.args.adopted c.requires.adopted c.requires.form c.convert.result c.convert.ensures.converted)

pub returns-clause-disk : goal.returns-clause-disk
returns-clause-disk g c =
    told_truly (state g.S.Store c.args.connection.now) (state g.S.Store c.convert.new.connection) c.convert.result c.map_err-done.result c.map_err-done.ensures.cases c.convert.ensures.disk
