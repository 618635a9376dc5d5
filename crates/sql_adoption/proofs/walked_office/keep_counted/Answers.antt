use Rattle.std.proofs.Common.{◌≡◌, true, Ok, Vec, Global, ap, sym, ◌∙◌, rules}
use Rattle.sqlite.specs.Held.{state}
use Rattle.sqlite.specs.Order.{Row}
use Rattle.sqlite.specs.declared.error.Error.{Error}
use Rattle.sql_adoption.specs.FigureRows.{ShowsAllTallies, are_rows_of}
use Rattle.sql_adoption.specs.WalkedOffice.{AreTold}
use Rattle.sql_adoption.specs.declared.faults.OpenFault.TheVariants.{Foreign}
use Rattle.sql_adoption.specs.declared.faults.Mismatch.TheVariants.{OtherFigures}
use Rattle.sql_layouts.proofs.Looked.{looked_in_vain, looked_on}
use Rattle.sql_adoption.proofs.OpensBlame.{statement_opens}
use Rattle.sql_adoption.proofs.walked_office.keep_counted.Goals as goal

pub returns-then-are-clause-found : goal.returns-then-are-clause-found
returns-then-are-clause-found g c =
    let rows = c.in_ok-rows.rows in
    let same : c.as_slice.result.now ≡ rows.items = search rules in
    looked_on (state g.S.Store c.args.connection.now) (state g.S.Store c.look_up_tallies.new.connection) {E = Error} rows (Ok _) (λ db (v : Vec Row Global). ShowsAllTallies db v.items) (λ db _. AreTold c.args.counted.now true db) c.in_ok-rows.ensures.found
    (λ early is_open shows. (rows.items, shows, ap (are_rows_of c.args.counted.now) (sym same) ∙ sym c.are_rows_of-are.ensures ∙ c.if-are.true))

pub returns-else-are-clause-found : goal.returns-else-are-clause-found
returns-else-are-clause-found g c =
    looked_in_vain (state g.S.Store c.args.connection.now) (state g.S.Store c.look_up_tallies.new.connection) {E = Error} _ (Foreign OtherFigures) (λ db (v : Vec Row Global). ShowsAllTallies db v.items) (λ db _. AreTold c.args.counted.now true db)
    c.in_ok-rows.ensures.found

pub returns-else-are-clause-refused : goal.returns-else-are-clause-refused
returns-else-are-clause-refused g c = λ clean.
    let rows = c.in_ok-rows.rows in
    let same : c.as_slice.result.now ≡ rows.items = search rules in
    (rows.items, c.in_ok-rows.ensures.found.answer clean, ap (are_rows_of c.args.counted.now) (sym same) ∙ sym c.are_rows_of-are.ensures ∙ c.if-are.false)

pub returns-in_err-rows-clause-disk : goal.returns-in_err-rows-clause-disk
returns-in_err-rows-clause-disk g c = statement_opens (state g.S.Store c.args.connection.now) (state g.S.Store c.look_up_tallies.new.connection) _ c.from_residual.result c.from_residual.ensures.1 c.in_err-rows.ensures.disk

pub returns-else-are-clause-disk : goal.returns-else-are-clause-disk
returns-else-are-clause-disk g c = λ clean same. absurd cc
