use Rattle.std.proofs.lemmas.Result.{err_from_is_err_and}
use Rattle.office_maps.specs.OfficeIn.{office_in}
use Rattle.sql_adoption.proofs.FiguresKept.{shown_refused, others_shown}
use Rattle.sql_adoption.proofs.OpensBlame.{fault_mild}
use Rattle.sql_adoption.proofs.figures_kept.test_figures.Goals as goal

pub returns-then-are-clause-shown : goal.returns-then-are-clause-shown
returns-then-are-clause-shown c = λ is_office. (c.in_ok-are.ensures.told is_office).0 c.if-are.true

pub returns-else-are-clause-refused : goal.returns-else-are-clause-refused
returns-else-are-clause-refused c = others_shown (office_in c.args.read.now.maps) c.args.rows c.in_ok-are.are c.in_ok-are.ensures.told c.if-are.false

pub returns-in_err-are-clause-refused : goal.returns-in_err-are-clause-refused
returns-in_err-are-clause-refused c =
    let p = err_from_is_err_and c.from_residual.result c.from_residual.ensures.1 in
    rw (p.1, p.2) (shown_refused (office_in c.args.read.now.maps) c.args.rows c.in_err-are.field-0.0 c.in_err-are.ensures.refused)

pub returns-in_err-are-clause-disk : goal.returns-in_err-are-clause-disk
returns-in_err-are-clause-disk c = fault_mild _ c.from_residual.result c.from_residual.ensures.1 c.in_err-are.ensures.disk

pub returns-else-are-clause-disk : goal.returns-else-are-clause-disk
returns-else-are-clause-disk c = λ same. absurd cc
