use Rattle.std.proofs.Common.{rules, ◌≡◌, ◌&&◌, sym, subst, ◌∙◌}
use Rattle.std.specs.Bool.{Decides}
use Rattle.office_maps.specs.OfficeIn.{office_in}
use Rattle.sql_figures.specs.KeptTallies.{office_counts}
use Rattle.sql_adoption.specs.FigureRows.{ShowFigures}
use Rattle.sql_adoption.proofs.FiguresKept.{both_told, figures_unread}
use Rattle.sql_adoption.proofs.OpensBlame.{memory_mild, unread_mild}
use Rattle.sql_adoption.proofs.figures_kept.are_figures.Goals as goal

pub returns-then-tallies-clause-told : goal.returns-then-tallies-clause-told
returns-then-tallies-clause-told c = λ is_office.
    let counts = office_counts (office_in c.args.read.now.maps) in
    let same : c.as_slice.result.now ≡ c.args.rows.now.tallies.items = search rules in
    subst (λ tallies. Decides (tallies && c.in-Ok.sums) (ShowFigures counts c.args.rows.now)) c.if-tallies.true
    (both_told counts c.args.rows.now c.as_slice.result.now c.in_ok-tallies.tallies c.in-Ok.sums same (c.in_ok-tallies.ensures is_office) c.in-Ok.ensures.told)

pub returns-else-tallies-clause-told : goal.returns-else-tallies-clause-told
returns-else-tallies-clause-told c = λ is_office.
    let counts = office_counts (office_in c.args.read.now.maps) in
    let same : c.as_slice.result.now ≡ c.args.rows.now.tallies.items = search rules in
    subst (λ told. Decides told (ShowFigures counts c.args.rows.now)) ((λ i. c.if-tallies.false i && c.in-Ok.sums) ∙ sym c.if-tallies.false)
    (both_told counts c.args.rows.now c.as_slice.result.now c.in_ok-tallies.tallies c.in-Ok.sums same (c.in_ok-tallies.ensures is_office) c.in-Ok.ensures.told)

pub returns-in-Err-clause-refused : goal.returns-in-Err-clause-refused
returns-in-Err-clause-refused c = figures_unread c.args.rows.now c.in-Err.failure c.unread.result c.unread.ensures c.in-Err.ensures.unread

pub returns-in_err-tallies-clause-disk : goal.returns-in_err-tallies-clause-disk
returns-in_err-tallies-clause-disk c = memory_mild c.from_residual.result c.from_residual.ensures.1

pub returns-in-Err-clause-disk : goal.returns-in-Err-clause-disk
returns-in-Err-clause-disk c = λ same. unread_mild c.in-Err.failure.lost (sym c.unread.ensures ∙ same)
