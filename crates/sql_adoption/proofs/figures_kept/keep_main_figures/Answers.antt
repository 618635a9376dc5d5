use Rattle.sqlite.specs.Held.{state}
use Rattle.office_maps.specs.OfficeIn.{office_in}
use Rattle.sql_adoption.proofs.FiguresKept.{figures_found, figures_in_vain}
use Rattle.sql_adoption.proofs.OpensBlame.{never_opens, statement_opens}
use Rattle.sql_adoption.proofs.figures_kept.keep_main_figures.Goals as goal

pub returns-clause-found : goal.returns-clause-found
returns-clause-found g c =
    figures_found (state g.S.Store c.args.connection.now) (state g.S.Store c.look_up_main_figures.new.connection) c.in_ok-rows.rows (office_in c.args.read.now.maps) c.requires.idle c.in_ok-rows.ensures.found
    c.test_figures.result c.test_figures.ensures.shown

pub returns-clause-refused : goal.returns-clause-refused
returns-clause-refused g c =
    figures_in_vain (state g.S.Store c.args.connection.now) (state g.S.Store c.look_up_main_figures.new.connection) c.in_ok-rows.rows (office_in c.args.read.now.maps) c.requires.idle c.in_ok-rows.ensures.found
    c.test_figures.result c.test_figures.ensures.refused

pub returns-in_err-rows-clause-disk : goal.returns-in_err-rows-clause-disk
returns-in_err-rows-clause-disk g c = statement_opens (state g.S.Store c.args.connection.now) (state g.S.Store c.look_up_main_figures.new.connection) _ c.from_residual.result c.from_residual.ensures.1 c.in_err-rows.ensures.disk

pub returns-clause-disk : goal.returns-clause-disk
returns-clause-disk g c = never_opens (state g.S.Store c.args.connection.now) (state g.S.Store c.look_up_main_figures.new.connection) c.test_figures.result c.test_figures.ensures.disk
