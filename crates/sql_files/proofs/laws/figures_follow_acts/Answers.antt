use Rattle.sql_files.proofs.FiguresKept.{act_figures, change_figures}
use Rattle.sql_files.proofs.laws.figures_follow_acts.Goals as goal

pub returns-clause-unit : goal.returns-clause-unit
returns-clause-unit c = act_figures

pub returns-clause-office : goal.returns-clause-office
returns-clause-office c = change_figures
