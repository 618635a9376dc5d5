use Rattle.sql_files.proofs.ActKept.{act_keeps}
use Rattle.sql_files.proofs.laws.acts_keep_files.Goals as goal

pub returns : goal.returns
returns c = act_keeps
