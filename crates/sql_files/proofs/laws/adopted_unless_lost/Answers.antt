use Rattle.sql_files.proofs.Refused.{lost_alone}
use Rattle.sql_files.proofs.laws.adopted_unless_lost.Goals as goal

pub returns : goal.returns
returns c = lost_alone
