use Rattle.sql_files.proofs.Refused.{adopted_file}
use Rattle.sql_files.proofs.laws.whatever_is_adopted.Goals as goal

pub returns : goal.returns
returns c = adopted_file
