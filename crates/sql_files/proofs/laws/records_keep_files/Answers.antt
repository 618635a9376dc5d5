use Rattle.sql_files.proofs.ActKept.{record_keeps}
use Rattle.sql_files.proofs.laws.records_keep_files.Goals as goal

pub returns : goal.returns
returns c = record_keeps
