use Rattle.sql_files.proofs.Demo.{demo_rows}
use Rattle.sql_files.proofs.laws.demos_are_rows.Goals as goal

pub returns : goal.returns
returns c = demo_rows
