use Rattle.sql_files.proofs.Opened.{opening_rows}
use Rattle.sql_files.proofs.laws.openings_are_rows.Goals as goal

pub returns : goal.returns
returns c = opening_rows
