use Rattle.sql_files.proofs.UnitKept.{unit_keeps, write_keeps}
use Rattle.sql_files.proofs.laws.units_keep_rows.Goals as goal

pub returns-clause-unit : goal.returns-clause-unit
returns-clause-unit c = unit_keeps

pub returns-clause-write : goal.returns-clause-write
returns-clause-write c = write_keeps
