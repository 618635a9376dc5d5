use Rattle.std.proofs.Common.{rules}
use Rattle.sql_adoption.proofs.faults.OpenFault.number.Goals as goal

pub returns-in-Foreign : goal.returns-in-Foreign
returns-in-Foreign c = search rules
