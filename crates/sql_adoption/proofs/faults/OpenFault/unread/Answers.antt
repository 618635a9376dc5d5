use Rattle.std.proofs.Common.{rules}
use Rattle.sql_adoption.proofs.faults.OpenFault.unread.Goals as goal

pub returns-in-Disk : goal.returns-in-Disk
returns-in-Disk c = search rules
