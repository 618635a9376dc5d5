use Rattle.sql_files.proofs.RoleKept.{role_keeps}
use Rattle.sql_files.proofs.laws.roles_keep_files.Goals as goal

pub returns : goal.returns
returns c = role_keeps
