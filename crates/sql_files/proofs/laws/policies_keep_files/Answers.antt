use Rattle.sql_files.proofs.PolicyKept.{policy_keeps}
use Rattle.sql_files.proofs.laws.policies_keep_files.Goals as goal

pub returns : goal.returns
returns c = policy_keeps
