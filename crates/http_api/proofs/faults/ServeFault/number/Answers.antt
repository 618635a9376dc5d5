use Rattle.std.proofs.Common.{rules}
use Rattle.http_api.proofs.faults.ServeFault.number.Goals as goal

pub returns : goal.returns
returns c = search rules
