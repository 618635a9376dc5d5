use Rattle.std.proofs.Common.{rules}
use Rattle.http_api.proofs.refusals.refusal_status.Goals as goal

pub returns-in-Memory : goal.returns-in-Memory
returns-in-Memory c = search rules
