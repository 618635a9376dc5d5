use Rattle.std.proofs.Common.{rules}
use Rattle.http_api.proofs.refusals.refusal_body.Goals as goal

pub returns-in-LongExport : goal.returns-in-LongExport
returns-in-LongExport c = search rules
