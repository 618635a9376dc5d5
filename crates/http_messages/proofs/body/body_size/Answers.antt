use Rattle.std.proofs.Common.{rules}
use Rattle.http_messages.proofs.body.body_size.Goals as goal

pub returns-in-Given : goal.returns-in-Given
returns-in-Given c = search rules
