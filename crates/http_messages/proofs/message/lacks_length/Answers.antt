use Rattle.std.proofs.Common.{rules}
use Rattle.http_messages.proofs.message.lacks_length.Goals as goal

pub returns-in-Requests-Absent : goal.returns-in-Requests-Absent
returns-in-Requests-Absent c = search rules
