use Rattle.std.proofs.Common.{rules}
use Rattle.request_book.proofs.fault.RequestFault.number.Goals as goal

pub returns-in-Memory : goal.returns-in-Memory
returns-in-Memory c = search rules
