use Rattle.std.proofs.Common.{sym}
use Rattle.request_book.specs.Fields.{to_request}
use Rattle.request_book.proofs.request.signed.Goals as goal

pub returns-in-Some-Some : goal.returns-in-Some-Some
returns-in-Some-Some c = λ i. to_request (sym c.in-Some-Some.is-0 i) (sym c.in-Some-Some.is-1 i) c.args.parts.act
