use Rattle.std.proofs.Common.{Err}
use Rattle.rule_tests.proofs.ContentTests.{content_told, no_content}
use Rattle.rule_tests.proofs.contents.is_content.Goals as goal

pub returns-in-Ok : goal.returns-in-Ok
returns-in-Ok c = content_told c.args.content.now c.in-Ok.request c.has_content-has.result c.in-Ok.ensures.one c.has_content-has.ensures.has c.has_content-has.ensures.limits

pub returns-in-Err-Malformed : goal.returns-in-Err-Malformed
returns-in-Err-Malformed c = no_content c.args.content.now (c.in-Err-Malformed.ensures.malformed (λ i. Err (c.in-Err-Malformed.field-0-is i)))
