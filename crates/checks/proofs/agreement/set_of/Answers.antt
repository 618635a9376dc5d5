use Rattle.std.proofs.Common.{rules}
use Rattle.std.proofs.lemmas.List.{get_or_default}
use Rattle.checks.proofs.Members.{has_more}
use Rattle.checks.proofs.agreement.set_of.Goals as goal

pub loop-placeholder-preserved : goal.loop-placeholder-preserved
loop-placeholder-preserved c =
    has_more c.loop-placeholder.set c.insert.new.self c.as_str.result c.args.placeholders.now c.loop-placeholder.placeholder-index c.loop-placeholder-test.true (search (rules, get_or_default)) c.loop-placeholder.invariant c.in_ok-insert.ensures.updates
