use Rattle.std.proofs.Common.{arith}
use Rattle.plural_expr.proofs.Lexed.{space_step, token_step, none_step, end_step}
use Rattle.plural_expr.proofs.lexer.tokens.Goals as goal

pub loop-rest-preserved-then-first-eq32 : goal.loop-rest-preserved-then-first-eq32
loop-rest-preserved-then-first-eq32 c = space_step _ c.loop-rest.rest.now _ c.loop-rest.invariant c.in-len1-up.len_at_least c.if-first-eq32.true

pub returns-in_default-token : goal.returns-in_default-token
returns-in_default-token c =
    none_step c.loop-rest.tokens.items c.loop-rest.rest.now _ c.loop-rest.invariant c.in-len1-up.len_at_least c.if-first-eq32.false c.in_default-token.ensures.longest

pub loop-rest-preserved : goal.loop-rest-preserved
loop-rest-preserved c =
    rw c.in_ok-push.ensures.items
    (token_step c.loop-rest.tokens.items c.loop-rest.rest.now _ _ _ c.loop-rest.invariant c.in-len1-up.len_at_least c.if-first-eq32.false c.in-Some.ensures.longest)

pub returns : goal.returns
returns c = end_step c.loop-rest.tokens.items c.loop-rest.rest.now _ c.loop-rest.invariant (omega arith)
