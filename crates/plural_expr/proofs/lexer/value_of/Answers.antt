use Rattle.std.proofs.Common.{arith}
use Rattle.plural_expr.proofs.Lexed.{value_over}
use Rattle.plural_expr.proofs.lexer.value_of.Goals as goal

pub returns-in_err-checked_mul : goal.returns-in_err-checked_mul
returns-in_err-checked_mul c =
    let over = value_over c.loop-digit.value _ _ _ c.loop-digit.invariant.same c.loop-digit-test.true in
    rw c.from_residual.ensures (λ low. c.in_err-checked_mul.ensures (omega arith))

pub returns-in_err-value : goal.returns-in_err-value
returns-in_err-value c =
    let over = value_over c.loop-digit.value _ _ _ c.loop-digit.invariant.same c.loop-digit-test.true in
    rw c.from_residual-in_err-value.ensures (λ low. c.in_err-value.ensures (omega (arith, c.in_ok-checked_mul.ensures)))
