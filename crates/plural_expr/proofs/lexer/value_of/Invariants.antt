use Rattle.std.proofs.Common.{◌≡◌, ◌<◌, ◌^◌, drop}
use Rattle.plural_expr.specs.Tokens.{value_of_digits}
use Rattle.plural_expr.proofs.Lexed.{value_from}
use Rattle.plural_expr.proofs.lexer.value_of.Given as goal

-- the value so far and the digits that are left
abbrev pub invariant-loop-digit : goal.invariant-loop-digit
invariant-loop-digit l = record { fits : l.value < 2 ^ 64; same : value_from l.value (drop l.digit-index l.digits) ≡ value_of_digits l.digits }
