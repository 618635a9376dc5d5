use Rattle.std.proofs.Common.{◌≡◌, length}
use Rattle.plural_expr.specs.Tokens.{tokens_of}
use Rattle.plural_expr.proofs.Lexed.{after_tokens}
use Rattle.plural_expr.proofs.lexer.tokens.Given as goal

-- the tokens so far, and those of what is left
abbrev pub invariant-loop-rest : goal.invariant-loop-rest
invariant-loop-rest l = after_tokens l.tokens.items (tokens_of l.rest) ≡ tokens_of l.text

abbrev pub decreases-loop-rest : goal.decreases-loop-rest
decreases-loop-rest l = length l.rest
