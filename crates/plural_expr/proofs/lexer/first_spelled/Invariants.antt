use Rattle.std.proofs.Common.{◌≡◌, nat_eq, map, drop}
use Rattle.std.specs.List.{find, starts_with}
use Rattle.plural_expr.specs.Tokens.{Written}
use Rattle.plural_expr.specs.PlainTrees.{spelled}
use Rattle.plural_expr.proofs.lexer.first_spelled.Given as goal

-- none of the spellings so far stands at the front
abbrev pub invariant-loop-spelling : goal.invariant-loop-spelling
invariant-loop-spelling l =
    find (λ (w : Written). starts_with nat_eq l.text w.0) (map spelled l.table)
    ≡ find (λ (w : Written). starts_with nat_eq l.text w.0) (map spelled (drop l.spelling-index l.table))
