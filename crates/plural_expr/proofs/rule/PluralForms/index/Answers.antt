use Rattle.std.proofs.Common.{sym, ◌∙◌, arith}
use Rattle.plural_expr.proofs.Tested.{no_fault_at, below_count_at}
use Rattle.plural_expr.proofs.rule.PluralForms.index.Goals as goal

pub returns-in_err-value-clause-tested : goal.returns-in_err-value-clause-tested
returns-in_err-value-clause-tested c = λ low. absurd (no_fault_at _ c.args.n _ c.self.invariant.sound low (sym c.value.ensures ∙ c.in_err-value.was))

pub returns-else-value-from-clause-tested : goal.returns-else-value-from-clause-tested
returns-else-value-from-clause-tested c = λ low. absurd (omega (arith, below_count_at _ c.args.n _ c.self.invariant.sound low (sym c.value.ensures ∙ c.in_ok-value.was)))
