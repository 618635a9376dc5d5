use Rattle.std.proofs.Common.{rules}
use Rattle.plural_expr.proofs.rule.PluralForms.serves_one.Goals as goal

pub returns-in-Some : goal.returns-in-Some
returns-in-Some c = search rules
