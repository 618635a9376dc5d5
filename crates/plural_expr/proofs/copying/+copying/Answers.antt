use Rattle.std.proofs.Common.{rules}
use Rattle.plural_expr.proofs.copying.+copying.Goals as goal

pub copy_of-returns-in_ok-right-in-Binary : goal.copy_of-returns-in_ok-right-in-Binary
copy_of-returns-in_ok-right-in-Binary t c = search rules
