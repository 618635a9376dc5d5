use Rattle.plural_expr.proofs.Lexed.{cut_of_digits, cut_of_fixed, cut_some, cut_within}
use Rattle.plural_expr.proofs.lexer.token.Goals as goal

pub returns-else-len-eq0-clause-longest : goal.returns-else-len-eq0-clause-longest
returns-else-len-eq0-clause-longest c = cut_of_digits c.args.text.now _ _ c.leading_digits-len.ensures c.if-len-eq0.false c.number.ensures

pub returns-else-len-eq0-clause-some : goal.returns-else-len-eq0-clause-some
returns-else-len-eq0-clause-some c = cut_some _ _ (cut_of_digits c.args.text.now _ _ c.leading_digits-len.ensures c.if-len-eq0.false c.number.ensures)

pub returns-else-len-eq0-clause-within : goal.returns-else-len-eq0-clause-within
returns-else-len-eq0-clause-within c = cut_within _ _ (cut_of_digits c.args.text.now _ _ c.leading_digits-len.ensures c.if-len-eq0.false c.number.ensures)

pub returns-then-len-eq0-clause-longest : goal.returns-then-len-eq0-clause-longest
returns-then-len-eq0-clause-longest c = cut_of_fixed c.args.text.now _ _ c.leading_digits-len.ensures c.if-len-eq0.true c.fixed_token.ensures

pub returns-then-len-eq0-clause-some : goal.returns-then-len-eq0-clause-some
returns-then-len-eq0-clause-some c = cut_some _ _ (cut_of_fixed c.args.text.now _ _ c.leading_digits-len.ensures c.if-len-eq0.true c.fixed_token.ensures)

pub returns-then-len-eq0-clause-within : goal.returns-then-len-eq0-clause-within
returns-then-len-eq0-clause-within c = cut_within _ _ (cut_of_fixed c.args.text.now _ _ c.leading_digits-len.ensures c.if-len-eq0.true c.fixed_token.ensures)
