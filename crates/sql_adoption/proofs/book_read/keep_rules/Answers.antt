use Rattle.sql_adoption.proofs.OpensBlame.{memory_mild}
use Rattle.sql_adoption.proofs.book_read.keep_rules.Goals as goal

pub returns-then-branch-clause-kept : goal.returns-then-branch-clause-kept
returns-then-branch-clause-kept c = λ book are. (c.in_ok-keeps_rules.ensures book are).0 c.if-branch.true

pub returns-in_err-keeps_rules-clause-disk : goal.returns-in_err-keeps_rules-clause-disk
returns-in_err-keeps_rules-clause-disk c = memory_mild c.from_residual.result c.from_residual.ensures.1

pub returns-else-branch-clause-disk : goal.returns-else-branch-clause-disk
returns-else-branch-clause-disk c = λ same. absurd cc
