use Rattle.sql_decoding.proofs.DiskFailures.{mild_handed}
use Rattle.sql_commits.proofs.tallies.moved.Goals as goal

pub returns-in_err-moved_count-clause-told : goal.returns-in_err-moved_count-clause-told
returns-in_err-moved_count-clause-told c = mild_handed _ c.from_residual.result c.from_residual.ensures.1 c.in_err-moved_count.ensures.told

pub returns-in_err-moved_count-2-clause-told : goal.returns-in_err-moved_count-2-clause-told
returns-in_err-moved_count-2-clause-told c = mild_handed _ c.from_residual-in_err-moved_count-2.result c.from_residual-in_err-moved_count-2.ensures.1 c.in_err-moved_count-2.ensures.told

pub returns-in_err-moved_count-3-clause-told : goal.returns-in_err-moved_count-3-clause-told
returns-in_err-moved_count-3-clause-told c = mild_handed _ c.from_residual-in_err-moved_count-3.result c.from_residual-in_err-moved_count-3.ensures.1 c.in_err-moved_count-3.ensures.told

pub returns-in_err-moved_count-4-clause-told : goal.returns-in_err-moved_count-4-clause-told
returns-in_err-moved_count-4-clause-told c = mild_handed _ c.from_residual-in_err-moved_count-4.result c.from_residual-in_err-moved_count-4.ensures.1 c.in_err-moved_count-4.ensures.told

pub returns-in_err-moved_count-5-clause-told : goal.returns-in_err-moved_count-5-clause-told
returns-in_err-moved_count-5-clause-told c = mild_handed _ c.from_residual-in_err-moved_count-5.result c.from_residual-in_err-moved_count-5.ensures.1 c.in_err-moved_count-5.ensures.told

pub returns-in_err-moved_count-6-clause-told : goal.returns-in_err-moved_count-6-clause-told
returns-in_err-moved_count-6-clause-told c = mild_handed _ c.from_residual-in_err-moved_count-6.result c.from_residual-in_err-moved_count-6.ensures.1 c.in_err-moved_count-6.ensures.told

pub returns-in_err-moved_count-7-clause-told : goal.returns-in_err-moved_count-7-clause-told
returns-in_err-moved_count-7-clause-told c = mild_handed _ c.from_residual-in_err-moved_count-7.result c.from_residual-in_err-moved_count-7.ensures.1 c.in_err-moved_count-7.ensures.told
