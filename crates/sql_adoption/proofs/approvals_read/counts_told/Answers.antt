use Rattle.sql_adoption.proofs.approvals_read.counts_told.Goals as goal

pub returns : goal.returns
returns c = record {
  approved = c.in_ok-approved.ensures.sum;
  few = c.in_ok-approved.ensures.few;
  at_last = c.in_ok-at_last_revision.ensures.sum;
  few_at_last = c.in_ok-at_last_revision.ensures.few;
}
