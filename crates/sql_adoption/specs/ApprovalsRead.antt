-- What rows that count the approved units of each domain tell. Only inner clauses and proofs cite this file.
use Rattle.std.specs.Prelude.{◌≡◌, ◌<◌, List, sum_by}
use Rattle.sqlite.specs.Order.{Row}
use Rattle.office_specification.specs.declared.approvals.Approvals.{Approvals}
use Rattle.sql_meaning.specs.Values.{natural_at}
use Rattle.sql_statements.specs.SummedVotes.{most_counted}

-- the sums of both columns, each so small that no count is more than SQL tells
pub record AreToldBy (rows : List Row) (approvals : Approvals) : Type 0 where
  pub approved : approvals.approved ≡ sum_by (natural_at 0) rows
  pub few : approvals.approved < most_counted
  pub at_last : approvals.at_last_revision ≡ sum_by (natural_at 1) rows
  pub few_at_last : approvals.at_last_revision < most_counted
