use Rattle.store_sql.proofs.approvals.read_approvals.Goals as goal

pub returns : goal.returns
returns g c = record { found = c.count_approvals.ensures.found; disk = c.count_approvals.ensures.disk }
