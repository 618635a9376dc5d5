use Rattle.sql_loading.proofs.office_tables.put_policy.Goals as goal

pub returns-clause-shown : goal.returns-clause-shown
returns-clause-shown c = λ domain office project is i. record (is i) { policy = c.in_ok-maps.ensures.shown i }
