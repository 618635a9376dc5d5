use Rattle.sql_loading.proofs.office_read.place_in.Goals as goal

pub returns-clause-shown : goal.returns-clause-shown
returns-clause-shown c = λ i. (c.in_ok-lang.ensures.shown i, c.in_ok-key.ensures.shown i)
