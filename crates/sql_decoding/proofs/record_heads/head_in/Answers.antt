use Rattle.std.proofs.lemmas.Bool.{and_from}
use Rattle.sql_decoding.proofs.record_heads.head_in.Goals as goal

pub returns-clause-stands : goal.returns-clause-stands
returns-clause-stands c = and_from _ _ c.in_ok-number.ensures.stands c.in_ok-status.ensures.stands

pub returns-clause-shown : goal.returns-clause-shown
returns-clause-shown c = λ i. record { number = c.in_ok-number.ensures.shown i; status = c.in_ok-status.ensures.shown i }
