use Rattle.office_maps.proofs.template.key_of.Goals as goal

pub returns-in-Ok : goal.returns-in-Ok
returns-in-Ok c = λ i. record { ctx = c.in-Ok.ensures i; id = c.in_ok-id.ensures i }
