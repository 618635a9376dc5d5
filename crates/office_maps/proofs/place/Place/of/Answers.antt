use Rattle.office_maps.proofs.place.Place.of.Goals as goal

pub returns-in-Ok-clause-lang : goal.returns-in-Ok-clause-lang
returns-in-Ok-clause-lang c = c.in_ok-lang.ensures

pub returns-in-Ok-clause-key : goal.returns-in-Ok-clause-key
returns-in-Ok-clause-key c = c.in-Ok.ensures
