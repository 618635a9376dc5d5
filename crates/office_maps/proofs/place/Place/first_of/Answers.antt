use Rattle.std.proofs.Common.{None}
use Rattle.office_maps.proofs.place.Place.first_of.Goals as goal

pub returns-clause-lang : goal.returns-clause-lang
returns-clause-lang c = c.in_ok-duplicate.ensures

pub returns-clause-key : goal.returns-clause-key
returns-clause-key c = λ i. record { ctx = None; id = c.empty.ensures i }
