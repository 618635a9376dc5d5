use Rattle.std.proofs.Common.{rules}
use Rattle.office_maps.proofs.place.PlaceOrd.cmp.Goals as goal

pub returns-in-Equal : goal.returns-in-Equal
returns-in-Equal c = search rules
