use Rattle.sql_commits.proofs.LastPlaces.{behind_last, first_of_none}
use Rattle.sql_commits.proofs.unit_parts.next_place.Goals as goal

pub returns-in-Some-clause-behind : goal.returns-in-Some-clause-behind
returns-in-Some-clause-behind c = behind_last c.args.places.now c.in-Some.row.now c.place_behind.result c.in-Some.ensures.value c.place_behind.ensures.next

pub returns-in-None-clause-behind : goal.returns-in-None-clause-behind
returns-in-None-clause-behind c = first_of_none c.args.places.now c.in-None.ensures.value
