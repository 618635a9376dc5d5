use Rattle.office_maps.specs.OfficeIn.{place_of}
use Rattle.rule_tests.proofs.PlaceTests.{placed_told, unplaced}
use Rattle.rule_tests.proofs.place_rules.is_placed.Goals as goal

pub returns-in-Some : goal.returns-in-Some
returns-in-Some c =
    placed_told c.args.project.now (place_of c.args.place.now) c.args.unit.now c.in-Some.language.now c.hold_all.result c.stands_right.result c.is_unit.result c.in-Some.ensures c.hold_all.ensures
    c.stands_right.ensures c.is_unit.ensures

pub returns-in-None : goal.returns-in-None
returns-in-None c = unplaced c.args.project.now (place_of c.args.place.now) c.args.unit.now c.in-None.ensures
