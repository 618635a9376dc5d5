use Rattle.office_maps.specs.OfficeIn.{lent_project, place_of}
use Rattle.rule_tests.proofs.PlaceTests.{stands_told}
use Rattle.rule_tests.proofs.place_rules.stands_right.Goals as goal

pub returns : goal.returns
returns c =
    stands_told (lent_project c.args.project.now) (place_of c.args.place.now) c.args.unit.now c.hold_all.result c.has_its_key-keyed.result c.is_exact.result c.is_reviewed.result c.hold_all.ensures
    c.has_its_key-keyed.ensures c.is_exact.ensures c.is_reviewed.ensures
