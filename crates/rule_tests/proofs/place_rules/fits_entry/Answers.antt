use Rattle.office_maps.specs.OfficeIn.{lent_project}
use Rattle.rule_tests.proofs.PlaceTests.{entry_told, no_entry_told}
use Rattle.rule_tests.proofs.place_rules.fits_entry.Goals as goal

pub returns-in-Some : goal.returns-in-Some
returns-in-Some c = entry_told (lent_project c.args.project.now).template c.args.place.now.key.key c.args.unit.now c.in-Some.entry.now c.has_plural_of.result c.in-Some.ensures c.has_plural_of.ensures

pub returns-in-None : goal.returns-in-None
returns-in-None c = no_entry_told (lent_project c.args.project.now).template c.args.place.now.key.key c.args.unit.now c.in-None.ensures
