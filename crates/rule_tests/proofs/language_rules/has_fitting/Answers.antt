use Rattle.rule_tests.proofs.LanguageTests.{fitting_told, none_fits}
use Rattle.rule_tests.proofs.language_rules.has_fitting.Goals as goal

pub returns-in-Some : goal.returns-in-Some
returns-in-Some c = fitting_told c.args.project.now c.args.place.now c.args.entry.now c.in-Some.unit.now c.fits.result c.requires c.in-Some.ensures.value c.fits.ensures

pub returns-in-None : goal.returns-in-None
returns-in-None c = none_fits c.args.project.now c.args.place.now c.args.entry.now c.requires c.in-None.ensures.value
