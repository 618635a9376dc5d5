use Rattle.office_maps.proofs.Places.{entry_found, no_entry}
use Rattle.office_maps.proofs.template.Template.entry_of.Goals as goal

pub returns-in-Some : goal.returns-in-Some
returns-in-Some c =
    entry_found c.args.self.now.catalogue c.args.self.now.places c.args.self.now.indexed c.args.key.now.key c.in-Some.place.now c.entries.result.now c.get-in-Some.result
    c.in-Some.ensures.value c.entries.ensures.value c.get-in-Some.ensures.lookup

pub returns-in-None : goal.returns-in-None
returns-in-None c = no_entry c.args.self.now.catalogue c.args.self.now.places c.args.self.now.indexed c.args.key.now.key c.in-None.ensures.value
