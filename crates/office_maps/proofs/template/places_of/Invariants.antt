use Rattle.std.proofs.Common.{take}
use Rattle.office_maps.specs.TemplateIndex.{IsIndexOf}
use Rattle.office_maps.proofs.template.places_of.Given as goal

abbrev pub invariant-loop-at : goal.invariant-loop-at
invariant-loop-at l = IsIndexOf (take l.at l.entries) l.places
