use Rattle.office_maps.proofs.unit_parts.with_its_suggestions.Goals as goal

pub returns : goal.returns
returns c = λ i. record (c.unit_of-unit.ensures i) { suggestions = c.in_ok-suggestions.ensures i }
