use Rattle.po_lex.proofs.SliceLemmas.{slice_behind, part_within}
use Rattle.po_lex.proofs.forms.previous_at.Goals as goal

pub returns-clause-slices : goal.returns-clause-slices
returns-clause-slices c = part_within _ c.in-Some.rest.now c.in_ok-part.part (slice_behind _ _ 32 c.in-Some.ensures) c.in_ok-part.ensures.slices
