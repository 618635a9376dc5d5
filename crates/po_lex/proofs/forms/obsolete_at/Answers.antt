use Rattle.po_lex.proofs.SliceLemmas.{slice_behind, ok_within}
use Rattle.po_lex.proofs.forms.obsolete_at.Goals as goal

pub returns-in-Some-clause-slices : goal.returns-in-Some-clause-slices
returns-in-Some-clause-slices c = ok_within _ c.in-Some.rest.now _ (slice_behind _ _ 32 c.in-Some.ensures) c.message_at.ensures.slices

pub returns-in-Some-behind-clause-slices : goal.returns-in-Some-behind-clause-slices
returns-in-Some-behind-clause-slices c = ok_within _ c.in-Some-behind.rest.now _ (slice_behind _ _ 124 c.in-Some-behind.ensures) c.previous_at.ensures.slices
