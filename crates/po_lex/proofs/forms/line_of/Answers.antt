use Rattle.po_lex.proofs.SliceLemmas.{slice_behind, ok_within}
use Rattle.po_lex.proofs.forms.line_of.Goals as goal

pub returns-in-Some-clause-slices : goal.returns-in-Some-clause-slices
returns-in-Some-clause-slices c = ok_within _ c.in-Some.rest.now _ (slice_behind _ _ 35 c.in-Some.ensures) c.comment_at.ensures.slices
