use Rattle.po_lex.proofs.SliceLemmas.{slice_behind, slice_within, ok_within, ok_same}
use Rattle.po_lex.proofs.forms.comment_at.Goals as goal

pub returns-in-Some-clause-slices : goal.returns-in-Some-clause-slices
returns-in-Some-clause-slices c = ok_same _ _ c.comment_of.result c.comment_of.ensures.same (slice_within _ c.in-Some.rest.now _ (slice_behind _ _ 46 c.in-Some.ensures) c.skip_space-rest.ensures.slice)

pub returns-in-Some-behind-clause-slices : goal.returns-in-Some-behind-clause-slices
returns-in-Some-behind-clause-slices c = ok_same _ _ c.comment_of-in-Some-behind.result c.comment_of-in-Some-behind.ensures.same (slice_within _ c.in-Some-behind.rest.now _ (slice_behind _ _ 58 c.in-Some-behind.ensures) c.skip_space-rest-in-Some-behind.ensures.slice)

pub returns-in-Some-behind-2-clause-slices : goal.returns-in-Some-behind-2-clause-slices
returns-in-Some-behind-2-clause-slices c = ok_within _ c.in-Some-behind-2.rest.now _ (slice_behind _ _ 44 c.in-Some-behind-2.ensures) c.flags_of.ensures.slices

pub returns-in-Some-behind-3-clause-slices : goal.returns-in-Some-behind-3-clause-slices
returns-in-Some-behind-3-clause-slices c = ok_within _ c.in-Some-behind-3.rest.now _ (slice_behind _ _ 124 c.in-Some-behind-3.ensures) c.previous_at.ensures.slices

pub returns-in-Some-behind-4-clause-slices : goal.returns-in-Some-behind-4-clause-slices
returns-in-Some-behind-4-clause-slices c = ok_within _ c.in-Some-behind-4.rest.now _ (slice_behind _ _ 126 c.in-Some-behind-4.ensures) c.obsolete_at.ensures.slices
