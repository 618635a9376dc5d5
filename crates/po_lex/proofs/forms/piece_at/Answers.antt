use Rattle.std.proofs.Common.{◌∙◌}
use Rattle.std.proofs.lemmas.Slice.{between_from_start}
use Rattle.po_lex.proofs.SliceLemmas.{slice_behind, slice_within, slice_same, front_slice}
use Rattle.po_lex.proofs.forms.piece_at.Goals as goal

pub returns-clause-slice : goal.returns-clause-slice
returns-clause-slice c =
    slice_within _ _ _ (slice_behind c.args.text.now c.in-Some.rest.now 34 c.in-Some.ensures)
    (slice_same _ _ _ (front_slice c.in-Some.rest.now c.in_ok-n.n) (c.range.ensures.value ∙ between_from_start c.in-Some.rest.now c.in_ok-n.n))
