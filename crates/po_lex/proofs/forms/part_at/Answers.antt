use Rattle.po_lex.proofs.SliceLemmas.{slice_within}
use Rattle.po_lex.proofs.forms.part_at.Goals as goal

pub returns-clause-slices : goal.returns-clause-slices
returns-clause-slices c = slice_within _ _ _ (slice_within _ _ _ c.split_word.ensures.slice c.skip_white.ensures.slice) c.in_ok-piece_at-2.ensures.slice
