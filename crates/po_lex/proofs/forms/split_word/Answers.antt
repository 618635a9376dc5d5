use Rattle.std.proofs.Common.{◌∙◌}
use Rattle.po_lex.proofs.SliceLemmas.{word_boundary, word_taken, slice_same, back_slice}
use Rattle.po_lex.proofs.forms.split_word.Goals as goal

pub split_at-requires : goal.split_at-requires
split_at-requires c = rw (c.word_len.ensures, c.as_bytes.ensures.value) (word_boundary c.args.text.now)

pub returns-clause-word : goal.returns-clause-word
returns-clause-word c =
    c.split_at.ensures.front ∙ rw (c.word_len.ensures, c.as_bytes.ensures.value) (word_taken c.args.text.now)

pub returns-clause-slice : goal.returns-clause-slice
returns-clause-slice c = slice_same _ _ _ (back_slice c.args.text.now c.word_len.result) c.split_at.ensures.back
