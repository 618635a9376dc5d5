use Rattle.std.proofs.Common.{◌≡◌, ◌+◌, length, drop}
use Rattle.po_lex.specs.Lines.{word_of}
use Rattle.po_lex.proofs.forms.word_len.Given as goal

abbrev pub invariant-loop-i : goal.invariant-loop-i
invariant-loop-i l = l.i + length (word_of (drop l.i l.bytes)) ≡ length (word_of l.bytes)
