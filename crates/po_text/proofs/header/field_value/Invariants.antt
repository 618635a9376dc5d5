use Rattle.std.proofs.Common.{◌≡◌, length}
use Rattle.po_lex.specs.Lines.{lines_of}
use denote.Shadow.{shadow}
use denote.Text.{Utf8}
use Rattle.po_text.proofs.HeaderLemmas.{first_value}
use Rattle.po_text.proofs.header.field_value.Given as goal

abbrev pub invariant-loop-line : goal.invariant-loop-line
invariant-loop-line l = record { text : shadow (Utf8 l.rest); same : first_value l.fn.name (lines_of l.rest) ≡ first_value l.fn.name (lines_of l.fn.header) }

abbrev pub decreases-loop-line : goal.decreases-loop-line
decreases-loop-line l = length l.rest
