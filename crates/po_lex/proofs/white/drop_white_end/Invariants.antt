use Rattle.std.proofs.Common.{◌≡◌, length}
use Rattle.po_lex.specs.Reading.{drop_white_end}
use denote.Shadow.{shadow}
use denote.Text.{Utf8}
use Rattle.po_lex.proofs.white.drop_white_end.Given as goal

abbrev pub invariant-loop-next : goal.invariant-loop-next
invariant-loop-next l = record { text : shadow (Utf8 l.front); same : drop_white_end l.front ≡ drop_white_end l.fn.text }

abbrev pub decreases-loop-next : goal.decreases-loop-next
decreases-loop-next l = length l.front
