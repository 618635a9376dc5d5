use Rattle.std.proofs.Common.{◌≡◌, ◌-◌, ◌≤◌, length, drop}
use Rattle.po_lex.specs.Lines.{is_comment_text}
use Rattle.po_lex.proofs.forms.is_comment_text.Given as goal

abbrev pub invariant-loop-i : goal.invariant-loop-i
invariant-loop-i l = record { within : l.i ≤ length l.bytes; same : is_comment_text (drop l.i l.bytes) ≡ is_comment_text l.bytes }

abbrev pub decreases-loop-i : goal.decreases-loop-i
decreases-loop-i l = length l.bytes - l.i
