use Rattle.std.proofs.Common.{◌≡◌, ◌+◌, ◌≤◌, length}
use denote.Shadow.{shadow}
use denote.Text.{Utf8}
use Rattle.po_lex.specs.Escapes.{unescaped}
use Rattle.po_text.proofs.pieces.unescaped_len.Given as goal

abbrev pub invariant-loop-front : goal.invariant-loop-front
invariant-loop-front l = record { text : shadow (Utf8 l.rest); same : l.len + length (unescaped l.rest) ≡ length (unescaped l.raw); fits : l.len + length l.rest ≤ length l.raw }

abbrev pub decreases-loop-front : goal.decreases-loop-front
decreases-loop-front l = length l.rest
