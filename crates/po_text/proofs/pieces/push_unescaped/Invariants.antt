use Rattle.std.proofs.Common.{◌≡◌, ◌++◌, length}
use Rattle.std.specs.Prelude.{string_bytes}
use denote.Shadow.{shadow}
use denote.Text.{Utf8}
use Rattle.po_lex.specs.Escapes.{unescaped}
use Rattle.po_text.proofs.pieces.push_unescaped.Given as goal

abbrev pub invariant-loop-front : goal.invariant-loop-front
invariant-loop-front l = record { utf8 : shadow (Utf8 l.rest); same : string_bytes l.text ++ unescaped l.rest ≡ string_bytes l.fn.text ++ unescaped l.raw }

abbrev pub decreases-loop-front : goal.decreases-loop-front
decreases-loop-front l = length l.rest
