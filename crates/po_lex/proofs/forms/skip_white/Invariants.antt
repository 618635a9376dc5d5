use Rattle.std.proofs.Common.{◌≡◌, length}
use Rattle.po_lex.specs.Reading.{skip_white}
use Rattle.po_lex.specs.PlainTokens.{IsSliceOf}
use denote.Shadow.{shadow}
use denote.Text.{Utf8}
use Rattle.po_lex.proofs.forms.skip_white.Given as goal

abbrev pub invariant-loop-next : goal.invariant-loop-next
invariant-loop-next l = record { text : shadow (Utf8 l.rest); same : skip_white l.rest ≡ skip_white l.fn.text; slice : IsSliceOf l.fn.text l.rest }

abbrev pub decreases-loop-next : goal.decreases-loop-next
decreases-loop-next l = length l.rest
