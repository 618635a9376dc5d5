use Rattle.std.proofs.Common.{◌≡◌, length}
use Rattle.std.specs.List.{fold}
use denote.Shadow.{shadow}
use denote.Text.{Utf8}
use Rattle.po_lex.specs.Lines.{items_of}
use Rattle.po_text.specs.Flags.{add_once}
use Rattle.po_text.proofs.flags.Flags.with_all.Given as goal

abbrev pub invariant-loop-item : goal.invariant-loop-item
invariant-loop-item l = record { text : shadow (Utf8 l.rest); same : fold add_once l.flags (items_of l.rest) ≡ fold add_once l.fn.self (items_of l.items) }

abbrev pub decreases-loop-item : goal.decreases-loop-item
decreases-loop-item l = length l.rest
