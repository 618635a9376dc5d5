use Rattle.std.proofs.Common.{take}
use Rattle.po_text.specs.Valid.{HasUniqueKeys}
use Rattle.po_text.proofs.Checked.{HasKeysOf}
use Rattle.po_text.proofs.valid.has_unique_keys.Given as goal

abbrev pub invariant-loop-entry : goal.invariant-loop-entry
invariant-loop-entry l = record { seen : HasKeysOf l.keys (take l.entry-index l.entries); unique : HasUniqueKeys (take l.entry-index l.entries) }
