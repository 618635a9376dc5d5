use Rattle.std.proofs.Common.{◌≡◌, ◌≤◌, List, count_by, take}
use Rattle.po_text.specs.declared.entry.Entry.{Entry}
use Rattle.units.specs.Units.{key_of}
use Rattle.template_update.specs.Loads.{is_in}
use Rattle.template_update.specs.KeyIndexes.{IsIndexOf}
use Rattle.template_update.proofs.loading.count_loaded.Given as goal

abbrev pub invariant-loop-entry : goal.invariant-loop-entry
invariant-loop-entry l = ((entries : List Entry) → IsIndexOf key_of entries l.text.found → l.count ≡ count_by (is_in entries) (take l.entry-index l.template)) × (l.count ≤ l.entry-index)
