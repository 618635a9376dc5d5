use Rattle.std.proofs.Common.{◌≡◌, ◌≤◌, ◌++◌, List, length, map, take}
use Rattle.po_text.specs.declared.entry.Entry.{Entry}
use Rattle.units.specs.Units.{key_of}
use Rattle.template_update.specs.Loads.{leftover, leftovers}
use Rattle.template_update.specs.KeyIndexes.{IsIndexOf}
use Rattle.template_update.proofs.loading.add_leftovers.Given as goal

abbrev pub invariant-loop-found : goal.invariant-loop-found
invariant-loop-found l = ((entries : List Entry) → IsIndexOf key_of entries l.template.found → l.all.items ≡ l.fn.all.items ++ map leftover (leftovers entries (take l.found-index l.text)))
    × (length l.fn.all.items ≤ length l.all.items)
