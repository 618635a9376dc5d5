use Rattle.std.proofs.Common.{◌≡◌, take}
use Rattle.template_update.specs.Templates.{template_of}
use Rattle.template_update.proofs.template.messages.Given as goal

abbrev pub invariant-loop-entry : goal.invariant-loop-entry
invariant-loop-entry l = l.all.items ≡ template_of (take l.entry-index l.entries)
