use Rattle.std.proofs.Common.{◌≡◌, take}
use Rattle.template_update.specs.Templates.{without_fuzzy}
use Rattle.template_update.proofs.template.without_fuzzy.Given as goal

abbrev pub invariant-loop-flag : goal.invariant-loop-flag
invariant-loop-flag l = l.kept ≡ without_fuzzy (take l.flag-index l.flags)
