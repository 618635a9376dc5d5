use Rattle.std.proofs.Common.{◌∙◌}
use Rattle.template_update.proofs.LoadLemmas.{in_by}
use Rattle.template_update.proofs.loading.is_in.Goals as goal

pub returns : goal.returns
returns c entries indexed = c.contains.ensures ∙ in_by entries c.args.index.now.found indexed c.key.result c.args.entry.now c.key.ensures
