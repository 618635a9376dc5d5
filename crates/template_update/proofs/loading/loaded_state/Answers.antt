use Rattle.std.proofs.Common.{rules}
use Rattle.template_update.proofs.loading.loaded_state.Goals as goal

pub returns : goal.returns
returns c = search rules
