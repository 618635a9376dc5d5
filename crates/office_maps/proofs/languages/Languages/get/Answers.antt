use Rattle.std.proofs.Common.{rules}
use Rattle.office_maps.proofs.languages.Languages.get.Goals as goal

pub returns : goal.returns
returns c = search rules
