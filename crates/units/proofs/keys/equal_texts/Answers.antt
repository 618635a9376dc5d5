use Rattle.units.proofs.KeyTexts.{equal_texts}
use Rattle.units.proofs.keys.equal_texts.Goals as goal

pub returns : goal.returns
returns c = equal_texts
