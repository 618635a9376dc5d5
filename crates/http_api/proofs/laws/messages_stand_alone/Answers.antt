use Rattle.http_api.proofs.MessageLemmas.{stand_alone}
use Rattle.http_api.proofs.laws.messages_stand_alone.Goals as goal

pub returns : goal.returns
returns c = λ bytes items n behind are some. stand_alone bytes items n behind are some
