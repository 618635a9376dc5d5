use Rattle.std.proofs.Common.{refl}
use Rattle.http_api.proofs.AnswerLemmas.{phrase_is}
use Rattle.http_api.proofs.refusals.phrase.Goals as goal

pub returns : goal.returns
returns c = phrase_is c.canonical_reason.result c.unwrap_or.result _ c.args.status c.canonical_reason.ensures.value c.unwrap_or.ensures refl
