use Rattle.http_messages.proofs.TargetLemmas.{marked, unmarked}
use Rattle.http_messages.proofs.target.split_target.Goals as goal

pub returns-in-None : goal.returns-in-None
returns-in-None c = let it = unmarked c.args.target.now c.split_once.result c.split_once.ensures.cases c.in-None.is in record { path = it.0; query = it.1 }

pub returns-in-Some : goal.returns-in-Some
returns-in-Some c = let it = marked c.args.target.now c.split_once.result c.split_once.ensures.cases (c.in-Some.path, c.in-Some.query) c.in-Some.is in record { path = it.0; query = it.1 }
