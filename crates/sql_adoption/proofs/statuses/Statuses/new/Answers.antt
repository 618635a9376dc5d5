use Rattle.rule_tests.proofs.GivenLemmas.{none_noted}
use Rattle.sql_adoption.proofs.statuses.Statuses.new.Goals as goal

pub returns : goal.returns
returns c = none_noted c.new.result c.new.ensures.empty
