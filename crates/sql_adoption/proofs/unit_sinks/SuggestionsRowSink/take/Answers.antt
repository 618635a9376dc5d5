use Rattle.std.proofs.Common.{refl}
use Rattle.sql_adoption.proofs.NotedUnits.{suggestion_noted}
use Rattle.sql_adoption.proofs.unit_sinks.SuggestionsRowSink.take.Goals as goal

pub returns-clause-ok : goal.returns-clause-ok
returns-clause-ok c =
    let told = c.in_ok-has.ensures.told in
    record { stays = refl; took = suggestion_noted c.args.self.now.rule.now c.args.self.now.kept c.in_ok-has.has c.both-self.result c.args.row.now c.both-self.ensures c.in_ok-has.ensures.stands told.0 told.1 }
