use Rattle.std.proofs.Common.{refl}
use Rattle.sql_adoption.proofs.unit_sinks.UnitsRowSink.take.Goals as goal

pub returns-clause-ok : goal.returns-clause-ok
returns-clause-ok c =
    let shown = c.in_ok-shown.ensures in
    record { stays = refl; took = c.in_ok-note.ensures c.args.row.now shown.place shown.unit shown.suggestions shown.stands }
