use Rattle.std.proofs.Common.{[], refl}
use Rattle.sql_exports.proofs.export.hand.Goals as goal

pub returns-in-Err-clause-handed : goal.returns-in-Err-clause-handed
returns-in-Err-clause-handed g c = record {
  front = [];
  entry = c.args.entry;
  rest = [];
  mid = c.args.sink.now;
  whole = refl;
  took = g.met.K.EntrySink.none c.args.sink.now;
  refused = c.in-Err.ensures.err;
}
