use Rattle.std.proofs.Common.{rules}
use Rattle.byte_streams.proofs.vec_sink.VecSinkByteSink.write.Goals as goal

pub returns-clause-ok : goal.returns-clause-ok
returns-clause-ok c = search rules
