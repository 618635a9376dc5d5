use Rattle.std.proofs.Common.{refl}
use Rattle.byte_streams.proofs.streams.SourceFault.number.Goals as goal

pub returns : goal.returns
returns c = refl
