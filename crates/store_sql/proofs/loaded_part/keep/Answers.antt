use Rattle.std.proofs.Common.{refl}
use Rattle.store_sql.proofs.loaded_part.keep.Goals as goal

pub returns : goal.returns
returns c = refl
