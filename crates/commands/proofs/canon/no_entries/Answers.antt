use Rattle.commands.proofs.CanonLemmas.{none_written}
use Rattle.commands.proofs.canon.no_entries.Goals as goal

pub returns : goal.returns
returns c = none_written _ _ c.room_for.ensures c.new.ensures.pushed
