use Rattle.std.proofs.Common.{◌≡◌, true, take}
use Rattle.std.specs.List.{list_all}
use Rattle.http_messages.specs.Queries.{is_known}
use Rattle.http_messages.specs.Pairs.{pairs_at}
use Rattle.http_messages.proofs.query.all_known.Given as goal

abbrev pub invariant-loop-name : goal.invariant-loop-name
invariant-loop-name l = list_all (λ pair. is_known pair.0) (pairs_at (take l.name-index l.pairs)) ≡ true
