use Rattle.std.proofs.Common.{◌≡◌, ◌++◌}
use Rattle.form_urlencoded.specs.Parse.{pairs_left}
use Rattle.http_messages.specs.Queries.{pairs_of}
use Rattle.http_messages.specs.Pairs.{pairs_at}
use Rattle.http_messages.proofs.QueryLemmas.{decoded}
use Rattle.http_messages.proofs.query.pairs_of.Given as goal

-- the pairs so far, and those that are still to come
abbrev pub invariant-loop-pair : goal.invariant-loop-pair
invariant-loop-pair l = pairs_at l.pairs.items ++ decoded (pairs_left l.pair-iterator) ≡ pairs_of l.query
