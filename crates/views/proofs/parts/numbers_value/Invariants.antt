use Rattle.std.proofs.Common.{◌≡◌, map, take}
use Rattle.serde_json.specs.View.{view}
use Rattle.request_book.specs.Words.{natural}
use Rattle.views.proofs.parts.numbers_value.Given as goal

-- the numbers so far
abbrev pub invariant-loop-number : goal.invariant-loop-number
invariant-loop-number l = map view l.list.items ≡ map natural (take l.number-index l.numbers)
