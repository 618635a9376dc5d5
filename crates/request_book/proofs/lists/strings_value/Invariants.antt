use Rattle.std.proofs.Common.{◌≡◌, map, take}
use Rattle.serde_json.specs.Data.{string}
use Rattle.serde_json.specs.View.{view}
use Rattle.request_book.proofs.lists.strings_value.Given as goal

-- the strings so far
abbrev pub invariant-loop-string : goal.invariant-loop-string
invariant-loop-string l = map view l.list.items ≡ map string (take l.string-index l.texts)
