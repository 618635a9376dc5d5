use Rattle.std.proofs.Common.{◌≡◌, ◌++◌, map, take}
use Rattle.json.specs.Token.{string}
use Rattle.request_book.proofs.written.put_texts.Given as goal

-- the texts so far are written
abbrev pub invariant-loop-text : goal.invariant-loop-text
invariant-loop-text l = record {
  tokens : l.out.tokens ≡ l.initial.out.tokens ++ map string (take l.text-index l.texts);
  before : l.out.before ≡ l.initial.out.before;
}
