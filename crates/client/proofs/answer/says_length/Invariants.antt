use Rattle.std.proofs.Common.{◌≡◌, map, take, false}
use Rattle.std.specs.List.{list_any}
use Rattle.httparse.specs.Spans.{header_bytes}
use Rattle.client.specs.Answers.{is_length, is_other}
use Rattle.client.proofs.answer.says_length.Given as goal

abbrev pub invariant-loop-header : goal.invariant-loop-header
invariant-loop-header l = record {
  given : l.is_given ≡ list_any is_length (map (header_bytes l.answer) (take l.header-index l.headers));
  others : list_any (is_other l.digits) (map (header_bytes l.answer) (take l.header-index l.headers)) ≡ false;
}
