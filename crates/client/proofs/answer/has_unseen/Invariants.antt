use Rattle.std.proofs.Common.{◌≡◌, length, take, false}
use Rattle.std.specs.List.{list_any}
use Rattle.std.specs.Str.{chars}
use Rattle.client.specs.Answers.{is_unseen}
use Rattle.client.proofs.answer.has_unseen.Given as goal

abbrev pub invariant-loop-c : goal.invariant-loop-c
invariant-loop-c l = list_any is_unseen (take (length l.yielded) (chars l.text)) ≡ false
