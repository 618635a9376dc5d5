use Rattle.http_messages.proofs.CutLemmas.{CutFrom}
use Rattle.http_messages.proofs.cut.head_length.Given as goal

-- no head ends before this place
abbrev pub invariant-loop-i : goal.invariant-loop-i
invariant-loop-i l = CutFrom l.bytes l.i
