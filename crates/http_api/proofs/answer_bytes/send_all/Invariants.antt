use Rattle.std.proofs.Common.{drop}
use Rattle.byte_streams.specs.Sending.{SoFar}
use Rattle.http_api.proofs.AnswerLemmas.{joined}
use Rattle.http_api.proofs.answer_bytes.send_all.Given as goal

-- the texts so far, and those that are left
abbrev pub invariant-loop-text : goal.invariant-loop-text
invariant-loop-text g l = SoFar (g.W.ByteSink.taken l.fn.w) (g.W.ByteSink.taken l.w) (g.W.ByteSink.failed l.fn.w) (g.W.ByteSink.failed l.w) (joined l.texts) (joined (drop l.text-index l.texts))
