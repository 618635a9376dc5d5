use Rattle.office.specs.Writers.{writer_at}
use Rattle.http_api.proofs.Counting.{WroteOn}
use Rattle.http_api.proofs.Looping.{Serving}
use Rattle.http_api.proofs.connection.serve.Given as goal

abbrev pub invariant-loop-answered : goal.invariant-loop-answered
invariant-loop-answered g l =
    Serving g.T.Tables.is_honest g.T.Tables.is_whole g.T.Tables.means g.T.Tables.may_leave g.T.Tables.faults g.T.Tables.is_stopped (λ w. writer_at g.W.ByteSink.taken g.W.ByteSink.failed w)
    l.fn.desk l.desk l.fn.w l.w (g.R.MessagesBehind.left l.fn.source) (g.R.MessagesBehind.left l.source) (g.R.MessagesBehind.failed l.fn.source) (g.R.MessagesBehind.failed l.source) l.answered l.inbox
    × WroteOn (g.W.ByteSink.holds_back l.w) (g.W.ByteSink.failed l.fn.w) (g.W.ByteSink.failed l.w)
