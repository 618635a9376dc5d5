use Rattle.std.proofs.Common.{◌≡◌, ◌∙◌, sym, true, refl, arith}
use Rattle.office.specs.Writers.{writer_at}
use Rattle.http_api.specs.declared.faults.ServeFault.TheVariants.{Read, Write}
use Rattle.http_api.proofs.Counting.{unsent_step, one_more_handed, handed_on_first, read_failed, write_failed, disk_failed}
use Rattle.http_api.proofs.Looping.{no_routes, not_begun, serving, one_more, lasts_here, lasts_read_here, ends_here, ends_read_here, gives_up_here, full_here, full_read_here, runs_behind, runs_given_up}
use Rattle.http_api.proofs.connection.serve.Goals as goal

pub returns-in_default-clause-served : goal.returns-in_default-clause-served
returns-in_default-clause-served g c = no_routes g.T.Tables.is_honest g.T.Tables.is_whole g.T.Tables.means g.T.Tables.may_leave g.T.Tables.faults g.T.Tables.is_stopped (λ w. writer_at g.W.ByteSink.taken g.W.ByteSink.failed w)
    c.args.desk.now c.args.w.now (g.R.MessagesBehind.left c.args.source.now) (g.R.MessagesBehind.failed c.args.source.now)

pub returns-in_err-hand_on-clause-served : goal.returns-in_err-hand_on-clause-served
returns-in_err-hand_on-clause-served g c = not_begun g.T.Tables.is_honest g.T.Tables.is_whole g.T.Tables.means g.T.Tables.may_leave g.T.Tables.faults g.T.Tables.is_stopped (λ w. writer_at g.W.ByteSink.taken g.W.ByteSink.failed w)
    _ c.from_residual.result c.in_err-hand_on.field-0.0 c.from_residual.ensures.1
    c.args.desk.now c.args.w.now c.hand_on.new.w (g.R.MessagesBehind.left c.args.source.now) (g.R.MessagesBehind.failed c.args.source.now) c.in_err-hand_on.ensures.told.0 c.in_err-hand_on.ensures.told.1

pub loop-answered-init : goal.loop-answered-init
loop-answered-init g c = (
  serving g.T.Tables.is_honest g.T.Tables.is_whole g.T.Tables.means g.T.Tables.may_leave g.T.Tables.faults g.T.Tables.is_stopped (λ w. writer_at g.W.ByteSink.taken g.W.ByteSink.failed w)
      c.args.desk.now c.args.w.now c.hand_on.new.w (g.R.MessagesBehind.left c.args.source.now) (g.R.MessagesBehind.failed c.args.source.now) c.new-inbox.result c.in_ok-hand_on.ensures.told c.new-inbox.ensures,
  record { count = c.in_ok-hand_on.ensures.told.count; handed_on = c.in_ok-hand_on.ensures.handed_on },
)

pub returns-in_err-serve_one-clause-served : goal.returns-in_err-serve_one-clause-served
returns-in_err-serve_one-clause-served g c = gives_up_here g.T.Tables.is_honest g.T.Tables.is_whole g.T.Tables.means g.T.Tables.may_leave g.T.Tables.faults g.T.Tables.is_stopped (λ w. writer_at g.W.ByteSink.taken g.W.ByteSink.failed w)
    c.args.desk.now c.loop-answered.desk c.serve_one.new.desk c.args.w.now c.loop-answered.w c.serve_one.new.w
    (g.R.MessagesBehind.left c.args.source.now) (g.R.MessagesBehind.left c.loop-answered.source) (g.R.MessagesBehind.left c.serve_one.new.source) (g.R.MessagesBehind.failed c.args.source.now) (g.R.MessagesBehind.failed c.loop-answered.source) (g.R.MessagesBehind.failed c.serve_one.new.source)
    c.loop-answered.answered c.loop-answered.inbox c.serve_one.new.inbox _ c.loop-answered.invariant.0
    _ c.from_residual-in_err-serve_one.result c.in_err-serve_one.field-0.0 c.from_residual-in_err-serve_one.ensures.1 c.loop-answered-test.true refl c.in_err-serve_one.ensures.stepped

pub returns-in-End-clause-served : goal.returns-in-End-clause-served
returns-in-End-clause-served g c = ends_here g.T.Tables.is_honest g.T.Tables.is_whole g.T.Tables.means g.T.Tables.may_leave g.T.Tables.faults g.T.Tables.is_stopped (λ w. writer_at g.W.ByteSink.taken g.W.ByteSink.failed w)
    c.args.desk.now c.loop-answered.desk c.serve_one.new.desk c.args.w.now c.loop-answered.w c.serve_one.new.w
    (g.R.MessagesBehind.left c.args.source.now) (g.R.MessagesBehind.left c.loop-answered.source) (g.R.MessagesBehind.left c.serve_one.new.source) (g.R.MessagesBehind.failed c.args.source.now) (g.R.MessagesBehind.failed c.loop-answered.source) (g.R.MessagesBehind.failed c.serve_one.new.source)
    c.loop-answered.answered c.loop-answered.inbox c.serve_one.new.inbox _ c.loop-answered.invariant.0
    c.in_ok-serve_one.field-0 c.in-End.is c.in_ok-serve_one.ensures.stepped

pub returns-in-Last-clause-served : goal.returns-in-Last-clause-served
returns-in-Last-clause-served g c = lasts_here g.T.Tables.is_honest g.T.Tables.is_whole g.T.Tables.means g.T.Tables.may_leave g.T.Tables.faults g.T.Tables.is_stopped (λ w. writer_at g.W.ByteSink.taken g.W.ByteSink.failed w)
    c.args.desk.now c.loop-answered.desk c.serve_one.new.desk c.args.w.now c.loop-answered.w c.serve_one.new.w
    (g.R.MessagesBehind.left c.args.source.now) (g.R.MessagesBehind.left c.loop-answered.source) (g.R.MessagesBehind.left c.serve_one.new.source) (g.R.MessagesBehind.failed c.args.source.now) (g.R.MessagesBehind.failed c.loop-answered.source) (g.R.MessagesBehind.failed c.serve_one.new.source)
    c.loop-answered.answered c.loop-answered.inbox c.serve_one.new.inbox _ c.loop-answered.invariant.0
    c.loop-answered-test.true refl c.in_ok-serve_one.field-0 c.in-Last.is c.in_ok-serve_one.ensures.stepped

pub loop-answered-preserved : goal.loop-answered-preserved
loop-answered-preserved g c = (
  one_more g.T.Tables.is_honest g.T.Tables.is_whole g.T.Tables.means g.T.Tables.may_leave g.T.Tables.faults g.T.Tables.is_stopped (λ w. writer_at g.W.ByteSink.taken g.W.ByteSink.failed w)
      c.args.desk.now c.loop-answered.desk c.serve_one.new.desk c.args.w.now c.loop-answered.w c.serve_one.new.w
      (g.R.MessagesBehind.left c.args.source.now) (g.R.MessagesBehind.left c.loop-answered.source) (g.R.MessagesBehind.left c.serve_one.new.source) (g.R.MessagesBehind.failed c.args.source.now) (g.R.MessagesBehind.failed c.loop-answered.source) (g.R.MessagesBehind.failed c.serve_one.new.source)
      c.loop-answered.answered c.loop-answered.inbox c.serve_one.new.inbox _ c.loop-answered.invariant.0
      c.loop-answered-test.true refl c.in_ok-serve_one.field-0 c.in-More.is c.in_ok-serve_one.ensures.stepped,
  one_more_handed c.loop-answered.invariant.1 c.in_ok-serve_one.ensures.handed_on c.in_ok-serve_one.ensures.failures,
)

pub returns-clause-served : goal.returns-clause-served
returns-clause-served g c = full_here g.T.Tables.is_honest g.T.Tables.is_whole g.T.Tables.means g.T.Tables.may_leave g.T.Tables.faults g.T.Tables.is_stopped (λ w. writer_at g.W.ByteSink.taken g.W.ByteSink.failed w)
    c.args.desk.now c.loop-answered.desk c.args.w.now c.loop-answered.w (g.R.MessagesBehind.left c.args.source.now) (g.R.MessagesBehind.left c.loop-answered.source) (g.R.MessagesBehind.failed c.args.source.now) (g.R.MessagesBehind.failed c.loop-answered.source)
    c.loop-answered.answered c.loop-answered.inbox c.loop-answered.invariant.0 (omega arith)

pub returns-in-End-clause-reads : goal.returns-in-End-clause-reads
returns-in-End-clause-reads g c = ends_read_here g.T.Tables.is_honest g.T.Tables.is_whole g.T.Tables.means g.T.Tables.may_leave g.T.Tables.faults g.T.Tables.is_stopped (λ w. writer_at g.W.ByteSink.taken g.W.ByteSink.failed w)
    c.args.desk.now c.loop-answered.desk c.serve_one.new.desk c.args.w.now c.loop-answered.w c.serve_one.new.w
    (g.R.MessagesBehind.left c.args.source.now) (g.R.MessagesBehind.left c.loop-answered.source) (g.R.MessagesBehind.left c.serve_one.new.source) (g.R.MessagesBehind.failed c.args.source.now) (g.R.MessagesBehind.failed c.loop-answered.source) (g.R.MessagesBehind.failed c.serve_one.new.source)
    c.loop-answered.answered c.loop-answered.inbox c.serve_one.new.inbox _ c.loop-answered.invariant.0
    c.in_ok-serve_one.field-0 c.in-End.is c.in_ok-serve_one.ensures.stepped

pub returns-in-Last-clause-reads : goal.returns-in-Last-clause-reads
returns-in-Last-clause-reads g c = lasts_read_here g.T.Tables.is_honest g.T.Tables.is_whole g.T.Tables.means g.T.Tables.may_leave g.T.Tables.faults g.T.Tables.is_stopped (λ w. writer_at g.W.ByteSink.taken g.W.ByteSink.failed w)
    c.args.desk.now c.loop-answered.desk c.serve_one.new.desk c.args.w.now c.loop-answered.w c.serve_one.new.w
    (g.R.MessagesBehind.left c.args.source.now) (g.R.MessagesBehind.left c.loop-answered.source) (g.R.MessagesBehind.left c.serve_one.new.source) (g.R.MessagesBehind.failed c.args.source.now) (g.R.MessagesBehind.failed c.loop-answered.source) (g.R.MessagesBehind.failed c.serve_one.new.source)
    c.loop-answered.answered c.loop-answered.inbox c.serve_one.new.inbox _ c.loop-answered.invariant.0
    c.in_ok-serve_one.field-0 c.in-Last.is c.in_ok-serve_one.ensures.stepped

pub returns-clause-reads : goal.returns-clause-reads
returns-clause-reads g c = full_read_here g.T.Tables.is_honest g.T.Tables.is_whole g.T.Tables.means g.T.Tables.may_leave g.T.Tables.faults g.T.Tables.is_stopped (λ w. writer_at g.W.ByteSink.taken g.W.ByteSink.failed w)
    c.args.desk.now c.loop-answered.desk c.args.w.now c.loop-answered.w (g.R.MessagesBehind.left c.args.source.now) (g.R.MessagesBehind.left c.loop-answered.source) (g.R.MessagesBehind.failed c.args.source.now) (g.R.MessagesBehind.failed c.loop-answered.source)
    c.loop-answered.answered c.loop-answered.inbox c.loop-answered.invariant.0 (omega arith)

-- ---- what is handed on, and what a fault says

pub returns-in-End-clause-handed_on : goal.returns-in-End-clause-handed_on
returns-in-End-clause-handed_on g c = c.in_ok-serve_one.ensures.handed_on

pub returns-in-Last-clause-handed_on : goal.returns-in-Last-clause-handed_on
returns-in-Last-clause-handed_on g c = c.in_ok-serve_one.ensures.handed_on

pub returns-clause-handed_on : goal.returns-clause-handed_on
returns-clause-handed_on g c = c.loop-answered.invariant.1.handed_on

pub returns-in_err-serve_one-clause-handed_on_first : goal.returns-in_err-serve_one-clause-handed_on_first
returns-in_err-serve_one-clause-handed_on_first g c =
    handed_on_first (g.W.ByteSink.holds_back c.serve_one.new.w) c.from_residual-in_err-serve_one.result c.in_err-serve_one.field-0.0 c.from_residual-in_err-serve_one.ensures.1 c.in_err-serve_one.ensures.handed_on

pub returns-in_err-serve_one-clause-read : goal.returns-in_err-serve_one-clause-read
returns-in_err-serve_one-clause-read g c = read_failed (g.T.Tables.is_stopped c.serve_one.new.desk ≡ true)
    (g.R.MessagesBehind.failed c.args.source.now) (g.R.MessagesBehind.failed c.loop-answered.source) (g.R.MessagesBehind.failed c.serve_one.new.source)
    (g.W.ByteSink.failed c.args.w.now) (g.W.ByteSink.failed c.loop-answered.w) (g.W.ByteSink.failed c.serve_one.new.w)
    c.from_residual-in_err-serve_one.result c.in_err-serve_one.field-0.0 c.from_residual-in_err-serve_one.ensures.1 c.in_err-serve_one.ensures.failures c.loop-answered.invariant.0.along.count

pub returns-in_err-serve_one-clause-write : goal.returns-in_err-serve_one-clause-write
returns-in_err-serve_one-clause-write g c = write_failed (g.T.Tables.is_stopped c.serve_one.new.desk ≡ true)
    (g.R.MessagesBehind.failed c.args.source.now) (g.R.MessagesBehind.failed c.loop-answered.source) (g.R.MessagesBehind.failed c.serve_one.new.source)
    (g.W.ByteSink.failed c.args.w.now) (g.W.ByteSink.failed c.loop-answered.w) (g.W.ByteSink.failed c.serve_one.new.w)
    c.from_residual-in_err-serve_one.result c.in_err-serve_one.field-0.0 c.from_residual-in_err-serve_one.ensures.1 c.in_err-serve_one.ensures.failures c.loop-answered.invariant.1.count

pub returns-in_err-serve_one-clause-disk : goal.returns-in_err-serve_one-clause-disk
returns-in_err-serve_one-clause-disk g c = disk_failed (g.T.Tables.is_stopped c.serve_one.new.desk ≡ true)
    (g.R.MessagesBehind.failed c.args.source.now) (g.R.MessagesBehind.failed c.loop-answered.source) (g.R.MessagesBehind.failed c.serve_one.new.source)
    (g.W.ByteSink.failed c.args.w.now) (g.W.ByteSink.failed c.loop-answered.w) (g.W.ByteSink.failed c.serve_one.new.w)
    c.from_residual-in_err-serve_one.result c.in_err-serve_one.field-0.0 c.from_residual-in_err-serve_one.ensures.1 c.in_err-serve_one.ensures.failures

-- ---- the writer failed before anything was read

pub returns-in_err-hand_on-clause-handed_on_first : goal.returns-in_err-hand_on-clause-handed_on_first
returns-in_err-hand_on-clause-handed_on_first g c =
    handed_on_first (g.W.ByteSink.holds_back c.hand_on.new.w) c.from_residual.result c.in_err-hand_on.field-0.0 c.from_residual.ensures.1
    (λ is. let differs : Write ≡ Read = sym c.in_err-hand_on.ensures.told.0 ∙ is in absurd cc)

pub returns-in_err-hand_on-clause-read : goal.returns-in_err-hand_on-clause-read
returns-in_err-hand_on-clause-read g c = read_failed (g.T.Tables.is_stopped c.args.desk.now ≡ true)
    (g.R.MessagesBehind.failed c.args.source.now) (g.R.MessagesBehind.failed c.args.source.now) (g.R.MessagesBehind.failed c.args.source.now)
    (g.W.ByteSink.failed c.args.w.now) (g.W.ByteSink.failed c.args.w.now) (g.W.ByteSink.failed c.hand_on.new.w)
    c.from_residual.result c.in_err-hand_on.field-0.0 c.from_residual.ensures.1
    (unsent_step (g.T.Tables.is_stopped c.args.desk.now ≡ true) (g.R.MessagesBehind.failed c.args.source.now) (g.R.MessagesBehind.failed c.args.source.now) (g.W.ByteSink.failed c.args.w.now) (g.W.ByteSink.failed c.hand_on.new.w)
    c.in_err-hand_on.field-0.0 c.in_err-hand_on.ensures.told.0 c.in_err-hand_on.ensures.told.1.count) refl

pub returns-in_err-hand_on-clause-write : goal.returns-in_err-hand_on-clause-write
returns-in_err-hand_on-clause-write g c = write_failed (g.T.Tables.is_stopped c.args.desk.now ≡ true)
    (g.R.MessagesBehind.failed c.args.source.now) (g.R.MessagesBehind.failed c.args.source.now) (g.R.MessagesBehind.failed c.args.source.now)
    (g.W.ByteSink.failed c.args.w.now) (g.W.ByteSink.failed c.args.w.now) (g.W.ByteSink.failed c.hand_on.new.w)
    c.from_residual.result c.in_err-hand_on.field-0.0 c.from_residual.ensures.1
    (unsent_step (g.T.Tables.is_stopped c.args.desk.now ≡ true) (g.R.MessagesBehind.failed c.args.source.now) (g.R.MessagesBehind.failed c.args.source.now) (g.W.ByteSink.failed c.args.w.now) (g.W.ByteSink.failed c.hand_on.new.w)
    c.in_err-hand_on.field-0.0 c.in_err-hand_on.ensures.told.0 c.in_err-hand_on.ensures.told.1.count) refl

pub returns-in_err-hand_on-clause-disk : goal.returns-in_err-hand_on-clause-disk
returns-in_err-hand_on-clause-disk g c = disk_failed (g.T.Tables.is_stopped c.args.desk.now ≡ true)
    (g.R.MessagesBehind.failed c.args.source.now) (g.R.MessagesBehind.failed c.args.source.now) (g.R.MessagesBehind.failed c.args.source.now)
    (g.W.ByteSink.failed c.args.w.now) (g.W.ByteSink.failed c.args.w.now) (g.W.ByteSink.failed c.hand_on.new.w)
    c.from_residual.result c.in_err-hand_on.field-0.0 c.from_residual.ensures.1
    (unsent_step (g.T.Tables.is_stopped c.args.desk.now ≡ true) (g.R.MessagesBehind.failed c.args.source.now) (g.R.MessagesBehind.failed c.args.source.now) (g.W.ByteSink.failed c.args.w.now) (g.W.ByteSink.failed c.hand_on.new.w)
    c.in_err-hand_on.field-0.0 c.in_err-hand_on.ensures.told.0 c.in_err-hand_on.ensures.told.1.count)

-- ---- that the tables run on

pub returns-in_default-clause-runs_on : goal.returns-in_default-clause-runs_on
returns-in_default-clause-runs_on g c = λ since ran. ran

pub returns-in_err-hand_on-clause-runs_on : goal.returns-in_err-hand_on-clause-runs_on
returns-in_err-hand_on-clause-runs_on g c = λ since ran. ran

pub returns-in-End-clause-runs_on : goal.returns-in-End-clause-runs_on
returns-in-End-clause-runs_on g c = runs_behind g.T.Tables.is_honest g.T.Tables.is_whole g.T.Tables.means g.T.Tables.may_leave g.T.Tables.faults g.T.Tables.is_stopped (λ w. writer_at g.W.ByteSink.taken g.W.ByteSink.failed w)
    c.args.desk.now c.loop-answered.desk c.serve_one.new.desk c.args.w.now c.loop-answered.w c.serve_one.new.w
    (g.R.MessagesBehind.left c.args.source.now) (g.R.MessagesBehind.left c.loop-answered.source) (g.R.MessagesBehind.left c.serve_one.new.source) (g.R.MessagesBehind.failed c.args.source.now) (g.R.MessagesBehind.failed c.loop-answered.source) (g.R.MessagesBehind.failed c.serve_one.new.source)
    c.loop-answered.answered c.loop-answered.inbox c.serve_one.new.inbox _ c.loop-answered.invariant.0
    c.in_ok-serve_one.field-0 c.in_ok-serve_one.ensures.stepped

pub returns-in-Last-clause-runs_on : goal.returns-in-Last-clause-runs_on
returns-in-Last-clause-runs_on g c = runs_behind g.T.Tables.is_honest g.T.Tables.is_whole g.T.Tables.means g.T.Tables.may_leave g.T.Tables.faults g.T.Tables.is_stopped (λ w. writer_at g.W.ByteSink.taken g.W.ByteSink.failed w)
    c.args.desk.now c.loop-answered.desk c.serve_one.new.desk c.args.w.now c.loop-answered.w c.serve_one.new.w
    (g.R.MessagesBehind.left c.args.source.now) (g.R.MessagesBehind.left c.loop-answered.source) (g.R.MessagesBehind.left c.serve_one.new.source) (g.R.MessagesBehind.failed c.args.source.now) (g.R.MessagesBehind.failed c.loop-answered.source) (g.R.MessagesBehind.failed c.serve_one.new.source)
    c.loop-answered.answered c.loop-answered.inbox c.serve_one.new.inbox _ c.loop-answered.invariant.0
    c.in_ok-serve_one.field-0 c.in_ok-serve_one.ensures.stepped

pub returns-in_err-serve_one-clause-runs_on : goal.returns-in_err-serve_one-clause-runs_on
returns-in_err-serve_one-clause-runs_on g c = runs_given_up g.T.Tables.is_honest g.T.Tables.is_whole g.T.Tables.means g.T.Tables.may_leave g.T.Tables.faults g.T.Tables.is_stopped (λ w. writer_at g.W.ByteSink.taken g.W.ByteSink.failed w)
    c.args.desk.now c.loop-answered.desk c.serve_one.new.desk c.args.w.now c.loop-answered.w c.serve_one.new.w
    (g.R.MessagesBehind.left c.args.source.now) (g.R.MessagesBehind.left c.loop-answered.source) (g.R.MessagesBehind.left c.serve_one.new.source) (g.R.MessagesBehind.failed c.args.source.now) (g.R.MessagesBehind.failed c.loop-answered.source) (g.R.MessagesBehind.failed c.serve_one.new.source)
    c.loop-answered.answered c.loop-answered.inbox c.serve_one.new.inbox _ c.loop-answered.invariant.0
    c.in_err-serve_one.field-0.0 c.in_err-serve_one.ensures.stepped

pub returns-clause-runs_on : goal.returns-clause-runs_on
returns-clause-runs_on g c = c.loop-answered.invariant.0.runs
