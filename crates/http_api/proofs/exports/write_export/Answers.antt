use Rattle.std.proofs.Common.{◌≡◌, inl, true, ap, Result, Err, ◌∙◌}
use Rattle.http_api.specs.declared.faults.ServeFault.{ServeFault}
use Rattle.http_api.specs.declared.faults.ServeFault.TheVariants as fault
use Rattle.office.specs.Writers.{writer_at}
use Rattle.http_api.specs.Answering.{AnswerFailed}
use Rattle.http_api.proofs.Coming.{adds_nothing}
use Rattle.http_api.proofs.Handing.{passed_on}
use Rattle.http_api.proofs.Exporting.{text_written, text_broke_off, head_broke_off, export_failed}
use Rattle.tables.proofs.RunsOn.{kept_runs_on}
use Rattle.http_api.proofs.exports.write_export.Goals as goal

pub returns-in_err-write_head-clause-wrote : goal.returns-in_err-write_head-clause-wrote
returns-in_err-write_head-clause-wrote g c = λ text holds.
    head_broke_off _ (writer_at g.W.ByteSink.taken g.W.ByteSink.failed c.args.w.now) (writer_at g.W.ByteSink.taken g.W.ByteSink.failed c.write_head.new.w) c.args.receipt _ text c.args.last c.from_residual.result c.from_residual.ensures.1 (λ h. h) holds c.in_err-write_head.ensures

pub returns-in-Ok-clause-wrote : goal.returns-in-Ok-clause-wrote
returns-in-Ok-clause-wrote g c = λ text holds.
    text_written {T = Unit {0}} (g.T.Tables.is_stopped c.export.new.self ≡ true) (writer_at g.W.ByteSink.taken g.W.ByteSink.failed c.args.w.now) (writer_at g.W.ByteSink.taken g.W.ByteSink.failed c.write_head.new.w) (writer_at g.W.ByteSink.taken g.W.ByteSink.failed c.export.new.w) c.args.receipt c.in-Ok._written _ text c.args.last tt c.in-Ok.ensures.kept.honest holds c.in_ok-write_head.ensures c.in-Ok.ensures.text c.in-Ok.ensures.count

pub returns-in-Err-clause-wrote : goal.returns-in-Err-clause-wrote
returns-in-Err-clause-wrote g c = λ text holds.
    text_broke_off {T = Unit {0}} (writer_at g.W.ByteSink.taken g.W.ByteSink.failed c.args.w.now) (writer_at g.W.ByteSink.taken g.W.ByteSink.failed c.write_head.new.w) (writer_at g.W.ByteSink.taken g.W.ByteSink.failed c.export.new.w) c.args.receipt _ text c.args.last c.in-Err.fault (Err c.export_fault.result) (ap {A = ServeFault} {B = Result (Unit {0}) ServeFault} (λ e. Err e) c.export_fault.ensures) c.in-Err.ensures.kept.honest holds c.in_ok-write_head.ensures c.in-Err.ensures.err c.in-Err.ensures.kept.disk

pub returns-in_err-write_head-clause-failures : goal.returns-in_err-write_head-clause-failures
returns-in_err-write_head-clause-failures g c =
    let old = g.W.ByteSink.failed c.args.w.now in
    let new = g.W.ByteSink.failed c.write_head.new.w in
    passed_on (λ _. new ≡ old) (AnswerFailed (g.T.Tables.is_stopped c.args.desk.now ≡ true) old new) c.from_residual.result fault.Write c.from_residual.ensures.1 c.in_err-write_head.ensures.count

pub returns-in-Ok-clause-failures : goal.returns-in-Ok-clause-failures
returns-in-Ok-clause-failures g c = c.in-Ok.ensures.unfailed ∙ c.in_ok-write_head.ensures.count

pub returns-in-Err-clause-failures : goal.returns-in-Err-clause-failures
returns-in-Err-clause-failures g c =
    export_failed (g.T.Tables.is_stopped c.export.new.self ≡ true) (g.W.ByteSink.failed c.args.w.now) (g.W.ByteSink.failed c.write_head.new.w) (g.W.ByteSink.failed c.export.new.w) c.in-Err.fault c.export_fault.result c.export_fault.ensures c.in_ok-write_head.ensures.count c.in-Err.ensures.device c.in-Err.ensures.kept.disk

pub returns-in_err-write_head-clause-runs_on : goal.returns-in_err-write_head-clause-runs_on
returns-in_err-write_head-clause-runs_on g c = λ since ran. ran

pub returns-in-Ok-clause-runs_on : goal.returns-in-Ok-clause-runs_on
returns-in-Ok-clause-runs_on g c = kept_runs_on c.in-Ok.ensures.kept

pub returns-in-Err-clause-runs_on : goal.returns-in-Err-clause-runs_on
returns-in-Err-clause-runs_on g c = kept_runs_on c.in-Err.ensures.kept

pub returns-in_err-write_head-clause-stops : goal.returns-in_err-write_head-clause-stops
returns-in_err-write_head-clause-stops g c = λ h m left. inl left

pub returns-in-Ok-clause-stops : goal.returns-in-Ok-clause-stops
returns-in-Ok-clause-stops g c = λ h. adds_nothing (c.in-Ok.ensures.kept.stops h)

pub returns-in-Err-clause-stops : goal.returns-in-Err-clause-stops
returns-in-Err-clause-stops g c = λ h. adds_nothing (c.in-Err.ensures.kept.stops h)
