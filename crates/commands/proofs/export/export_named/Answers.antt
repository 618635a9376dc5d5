use Rattle.std.proofs.Common.{inl, refl, ap, Result, Err}
use Rattle.std.specs.Prelude.{option_map}
use Rattle.office.specs.declared.export.ExportReceipt.{ExportReceipt}
use Rattle.office.specs.declared.faults.ExportFault.{ExportFault}
use Rattle.commands.specs.DeliverLines.{unnamed, written, faulted}
use Rattle.office.proofs.Streaming.{took_none}
use Rattle.commands.proofs.Exporting.{text_taken, adds_nothing}
use Rattle.tables.proofs.RunsOn.{kept_runs_on}
use Rattle.commands.proofs.export.export_named.Goals as goal

pub returns-in-None-clause-exported : goal.returns-in-None-clause-exported
returns-in-None-clause-exported g c = unnamed (ap (option_map _) c.in-None.is) (took_none _ _) (took_none _ _) refl

pub returns-in-Ok-clause-exported : goal.returns-in-Ok-clause-exported
returns-in-Ok-clause-exported g c =
    let done = c.in-Ok.ensures in
    written c.in-Some.lang.now (ap (option_map _) c.in-Some.is) done.kept.open_still (λ h. text_taken _ _ _ _ (done.text h)) (took_none _ _) refl

pub returns-in-Err-clause-exported : goal.returns-in-Err-clause-exported
returns-in-Err-clause-exported g c =
    let cut = c.in-Err.ensures in
    faulted c.in-Some.lang.now (ap (option_map _) c.in-Some.is)
    (record { fault = c.in-Err.fault; cut = cut.err; device = cut.device; disk = cut.kept.disk; told = c.tell_fault.ensures.told })
    (λ h none. cut.open_still h (ap {A = ExportFault} {B = Result ExportReceipt ExportFault} (λ e. Err e) none))
    c.tell_fault.ensures.status

pub returns-in-None-clause-stops : goal.returns-in-None-clause-stops
returns-in-None-clause-stops g c = λ h now is. inl is

pub returns-in-Ok-clause-stops : goal.returns-in-Ok-clause-stops
returns-in-Ok-clause-stops g c = λ h. adds_nothing (c.in-Ok.ensures.kept.stops h)

pub returns-in-Err-clause-stops : goal.returns-in-Err-clause-stops
returns-in-Err-clause-stops g c = λ h. adds_nothing (c.in-Err.ensures.kept.stops h)

pub returns-in-Ok-clause-runs_on : goal.returns-in-Ok-clause-runs_on
returns-in-Ok-clause-runs_on g c = kept_runs_on c.in-Ok.ensures.kept

pub returns-in-Err-clause-runs_on : goal.returns-in-Err-clause-runs_on
returns-in-Err-clause-runs_on g c = kept_runs_on c.in-Err.ensures.kept
