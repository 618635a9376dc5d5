use Rattle.http_api.proofs.Coming.{adds_nothing}
use Rattle.http_api.proofs.Exporting.{measured_if, unmeasured_if, open_if_absent}
use Rattle.tables.proofs.RunsOn.{kept_runs_on}
use Rattle.http_api.proofs.exports.measure.Goals as goal

pub returns-clause-ok : goal.returns-clause-ok
returns-clause-ok g c = λ h. measured_if _ _ _ c.export.result (c.export.ensures.text h)

pub returns-clause-err : goal.returns-clause-err
returns-clause-err g c = λ h. unmeasured_if _ _ _ _ _ c.export.result (c.export.ensures.err h)

pub returns-clause-no_language : goal.returns-clause-no_language
returns-clause-no_language g c = λ h. open_if_absent c.export.result (c.export.ensures.open_still h)

pub returns-clause-stops : goal.returns-clause-stops
returns-clause-stops g c = λ h. adds_nothing (c.export.ensures.kept.stops h)

pub returns-clause-runs_on : goal.returns-clause-runs_on
returns-clause-runs_on g c = kept_runs_on c.export.ensures.kept
