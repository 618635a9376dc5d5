use Rattle.std.proofs.Common.{ap}
use Rattle.units.specs.Office.{Office, project_in}
use Rattle.office_specification.specs.ExportText.{export_text}
use Rattle.office_laws.proofs.Reached.{replies_once, office_once, recorded_in_order}
use Rattle.office_laws.proofs.simulation.retry_simulation.Goals as goal

pub returns-clause-replies : goal.returns-clause-replies
returns-clause-replies c = replies_once

pub returns-clause-office : goal.returns-clause-office
returns-clause-office c = office_once

pub returns-clause-exports : goal.returns-clause-exports
returns-clause-exports c = λ start requests world is finished domain lang. ap (λ (office : Office). export_text (project_in office domain) lang) (office_once start requests world is finished)

pub returns-clause-order : goal.returns-clause-order
returns-clause-order c = recorded_in_order
