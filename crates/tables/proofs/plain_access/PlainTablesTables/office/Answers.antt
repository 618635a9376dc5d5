use Rattle.office_specification.proofs.acts.PartSteps.{same_alike}
use Rattle.office_maps.specs.OfficeIn.{office_in}
use Rattle.tables.proofs.plain_access.PlainTablesTables.office.Goals as goal

pub returns : goal.returns
returns c = λ honest whole part loaded. same_alike part (office_in c.args.self.now.maps.office)
