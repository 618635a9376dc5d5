use Rattle.std.proofs.Common.{ap}
use Rattle.units.specs.Office.{Office, project_in}
use Rattle.office_specification.specs.Deliveries.{first_of}
use Rattle.office_specification.specs.ExportText.{export_text}
use Rattle.office_specification.proofs.commuting.Swaps.{alike_after}
use Rattle.office_specification.proofs.laws.equal_exports.Goals as goal

pub returns-clause-book : goal.returns-clause-book
returns-clause-book c = λ x y same domain lang. ap (λ (office : Office). export_text (project_in office domain) lang) same

pub returns-clause-alike : goal.returns-clause-alike
returns-clause-alike c = λ start xs ys alike domain lang. ap (λ (office : Office). export_text (project_in office domain) lang) (alike_after (first_of start.book xs) (first_of start.book ys) start.office alike)
