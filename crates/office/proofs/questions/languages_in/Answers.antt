use Rattle.std.proofs.Common.{◌≡◌, subst}
use Rattle.std.specs.Prelude.{IfOk}
use Rattle.office_maps.specs.OfficeIn.{office_in}
use Rattle.units.specs.Project.{Project, languages}
use Rattle.office.proofs.NoLanguages.{no_languages}
use Rattle.office.proofs.questions.languages_in.Goals as goal

pub returns-in-Some : goal.returns-in-Some
returns-in-Some c = subst (λ (p : Project). IfOk c.languages.result (λ all. all.items ≡ languages p)) c.in-Some.ensures.its c.languages.ensures

pub returns-in-None : goal.returns-in-None
returns-in-None c = no_languages (office_in c.args.office.now) c.args.domain.now c.new.result.items c.in-None.ensures.none c.new.ensures.items
