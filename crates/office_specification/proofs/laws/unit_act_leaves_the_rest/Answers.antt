use Rattle.std.proofs.Common.{sym, subst}
use Rattle.po_text.specs.Texts.{Text}
use Rattle.units.specs.Project.{Project}
use Rattle.units.specs.Office.{Office, project_in}
use Rattle.units.specs.declared.unit.Key.{Key}
use Rattle.units.specs.declared.unit.UnitAct.{UnitAct}
use Rattle.request_book.specs.declared.act.Act.{Act}
use Rattle.request_book.specs.declared.act.Act.TheVariants.{OnUnit}
use Rattle.replies.specs.Bodies.{Stepped}
use Rattle.office_specification.specs.Laws.{DiffersAt}
use Rattle.office_specification.specs.ProjectActs.{unit_act_step}
use Rattle.office_specification.specs.Step.{act_step}
use Rattle.office_specification.specs.UnitAccess.{context_of}
use Rattle.office_specification.specs.UnitOutcomes.{outcome_of}
use Rattle.office_specification.proofs.acts.UnitActs.{unit_act_step-is, RestStays, rest_stays, office_rest_stays}
use Rattle.office_specification.proofs.laws.unit_act_leaves_the_rest.Goals as goal

on_unit : (office : Office) (caller number domain lang : Text) (key : Key) (act : UnitAct) → DiffersAt (domain, (lang, key)) office (act_step office caller number (OnUnit domain lang key act)).0
unfolding act_step
on_unit office caller number domain lang key act =
    let project : Project = project_in office domain in
    office_rest_stays office domain (lang, key) (unit_act_step project caller number (lang, key) act).0
    (subst (λ (s : Stepped Project). RestStays (lang, key) project s.0) (sym (unit_act_step-is project caller number lang key act))
    (rest_stays project lang key (outcome_of (context_of project lang key caller) caller number act).view))

pub returns : goal.returns
returns c = λ office request domain lang key act is.
    subst (λ (a : Act). DiffersAt (domain, (lang, key)) office (act_step office request.caller request.number a).0) (sym is) (on_unit office request.caller request.number domain lang key act)
