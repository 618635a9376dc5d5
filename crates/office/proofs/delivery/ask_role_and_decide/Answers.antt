use Rattle.std.proofs.Common.{sym, ◌∙◌, ap, subst}
use Rattle.std.specs.Prelude.{IfOk}
use Rattle.std.proofs.lemmas.Result.{err_from_is_err_and}
use Rattle.units.specs.Project.{role_in}
use Rattle.units.specs.Units.{is_below}
use Rattle.units.specs.declared.unit.Role.{Role}
use Rattle.units.specs.declared.unit.Role.TheVariants.{Manager}
use Rattle.request_book.specs.Book.{OfficeWithBook}
use Rattle.office_specification.specs.Step.{step}
use Rattle.outcomes.specs.Settled.{IsSettled}
use Rattle.office.proofs.RoleAsked.{refused_by_role}
use Rattle.office.proofs.Stopped.{alike, read_done, read_failed, read_then, read_then_memory}
use Rattle.office.proofs.delivery.ask_role_and_decide.Goals as goal

-- refused by the role
pub returns-then-is_below-clause-answer : goal.returns-then-is_below-clause-answer
returns-then-is_below-clause-answer g c = λ honest.
    refused_by_role (g.T.Tables.means c.args.tables.now).office c.args.request.now c.in_ok-outcome.field-0 c.in_ok-role.role
    c.requires.act (c.in_ok-role.ensures.answer honest) (sym c.is_below.ensures ∙ c.if-is_below.true) c.in_ok-outcome.ensures

pub returns-then-is_below-clause-kept : goal.returns-then-is_below-clause-kept
returns-then-is_below-clause-kept g c = read_done c.in_ok-role.ensures.kept

pub decide_by_act-requires-clause-manager : goal.decide_by_act-requires-clause-manager
decide_by_act-requires-clause-manager g c = λ honest.
    let whole = c.in_ok-role.ensures.kept.open_still honest in
    ap (λ (m : OfficeWithBook). is_below (role_in m.office.team c.args.request.now.caller) Manager) (c.role_of.ensures.same honest whole)
    ∙ (ap (λ (role : Role). is_below role Manager) (sym (c.in_ok-role.ensures.answer honest)) ∙ (sym c.is_below.ensures ∙ c.if-is_below.false))

-- decided over the office
pub returns-clause-answer : goal.returns-clause-answer
returns-clause-answer g c = λ honest.
    let was = c.decide_by_act.ensures.kept.honest honest in
    let whole = c.in_ok-role.ensures.kept.open_still was in
    subst (λ (m : OfficeWithBook). IfOk c.decide_by_act.result (λ outcome. IsSettled m.office outcome (step m.office c.args.request.now)))
    (c.role_of.ensures.same was whole) (c.decide_by_act.ensures.answer honest)

pub returns-clause-same : goal.returns-clause-same
returns-clause-same g c = λ honest whole.
    let was = c.decide_by_act.ensures.kept.honest honest in
    c.decide_by_act.ensures.same honest whole ∙ c.role_of.ensures.same was (c.decide_by_act.ensures.kept.whole honest whole)

pub returns-clause-kept : goal.returns-clause-kept
returns-clause-kept g c =
    read_then (alike c.decide_by_act.result) c.in_ok-role.ensures.kept c.decide_by_act.ensures.kept (λ honest m never. never)

-- failures
pub returns-in_err-role-clause-kept : goal.returns-in_err-role-clause-kept
returns-in_err-role-clause-kept g c =
    let p = err_from_is_err_and c.from_residual.result c.from_residual.ensures.1 in rw (p.1, p.2) (read_failed c.in_err-role.ensures.kept)

pub returns-in_err-outcome-clause-kept : goal.returns-in_err-outcome-clause-kept
returns-in_err-outcome-clause-kept g c =
    let p = err_from_is_err_and c.from_residual-in_err-outcome.result c.from_residual-in_err-outcome.ensures.1 in rw (p.1, p.2) (read_then_memory c.in_ok-role.ensures.kept)

pub returns-in_err-part-clause-kept : goal.returns-in_err-part-clause-kept
returns-in_err-part-clause-kept g c =
    let p = err_from_is_err_and c.from_residual-in_err-part.result c.from_residual-in_err-part.ensures.1 in rw (p.1, p.2) (read_then_memory c.in_ok-role.ensures.kept)
