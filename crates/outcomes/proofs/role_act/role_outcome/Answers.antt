use Rattle.std.proofs.Common.{◌≡◌, true, false, sym, ◌∙◌, arith}
use Rattle.std.specs.Prelude.{nat_lt}
use Rattle.std.specs.List.{list_any}
use Rattle.std.specs.FinMap as maps
use Rattle.std.proofs.lemmas.Grind.{common_steps}
use Rattle.units.specs.Limits.{team_limit}
use Rattle.units.specs.Office.{Office}
use Rattle.units.specs.Changes.{set_role}
use Rattle.units.specs.declared.unit.Refusal.TheVariants.{PastLimit, LastManager}
use Rattle.replies.specs.Bodies.{refused}
use Rattle.office_specification.specs.OfficeActs.{is_manager, team_step}
use Rattle.office_specification.specs.Parts.{ShareTeam}
use Rattle.office_maps.specs.OfficeIn.{office_in}
use Rattle.outcomes.proofs.ActsSettled.{unchanged}
use Rattle.outcomes.proofs.TeamSteps.{team_full, unmanaged, role_settled}
use Rattle.outcomes.proofs.role_act.role_outcome.Goals as goal

pub returns-then-team_size_with-gt-TEAM_LIMIT : goal.returns-then-team_size_with-gt-TEAM_LIMIT
returns-then-team_size_with-gt-TEAM_LIMIT c =
    let office = office_in c.args.office.now in
    let name = c.args.name.now in
    let role = c.args.role in
    let full : nat_lt team_limit (maps.len (set_role name role office.team)) ≡ true = grind (arith, common_steps) in
    unchanged c.refused.result (refused PastLimit) (ShareTeam office) (λ (whole : Office). team_step whole name role) (λ whole alike. team_full office name role whole alike full) c.refused.ensures

pub returns-then-not-has_manager_with : goal.returns-then-not-has_manager_with
returns-then-not-has_manager_with c =
    let office = office_in c.args.office.now in
    let name = c.args.name.now in
    let role = c.args.role in
    let few : nat_lt team_limit (maps.len (set_role name role office.team)) ≡ false = grind (arith, common_steps) in
    let none : list_any is_manager (maps.values (set_role name role office.team)) ≡ false = sym c.has_manager_with.ensures ∙ c.if-not-has_manager_with.true in
    unchanged c.refused-then-not-has_manager_with.result (refused LastManager) (ShareTeam office) (λ (whole : Office). team_step whole name role) (λ whole alike. unmanaged office name role whole alike few none) c.refused-then-not-has_manager_with.ensures

pub returns-in-Ok : goal.returns-in-Ok
returns-in-Ok c =
    let office = office_in c.args.office.now in
    let name = c.args.name.now in
    let role = c.args.role in
    let few : nat_lt team_limit (maps.len (set_role name role office.team)) ≡ false = grind (arith, common_steps) in
    let some : list_any is_manager (maps.values (set_role name role office.team)) ≡ true = sym c.has_manager_with.ensures ∙ c.if-not-has_manager_with.false in
    λ whole alike. role_settled office name role whole alike few some c.in_ok-own.own c.in-Ok.reply c.in_ok-own.ensures c.in-Ok.ensures
