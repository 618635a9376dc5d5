use Rattle.std.proofs.Common.{String, string_bytes, not, ◌&&◌, sym, ◌∙◌, rules, tests}
use Rattle.std.proofs.lemmas.Iterator.Search.{any_from_yields_List}
use Rattle.std.proofs.lemmas.Iterator.Consumers.{YieldsList-from_rest}
use Rattle.po_text.specs.Texts.{text_eq}
use Rattle.units.specs.declared.unit.Role.{Role}
use Rattle.office_specification.specs.OfficeActs.{is_manager}
use Rattle.office_maps.specs.Rows.{team_in}
use Rattle.outcomes.proofs.Teams.{own_manager, manager_among_others}
use Rattle.outcomes.proofs.role_act.has_manager_with.Goals as goal

pub returns-then-is_manager : goal.returns-then-is_manager
returns-then-is_manager c = c.if-is_manager.true ∙ own_manager (team_in c.args.office.now.team) c.args.name.now c.args.role (sym c.is_manager.ensures ∙ c.if-is_manager.true)

pub returns-else-is_manager : goal.returns-else-is_manager
returns-else-is_manager c =
    any_from_yields_List (λ (e : String _ × Role). not (text_eq (string_bytes e.0) c.args.name.now) && is_manager e.1) _ _ c.any.result c.any.ensures.ran
    (YieldsList-from_rest c.args.office.now.team.entries c.iter.ensures.rest) (λ x b q k. search (rules, tests))
    ∙ manager_among_others c.args.office.now.team c.iter.ensures.ordered c.args.name.now c.args.role (sym c.is_manager.ensures ∙ c.if-is_manager.false)
