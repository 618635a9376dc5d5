use Rattle.std.proofs.Common.{sym, ap, ◌∙◌, rules, tests}
use Rattle.std.specs.List.{list_all}
use Rattle.std.specs.Map.{values_of}
use Rattle.std.proofs.lemmas.Iterator.Search.{all_from_yields_List}
use Rattle.std.proofs.lemmas.Iterator.Consumers.{YieldsList-from_rest}
use Rattle.units.specs.Units.{is_below}
use Rattle.units.specs.declared.unit.Role.TheVariants.{Guest}
use Rattle.rule_tests.proofs.TeamTests.{roles}
use Rattle.rule_tests.proofs.project_rules.has_no_guest.Goals as goal

pub returns : goal.returns
returns c =
    all_from_yields_List (is_below Guest) _ _ c.all.result c.all.ensures.ran (YieldsList-from_rest (values_of c.args.team.now.entries) c.values.ensures.rest) (λ x b q k. search (rules, tests))
    ∙ ap (list_all (is_below Guest)) (sym (roles c.args.team.now c.values.ensures.ordered))
