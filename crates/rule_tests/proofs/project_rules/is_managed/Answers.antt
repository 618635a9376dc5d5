use Rattle.std.proofs.Common.{not, sym, ap, ◌∙◌, rules, tests}
use Rattle.std.specs.List.{list_any}
use Rattle.std.specs.Map.{values_of}
use Rattle.std.proofs.lemmas.Iterator.Search.{any_from_yields_List}
use Rattle.std.proofs.lemmas.Iterator.Consumers.{YieldsList-from_rest}
use Rattle.units.specs.Units.{is_below}
use Rattle.units.specs.declared.unit.Role.{Role}
use Rattle.units.specs.declared.unit.Role.TheVariants.{Manager}
use Rattle.rule_tests.proofs.TeamTests.{roles}
use Rattle.rule_tests.proofs.project_rules.is_managed.Goals as goal

pub returns : goal.returns
returns c =
    any_from_yields_List (λ (role : Role). not (is_below role Manager)) _ _ c.any.result c.any.ensures.ran (YieldsList-from_rest (values_of c.args.team.now.entries) c.values.ensures.rest)
    (λ x b q k. search (rules, tests))
    ∙ ap (list_any (λ (role : Role). not (is_below role Manager))) (sym (roles c.args.team.now c.values.ensures.ordered))
