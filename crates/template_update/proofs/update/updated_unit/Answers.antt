use Rattle.std.specs.Option.{option_copied}
use Rattle.template_update.proofs.Moving.{is_within}
use Rattle.template_update.proofs.update.updated_unit.Goals as goal

pub returns : goal.returns
returns c =
    is_within c.args.rule.now (option_copied c.args.present) (option_copied c.args.next) c.args.unit.now c.update_by-update.result (option_copied c.plural_of.result) c.in_ok-duplicate.field-0 c.in_ok-unit.unit c.in-Some.revision
    c.update_by-update.ensures c.plural_of.ensures c.in_ok-duplicate.ensures c.in-Some.ensures c.in_ok-unit.ensures
