use Rattle.std.proofs.Common.{◌≡◌, [], ap, ◌∙◌, rules}
use Rattle.sql_meaning.specs.Shown.{shown_unit}
use Rattle.sql_adoption.proofs.unit_sinks.shown_in.Goals as goal

pub returns-clause-unit : goal.returns-clause-unit
returns-clause-unit c =
    let none : c.new.result ≡ [] = search rules in
    let key = ap (λ place. place.1) c.in_ok-place.ensures.shown in
    c.in_ok-unit.ensures.shown ∙ (λ i. shown_unit (key i) (none i) c.args.row.now)
