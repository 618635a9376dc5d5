use Rattle.std.proofs.Common.{[], unwrap_or, ap, ◌∙◌}
use Rattle.sql_decoding.specs.TablesRead.{suggestions_of}
use Rattle.sql_loading.proofs.unit_tables.suggestions_on.Goals as goal

pub returns-in-Some-clause-shown : goal.returns-in-Some-clause-shown
returns-in-Some-clause-shown c =
    c.in_ok-duplicate-in-Some.ensures
    ∙ ap (λ o. unwrap_or o []) c.in-Some.ensures.value
    ∙ (λ i. suggestions_of c.args.all.now (c.in_ok-unit.ensures.lang i) (c.in_ok-unit.ensures.key i))

pub returns-clause-shown : goal.returns-clause-shown
returns-clause-shown c =
    c.new.ensures
    ∙ ap (λ o. unwrap_or o []) c.in-None.ensures.value
    ∙ (λ i. suggestions_of c.args.all.now (c.in_ok-unit.ensures.lang i) (c.in_ok-unit.ensures.key i))
