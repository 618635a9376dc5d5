use Rattle.std.proofs.Common.{ap, ◌∙◌}
use Rattle.units.specs.Units.{shown_state}
use Rattle.office_specification.specs.declared.tally.Tally.{Tally}
use Rattle.sql_commits.proofs.UnitTallied.{obsolete_counted, shown_counted}
use Rattle.sql_commits.proofs.unit_counts.counted_so.Goals as goal

pub returns-then-values : goal.returns-then-values
returns-then-values c template unit is_source has = ap (λ (t : Tally). record t { obsolete = 1 }) c.none-tally.ensures ∙ obsolete_counted template unit (has.1 ∙ c.if-values.true)

pub returns-else-values : goal.returns-else-values
returns-else-values c template unit is_source has =
    c.shown_once.ensures ∙ shown_counted template unit c.args.values.now.suggestions c.shown.result (has.1 ∙ c.if-values.false) has.2 (c.shown.ensures unit has.0 ∙ ap (λ e. shown_state e unit) is_source)
