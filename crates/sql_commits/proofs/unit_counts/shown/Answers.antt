use Rattle.std.proofs.Common.{cond, ap, sym, ◌∙◌}
use Rattle.units.specs.Units.{stored_as_shown}
use Rattle.units.specs.declared.unit.ShownState.TheVariants.{ReadOnly}
use Rattle.sql_commits.proofs.unit_counts.shown.Goals as goal

pub returns-then-is_read_only : goal.returns-then-is_read_only
returns-then-is_read_only c unit is = ap (λ b. cond b ReadOnly (stored_as_shown unit.state)) (sym c.if-is_read_only.true ∙ c.is_read_only.ensures)

pub returns-else-is_read_only : goal.returns-else-is_read_only
returns-else-is_read_only c unit is =
    c.stored_shown.ensures ∙ (ap stored_as_shown (sym is) ∙ ap (λ b. cond b ReadOnly (stored_as_shown unit.state)) (sym c.if-is_read_only.false ∙ c.is_read_only.ensures))
