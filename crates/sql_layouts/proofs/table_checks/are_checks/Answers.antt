use Rattle.std.proofs.Common.{◌<◌, sym, subst, ◌∙◌}
use Rattle.std.proofs.lemmas.Bool.{false≢true}
use Rattle.sqlite_schema.specs.Code.{term_in}
use Rattle.sql_layouts.specs.Checks.{check_of}
use Rattle.sql_layouts.proofs.Parts.{same_at}
use Rattle.sql_layouts.proofs.table_checks.are_checks.Goals as goal

pub returns-then-not-is_check : goal.returns-then-not-is_check
returns-then-not-is_check c = (
  λ e. absurd (false≢true e),
  λ all. absurd (false≢true (sym c.if-not-is_check.true ∙ c.is_check.ensures.1
      (same_at (term_in c.args.nodes.now) check_of c.args.roots.now c.args.checks.now c.loop-i.i _ _
      (subst (λ n. c.loop-i.i < n) (sym c.if-roots-checks.false) c.loop-i-test.true) c.loop-i-test.true all))),
)
