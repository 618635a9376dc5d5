use Rattle.std.proofs.Common.{◌≡◌, replicate, []}
use Rattle.template_update.proofs.refit.forms_of.Given as goal

abbrev pub invariant-loop : goal.invariant-loop
invariant-loop l = l.forms ≡ replicate l.counter []
