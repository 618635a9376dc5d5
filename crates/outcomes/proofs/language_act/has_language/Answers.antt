use Rattle.std.proofs.Common.{is_some, sym, ap, ◌∙◌}
use Rattle.outcomes.proofs.Teams.{is_copied, has_code}
use Rattle.outcomes.proofs.language_act.has_language.Goals as goal

pub returns : goal.returns
returns c = c.is_some.ensures ∙ (sym (is_copied c.get.result) ∙ (ap is_some c.get.ensures ∙ sym (has_code c.args.project.now.domain.now.languages.rows c.args.lang.now)))
