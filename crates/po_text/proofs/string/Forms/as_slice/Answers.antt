use Rattle.std.proofs.Common.{◌∙◌}
use Rattle.po_text.proofs.string.Forms.as_slice.Goals as goal

pub returns-clause-value : goal.returns-clause-value
returns-clause-value c = c.as_slice.ensures ∙ c.self.view_is
