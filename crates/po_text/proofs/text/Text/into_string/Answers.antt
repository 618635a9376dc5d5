use Rattle.po_text.proofs.text.Text.into_string.Goals as goal

pub returns : goal.returns
returns c = c.self.view_is
