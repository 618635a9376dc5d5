use Rattle.po_text.proofs.items.Items.into_vec.Goals as goal

pub returns : goal.returns
returns g c = c.self.view_is
