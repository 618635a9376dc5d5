use Rattle.po_read.proofs.Drafts.{forms_more}
use Rattle.po_read.proofs.message.Message.add_more.Goals as goal

pub returns-in-Counted : goal.returns-in-Counted
returns-in-Counted c = forms_more c.add_piece-in-Counted.result c.args.self.now c.in-Counted.ctx c.in-Counted.id c.in-Counted.plural c.in-Counted.forms c.add_piece-in-Counted.new.self _ c.in-Counted.is c.add_piece-in-Counted.ensures.were c.add_piece-in-Counted.ensures.more
