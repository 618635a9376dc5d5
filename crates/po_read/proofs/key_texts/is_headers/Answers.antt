use Rattle.std.proofs.Common.{◌&&◌, nat_eq, sym, ◌∙◌, ap}
use Rattle.po_read.proofs.KeyPlaces.{headers_at, is_none_is}
use Rattle.po_read.proofs.key_texts.is_headers.Goals as goal

pub returns-then-is_none : goal.returns-then-is_none
returns-then-is_none c = ap (λ b. b && nat_eq c.args.place.now.start c.args.place.now.end) (sym c.if-is_none.true ∙ sym (is_none_is c.args.place.now.ctx_end c.is_none.result c.is_none.ensures)) ∙ headers_at c.args.bytes.now c.args.place.now c.requires

pub returns-else-is_none : goal.returns-else-is_none
returns-else-is_none c = c.if-is_none.false ∙ ap (λ b. b && nat_eq c.args.place.now.start c.args.place.now.end) (sym c.if-is_none.false ∙ sym (is_none_is c.args.place.now.ctx_end c.is_none.result c.is_none.ensures)) ∙ headers_at c.args.bytes.now c.args.place.now c.requires
