use Rattle.std.proofs.Common.{IfSome, Option, sym, subst}
use Rattle.request_book.specs.declared.parts.Parts.{Parts}
use Rattle.request_book.specs.Fields.{IsPartsText}
use Rattle.request_book.proofs.TokenReads.{read_unit}
use Rattle.request_book.proofs.straight.straight_parts.Goals as goal

pub returns : goal.returns
returns c =
    subst (λ (o : Option Parts). IfSome o (IsPartsText c.args.text.now)) (sym c.parts_of_unit.ensures)
    (read_unit c.args.text.now _ _ _ c.in_ok-word.ensures c.in_ok-members.ensures)
