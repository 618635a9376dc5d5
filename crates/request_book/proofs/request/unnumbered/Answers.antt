use Rattle.std.proofs.Common.{ℕ, List, Option, Some, sym, ap, ◌∙◌}
use Rattle.request_book.specs.declared.act.Request.{Request}
use Rattle.request_book.specs.Fields.{to_content}
use Rattle.request_book.proofs.request.unnumbered.Goals as goal

pub returns-in-Some-None : goal.returns-in-Some-None
returns-in-Some-None c =
    let made : List ℕ → Option Request = λ n. Some (record { number = n; caller = c.in-Some-None.caller; act = c.args.parts.act }) in
    ap made c.nil.ensures ∙ (λ i. to_content (sym c.in-Some-None.is-0 i) (sym c.in-Some-None.is-1 i) c.args.parts.act)
