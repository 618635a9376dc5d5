use Rattle.std.proofs.Common.{◌++◌, sym, ap, ◌∙◌}
use Rattle.std.proofs.lemmas.List.{append-nil}
use Rattle.checks.proofs.FormatScans.{none_at_end}
use Rattle.checks.proofs.scan.placeholder_texts.Goals as goal

pub returns : goal.returns
returns c =
    let found = c.loop-rest.found.items in
    let none = none_at_end c.args.format c.loop-rest.rest.now (sym c.is_empty.ensures ∙ c.loop-rest-test.false) in
    sym (append-nil found) ∙ ap (λ ds. found ++ ds) (sym none) ∙ c.loop-rest.invariant
