use Rattle.commands.proofs.Gathered.{last_answered}
use Rattle.commands.proofs.Losing.{one_told}
use Rattle.commands.proofs.deliver.answer_last.Goals as goal

pub returns : goal.returns
returns g c = λ rest gathers.
    let x = c.answer.ensures rest gathers in
    last_answered rest (c.is_empty.ensures.some c.if-is_empty.false rest gathers) (record { x = x.0; is = x.1; did = (x.2, one_told c.answer.result x.0 x.4); wrote = x.3 })
