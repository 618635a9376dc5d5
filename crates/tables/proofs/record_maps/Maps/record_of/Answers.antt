use Rattle.std.proofs.Common.{Some, None, ap, ◌∙◌}
use Rattle.tables.proofs.Records.{row_at}
use Rattle.tables.proofs.record_maps.Maps.record_of.Goals as goal

pub returns-in_ok-row-in-Some-clause-answer : goal.returns-in_ok-row-in-Some-clause-answer
returns-in_ok-row-in-Some-clause-answer c =
    ap (λ row. Some row) c.in_ok-row-in-Some.ensures ∙ row_at c.args.self.now c.args.number.now (Some c.in-Some.kept.now) c.in-Some.ensures.value

pub returns-in-None-clause-answer : goal.returns-in-None-clause-answer
returns-in-None-clause-answer c = row_at c.args.self.now c.args.number.now None c.in-None.ensures.value
