use Rattle.sql_decoding.proofs.ColumnsTested.{nothing_previous_stands}
use Rattle.sql_decoding.proofs.columns.previous_at.Goals as goal

pub returns-then-is_text-clause-stands : goal.returns-then-is_text-clause-stands
returns-then-is_text-clause-stands c = nothing_previous_stands c.args.at c.args.row.now (c.is_text.ensures.0 c.if-is_text.true)
