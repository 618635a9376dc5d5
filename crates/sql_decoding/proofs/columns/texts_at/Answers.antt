use Rattle.std.proofs.Common.{◌∙◌}
use Rattle.sql_decoding.proofs.ColumnsRead.{no_texts_shown}
use Rattle.sql_decoding.proofs.ColumnsTested.{no_texts_stand}
use Rattle.sql_decoding.proofs.columns.texts_at.Goals as goal

pub returns-then-is_text-clause-shown : goal.returns-then-is_text-clause-shown
returns-then-is_text-clause-shown c = c.new.ensures ∙ no_texts_shown c.args.at c.args.row.now (c.is_text.ensures.0 c.if-is_text.true)

pub returns-then-is_text-clause-stands : goal.returns-then-is_text-clause-stands
returns-then-is_text-clause-stands c = no_texts_stand c.args.at c.args.row.now (c.is_text.ensures.0 c.if-is_text.true)
