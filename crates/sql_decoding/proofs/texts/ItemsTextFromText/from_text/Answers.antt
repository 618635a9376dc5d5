use Rattle.std.proofs.lemmas.Result.{IfOk-weaker}
use Rattle.sql_decoding.specs.RowTests.{are_texts}
use Rattle.sql_decoding.proofs.ColumnsRead.{texts_shown}
use Rattle.sql_decoding.proofs.ColumnsTested.{ok_tells, read_fails, texts_stand, texts_fall}
use Rattle.sql_decoding.proofs.texts.ItemsTextFromText.from_text.Goals as goal

pub returns-clause-shown : goal.returns-clause-shown
returns-clause-shown c = IfOk-weaker c.texts_from.result _ _ (λ v is at row holds. texts_shown at row c.args.text.now holds v is) c.texts_from.ensures.ok

pub returns-clause-stands : goal.returns-clause-stands
returns-clause-stands c = ok_tells c.texts_from.result _ (λ v is. texts_stand c.args.text.now v is) c.texts_from.ensures.ok

pub returns-clause-falls : goal.returns-clause-falls
returns-clause-falls c = read_fails c.texts_from.result (are_texts c.args.text.now) (λ never. texts_fall c.args.text.now (λ v is. never v (c.texts_from.ensures.back v is)))
