use Rattle.std.proofs.lemmas.Result.{IfOk-weaker}
use Rattle.sql_decoding.specs.RowTests.{are_forms}
use Rattle.sql_decoding.proofs.ColumnsRead.{texts_shown}
use Rattle.sql_decoding.proofs.ColumnsTested.{both_tell, read_fails, forms_stand, forms_fall}
use Rattle.sql_decoding.proofs.texts.FormsFromText.from_text.Goals as goal

pub returns-clause-shown : goal.returns-clause-shown
returns-clause-shown c = IfOk-weaker c.forms_from.result _ _ (λ v is at row holds. texts_shown at row c.args.text.now holds v is) c.forms_from.ensures.ok

pub returns-clause-stands : goal.returns-clause-stands
returns-clause-stands c = both_tell c.forms_from.result _ _ (λ v is fits. forms_stand c.args.text.now v fits is) c.forms_from.ensures.ok c.forms_from.ensures.fits

pub returns-clause-falls : goal.returns-clause-falls
returns-clause-falls c = read_fails c.forms_from.result (are_forms c.args.text.now) (λ never. forms_fall c.args.text.now (λ v fits is. never v (c.forms_from.ensures.back v fits is)))
