use Rattle.sql_decoding.specs.RowTests.{are_previous}
use Rattle.sql_decoding.proofs.ColumnsRead.{previous_shown}
use Rattle.sql_decoding.proofs.ColumnsTested.{both_tell, both_ok, read_fails, previous_stand, previous_fall}
use Rattle.sql_decoding.proofs.texts.PreviousFromText.from_text.Goals as goal

pub returns-clause-shown : goal.returns-clause-shown
returns-clause-shown c = both_ok c.previous_from.result _ _ _ (λ v is fits at row holds. previous_shown at row c.args.text.now holds v fits is) c.previous_from.ensures.ok c.previous_from.ensures.fits

pub returns-clause-stands : goal.returns-clause-stands
returns-clause-stands c = both_tell c.previous_from.result _ _ (λ v is fits. previous_stand c.args.text.now v fits is) c.previous_from.ensures.ok c.previous_from.ensures.fits

pub returns-clause-falls : goal.returns-clause-falls
returns-clause-falls c = read_fails c.previous_from.result (are_previous c.args.text.now) (λ never. previous_fall c.args.text.now (λ v fits is. never v (c.previous_from.ensures.back v fits is)))
