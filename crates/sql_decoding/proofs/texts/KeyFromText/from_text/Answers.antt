use Rattle.sql_decoding.specs.RowTests.{is_key}
use Rattle.sql_decoding.proofs.ColumnsRead.{key_shown}
use Rattle.sql_decoding.proofs.ColumnsTested.{both_tell, both_ok, read_fails, key_stands, key_falls}
use Rattle.sql_decoding.proofs.texts.KeyFromText.from_text.Goals as goal

pub returns-clause-shown : goal.returns-clause-shown
returns-clause-shown c = both_ok c.key_from.result _ _ _ (λ v is fits at row holds. key_shown at row c.args.text.now holds v fits is) c.key_from.ensures.ok c.key_from.ensures.fits

pub returns-clause-stands : goal.returns-clause-stands
returns-clause-stands c = both_tell c.key_from.result _ _ (λ v is fits. key_stands c.args.text.now v fits is) c.key_from.ensures.ok c.key_from.ensures.fits

pub returns-clause-falls : goal.returns-clause-falls
returns-clause-falls c = read_fails c.key_from.result (is_key c.args.text.now) (λ never. key_falls c.args.text.now (λ v fits is. never v (c.key_from.ensures.back v fits is)))
