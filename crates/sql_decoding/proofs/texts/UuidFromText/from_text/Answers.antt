use Rattle.std.proofs.Common.{rules}
use Rattle.sql_decoding.proofs.ColumnsRead.{number_shown}
use Rattle.sql_decoding.proofs.ColumnsTested.{err_says, number_stands, number_falls}
use Rattle.sql_decoding.proofs.texts.UuidFromText.from_text.Goals as goal

pub returns-clause-shown : goal.returns-clause-shown
returns-clause-shown c = λ at row holds. number_shown at row c.args.text.now holds c.in_ok-number.number (search rules) c.in_ok-number.ensures.ok

pub returns-clause-stands : goal.returns-clause-stands
returns-clause-stands c = number_stands c.args.text.now c.in_ok-number.number (search rules) c.in_ok-number.ensures.ok

pub returns-in_err-number-clause-falls : goal.returns-in_err-number-clause-falls
returns-in_err-number-clause-falls c =
    err_says c.from_residual.result _ (λ fault other. number_falls c.args.text.now (λ n fits is. absurd (let h = c.in_err-number.ensures.back n fits is in cc)))
