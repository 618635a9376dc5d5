use Rattle.std.proofs.Common.{◌≡◌, ◌<◌, take, get_or, arith, true, ◌∙◌, sym}
use Rattle.std.proofs.lemmas.List.Folds.{list_all_more}
use Rattle.std.specs.Char.{is_ascii_digit}
use Rattle.std.specs.Str.Parse.{digits_value}
use Rattle.http_messages.proofs.LineLemmas.{both_true}
use Rattle.http_messages.proofs.ValueLemmas.{digits_below, digits_more, digit_is}
use Rattle.http_messages.proofs.lines.length_from.Goals as goal

pub overflow_mul-number : goal.overflow_mul-number
overflow_mul-number c =
    let below : digits_value 10 (take c.loop-digit.digit-index c.args.digits.now) < 100000000 =
    digits_below c.args.digits.now c.loop-digit.digit-index c.loop-digit.invariant.digits c.loop-digit-test.true c.if-digits-gt9.false in
    omega (arith, below, c.loop-digit.invariant.number)

pub overflow_add-number : goal.overflow_add-number
overflow_add-number c =
    let below : digits_value 10 (take c.loop-digit.digit-index c.args.digits.now) < 100000000 =
    digits_below c.args.digits.now c.loop-digit.digit-index c.loop-digit.invariant.digits c.loop-digit-test.true c.if-digits-gt9.false in
    let digit = digit_is (get_or c.args.digits.now c.loop-digit.digit-index 0) (sym c.is_ascii_digit.ensures.value ∙ c.if-not-is_ascii_digit.false) in
    omega (arith, below, c.loop-digit.invariant.number, c.from.ensures, digit.0, digit.1)

pub loop-digit-preserved : goal.loop-digit-preserved
loop-digit-preserved c =
    let is : is_ascii_digit (get_or c.args.digits.now c.loop-digit.digit-index 0) ≡ true = sym c.is_ascii_digit.ensures.value ∙ c.if-not-is_ascii_digit.false in
    let digit = digit_is (get_or c.args.digits.now c.loop-digit.digit-index 0) is in
    let more = digits_more c.args.digits.now c.loop-digit.digit-index c.loop-digit-test.true in record {
      number = omega (arith, more, c.loop-digit.invariant.number, c.from.ensures, digit.0);
      digits = list_all_more is_ascii_digit c.args.digits.now c.loop-digit.digit-index 0 c.loop-digit-test.true ∙ both_true _ _ c.loop-digit.invariant.digits is;
    }
