use Rattle.std.proofs.Common.{◌<◌, ◌≤◌, get_or, length, arith}
use Rattle.clr_cert.proofs.NumberTexts.{below_17, below_18, digit_high, digit_in, more_range, more_value}
use Rattle.clr_cert.proofs.number.short_value.Goals as goal

pub overflow_mul-value : goal.overflow_mul-value
overflow_mul-value c =
    let within : c.loop-digit.digit-index < length c.args.digits.now = omega arith in
    record { fits = omega (arith, below_17 c.loop-digit.value c.loop-digit.digit-index (length c.args.digits.now) c.loop-digit.invariant.range within c.requires.short) }

pub overflow_add-value : goal.overflow_add-value
overflow_add-value c =
    let within : c.loop-digit.digit-index < length c.args.digits.now = omega arith in
    let digit = digit_in c.args.digits.now c.loop-digit.digit-index within c.requires.digits in
    let high = digit_high (get_or c.args.digits.now c.loop-digit.digit-index 0) digit in
    let small : c.from.result ≤ 9 = omega (arith, c.from.ensures) in
    record { fits = omega (arith, below_17 c.loop-digit.value c.loop-digit.digit-index (length c.args.digits.now) c.loop-digit.invariant.range within c.requires.short) }

pub loop-digit-preserved : goal.loop-digit-preserved
loop-digit-preserved c =
    let within : c.loop-digit.digit-index < length c.args.digits.now = omega arith in
    let digit = digit_in c.args.digits.now c.loop-digit.digit-index within c.requires.digits in
    let high = digit_high (get_or c.args.digits.now c.loop-digit.digit-index 0) digit in
    let small : c.from.result ≤ 9 = omega (arith, c.from.ensures) in
    record {
      value = more_value c.loop-digit.value c.from.result c.loop-digit.digit-index c.args.digits.now within digit c.from.ensures c.loop-digit.invariant.value;
      range = more_range c.loop-digit.value c.from.result c.loop-digit.digit-index c.loop-digit.invariant.range small;
    }

pub returns-clause-range : goal.returns-clause-range
returns-clause-range c = below_18 c.loop-digit.value c.loop-digit.digit-index c.loop-digit.invariant.range (omega (arith, c.requires.short))
