use Rattle.std.proofs.Common.{◌+◌, arith}
use Rattle.clr_cert.specs.Numbers.{most_size}
use Rattle.clr_cert.proofs.NumberTexts.{digit_in, held_more}
use Rattle.clr_cert.proofs.number.held_value.Goals as goal

pub loop-digit-preserved : goal.loop-digit-preserved
loop-digit-preserved c =
    held_more (most_size + 1) c.loop-digit.value c.next_value-value.result c.loop-digit.digit-index c.args.digits.now
    (omega arith) (digit_in c.args.digits.now c.loop-digit.digit-index (omega arith) c.requires) c.loop-digit.invariant c.next_value-value.ensures
