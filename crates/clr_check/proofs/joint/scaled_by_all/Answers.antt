use Rattle.std.proofs.Common.{◌≡◌, ◌-◌, ◌^◌, ◌*ℤ◌, ◌∙◌, ap, arith, length, pos}
use Rattle.clr_cert.specs.Entries.{most_entry}
use Rattle.clr_check.proofs.JointSums.{times_fits, times_is, times_sum}
use Rattle.clr_check.proofs.Sides.{read_128}
use Rattle.clr_check.proofs.joint.scaled_by_all.Goals as goal

pub overflow_mul-result : goal.overflow_mul-result
overflow_mul-result c = times_fits c.args.value c.args.value c.from.result most_entry c.base_after.result (read_128 c.args.value most_entry c.requires.value (omega arith)) c.from.ensures c.requires.value (omega arith) c.base_after.ensures.size

pub returns-clause-value : goal.returns-clause-value
returns-clause-value c =
    let whole : length c.args.season.now.stores - 0 ≡ length c.args.season.now.stores = omega arith in
    times_is c.args.value c.args.value c.from.result most_entry c.base_after.result (read_128 c.args.value most_entry c.requires.value (omega arith)) c.from.ensures c.requires.value (omega arith) c.base_after.ensures.size
    ∙ ap (λ n. c.args.value *ℤ pos n) (c.base_after.ensures.value ∙ ap (λ n. c.args.season.now.base ^ n) whole)

pub returns-clause-size : goal.returns-clause-size
returns-clause-size c = times_sum c.args.value c.args.value c.from.result most_entry c.base_after.result (read_128 c.args.value most_entry c.requires.value (omega arith)) c.from.ensures c.requires.value (omega arith) c.base_after.ensures.size
