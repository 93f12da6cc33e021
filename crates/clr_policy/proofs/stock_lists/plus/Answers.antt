use Rattle.std.proofs.Common.{◌≡◌, pos, ◌+ℤ◌, ◌*ℤ◌, sym, ap₂, subst, rules, SFits}
use Rattle.std.proofs.lemmas.Int.{to_z-of_z}
use mir.Syntax.{w128}
use Rattle.clr_average.proofs.Reading.{plus_read, read}
use Rattle.clr_policy.proofs.StockSums.{in_128, product_read}
use Rattle.clr_policy.proofs.stock_lists.plus.Goals as goal

pub overflow_add-result-2 : goal.overflow_add-result-2
overflow_add-result-2 c =
    let inner : read w128 c.args.value +ℤ read w128 c.args.gain ≡ c.args.value +ℤ c.args.gain = ap₂ ◌+ℤ◌ (to_z-of_z w128 c.args.value c.ranges.value) (to_z-of_z w128 c.args.gain c.ranges.gain) in
    let fits : SFits w128 c.from.result = search rules in
    let product : read w128 (read w128 c.from.result *ℤ read w128 (read w128 c.args.value +ℤ read w128 c.args.gain)) ≡ pos c.args.weight *ℤ (c.args.value +ℤ c.args.gain)
    = product_read c.from.result _ (pos c.args.weight) (c.args.value +ℤ c.args.gain) c.from.ensures inner fits (subst (SFits w128) (sym inner) (in_128 _ c.requires.value)) (in_128 _ c.requires.product) in
    subst (SFits w128) (sym (ap₂ ◌+ℤ◌ (to_z-of_z w128 c.args.total c.ranges.total) product)) (in_128 _ c.requires.sum)

pub returns : goal.returns
returns c =
    let inner : read w128 c.args.value +ℤ read w128 c.args.gain ≡ c.args.value +ℤ c.args.gain = ap₂ ◌+ℤ◌ (to_z-of_z w128 c.args.value c.ranges.value) (to_z-of_z w128 c.args.gain c.ranges.gain) in
    let fits : SFits w128 c.from.result = search rules in
    plus_read c.args.total c.from.result _ (pos c.args.weight) (c.args.value +ℤ c.args.gain) c.from.ensures inner c.ranges.total fits (subst (SFits w128) (sym inner) (in_128 _ c.requires.value)) (in_128 _ c.requires.product) (in_128 _ c.requires.sum)
