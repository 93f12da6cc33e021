use Rattle.std.proofs.Common.{rules, ◌≡◌, ap, ◌∙◌, of_z, to_z}
use Rattle.std.proofs.lemmas.Int.{to_z-of_z}
use mir.Syntax.{w128}
use Rattle.clr_num.specs.Rounding.{floor, IsSplit}
use Rattle.clr_num.proofs.DivLemmas.{floor-fits}
use Rattle.clr_num.proofs.Splits.{floor_of_split}
use Rattle.clr_num.proofs.direction.DownDirection.div_by.Goals as goal

pub returns-in-Some : goal.returns-in-Some
returns-in-Some c =
    let split : IsSplit c.args.num c.args.divisor.now c.in-Some.split.quotient c.in-Some.split.rest = search (rules, to_z-of_z, c.in-Some.ensures) in
    let same : c.in-Some.split.quotient ≡ floor c.args.num c.args.divisor.now = floor_of_split c.args.num c.args.divisor.now c.in-Some.split.quotient c.in-Some.split.rest split in
    let read : c.from.result ≡ c.in-Some.split.quotient = c.from.ensures ∙ search (rules, to_z-of_z) in
    ap (λ z. to_z w128 (of_z w128 z)) (read ∙ same) ∙ to_z-of_z w128 (floor c.args.num c.args.divisor.now) (floor-fits w128 c.args.num c.args.divisor.now c.ranges.num)
