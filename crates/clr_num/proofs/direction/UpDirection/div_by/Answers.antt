use Rattle.std.proofs.Common.{rules, ◌≡◌, ap, ap₂, ◌∙◌, of_z, to_z, pos, ◌+ℤ◌}
use Rattle.std.proofs.lemmas.Int.{to_z-of_z}
use mir.Syntax.{w128}
use mir.Val.{bool_byte}
use lib.Signed.{lt_z}
use Rattle.clr_num.specs.Rounding.{ceil, IsSplit}
use Rattle.clr_num.proofs.DivLemmas.{ceil-fits}
use Rattle.clr_num.proofs.Splits.{ceil_of_split}
use Rattle.clr_num.proofs.direction.UpDirection.div_by.Goals as goal

pub returns-in-Some : goal.returns-in-Some
returns-in-Some c =
    let split : IsSplit c.args.num c.args.divisor.now c.in-Some.split.quotient c.in-Some.split.rest = search (rules, to_z-of_z, c.in-Some.ensures) in
    let same : c.in-Some.split.quotient +ℤ pos (bool_byte (lt_z (pos 0) c.in-Some.split.rest)) ≡ ceil c.args.num c.args.divisor.now = ceil_of_split c.args.num c.args.divisor.now c.in-Some.split.quotient c.in-Some.split.rest split in
    let read : c.from.result ≡ c.in-Some.split.quotient = c.from.ensures ∙ search (rules, to_z-of_z) in
    let step : c.from-in-Some.result ≡ pos (bool_byte (lt_z (pos 0) c.in-Some.split.rest)) = c.from-in-Some.ensures ∙ search (rules, to_z-of_z) in
    let whole : c.from.result +ℤ c.from-in-Some.result ≡ ceil c.args.num c.args.divisor.now = ap₂ (λ a b. a +ℤ b) read step ∙ same in
    let sum : to_z w128 (of_z w128 c.from.result) +ℤ to_z w128 (of_z w128 c.from-in-Some.result) ≡ c.from.result +ℤ c.from-in-Some.result = search (rules, to_z-of_z) in
    ap (λ z. to_z w128 (of_z w128 z)) (sum ∙ whole) ∙ to_z-of_z w128 (ceil c.args.num c.args.divisor.now) (ceil-fits w128 c.args.num c.args.divisor.now c.ranges.num)
