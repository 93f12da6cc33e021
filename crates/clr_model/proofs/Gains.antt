-- What a store earns in a week, at 64 bits.
use Rattle.std.proofs.Common.{◌≡◌, ℕ, ◌*◌, ◌^◌, ◌≤◌, ◌<◌, min, pos, neg_ℤ, ◌+ℤ◌, ◌-ℤ◌, ◌*ℤ◌, ap, ap₂, sym, ◌∙◌, subst, arith, mul_assoc, mul-le-mul, to_z, of_z, SFits}
use Rattle.std.proofs.lemmas.Int.{ints, to_z-of_z}
use mir.Syntax.{w64}
use Rattle.clr_rules.specs.Rules.{price}
use Rattle.clr_season.specs.Season.{Season}
use Rattle.clr_average.specs.Average.{IsWithin}
use Rattle.clr_average.proofs.Ring.{linear, mul_add}
use Rattle.clr_average.proofs.Within.{within_64, within_pos}
use Rattle.clr_model.specs.Revenue.{cent, earn, fee, week_cents}
use Rattle.clr_model.proofs.Rows.{turn}

read_whole : (n : ℕ) → n < 2 ^ 63 → to_z w64 n ≡ pos n
read_whole n lt = omega (arith, ints)

module _ (unit sold cost : ℕ) (most : unit ≤ 10000000000000) (few : sold ≤ 2000) (paid : cost ≤ 10000000000000) where
  earned : unit * sold ≤ 20000000000000000
  earned = let p : unit * sold ≤ 10000000000000 * 2000 = mul-le-mul most few in omega arith

  small : IsWithin 20000000000000000 (pos (unit * sold) -ℤ pos cost)
  small = let p : unit * sold ≤ 20000000000000000 = earned in record { low = omega (arith, linear); high = omega (arith, linear) }

  pub product_fits : unit * sold < 2 ^ 63
  product_fits = omega (arith, earned)

  pub cast_fits : SFits w64 (pos (unit * sold))
  cast_fits = within_64 (pos (unit * sold)) 20000000000000000 (omega arith) (within_pos 20000000000000000 (unit * sold) earned)

  reads : (to_z w64 (unit * sold) -ℤ to_z w64 cost) ≡ (pos (unit * sold) -ℤ pos cost)
  reads = ap₂ ◌-ℤ◌ (read_whole (unit * sold) product_fits) (read_whole cost (omega (arith, paid)))

  whole_fits : SFits w64 (pos (unit * sold) -ℤ pos cost)
  whole_fits = within_64 (pos (unit * sold) -ℤ pos cost) 20000000000000000 (omega arith) small

  pub gain_fits : SFits w64 (to_z w64 (unit * sold) -ℤ to_z w64 cost)
  gain_fits = subst (SFits w64) (sym reads) whole_fits

  pub gain_read : to_z w64 (of_z w64 (to_z w64 (unit * sold) -ℤ to_z w64 cost)) ≡ (pos (unit * sold) -ℤ pos cost)
  gain_read = ap (λ z. to_z w64 (of_z w64 z)) reads ∙ to_z-of_z w64 (pos (unit * sold) -ℤ pos cost) whole_fits

  pub gain_small : IsWithin 20000000000000000 (to_z w64 (of_z w64 (to_z w64 (unit * sold) -ℤ to_z w64 cost)))
  gain_small = subst (IsWithin 20000000000000000) (sym gain_read) small

pub gain_is : (season : Season) (store before rung stock demand unit sold cost : ℕ) → unit ≡ cent * price season.rules rung → sold ≡ min stock demand → cost ≡ cent * fee season store before rung → (pos (unit * sold) -ℤ pos cost) ≡ earn season store before rung stock demand
unfolding week_cents
gain_is season store before rung stock demand unit sold cost is_unit is_sold is_cost =
    let paid : ℕ = price season.rules rung in
    let gained : unit * sold ≡ cent * (paid * min stock demand) = ap₂ ◌*◌ is_unit is_sold ∙ mul_assoc cent paid (min stock demand) in
    let split : pos cent *ℤ (pos (paid * min stock demand) -ℤ pos (fee season store before rung)) ≡ pos (cent * (paid * min stock demand)) +ℤ pos cent *ℤ neg_ℤ (pos (fee season store before rung)) = mul_add (pos cent) (pos (paid * min stock demand)) (neg_ℤ (pos (fee season store before rung))) in
    let turned : pos cent *ℤ neg_ℤ (pos (fee season store before rung)) ≡ neg_ℤ (pos (cent * fee season store before rung)) = turn cent (fee season store before rung) in
    ap₂ (λ a b. pos a -ℤ pos b) gained is_cost ∙ (ap (λ t. pos (cent * (paid * min stock demand)) +ℤ t) (sym turned) ∙ sym split)
