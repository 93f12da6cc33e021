use Rattle.std.proofs.Common.{◌≡◌, ℕ, ◌<◌, ◌≤◌, ◌+◌, ◌*◌, ◌^◌, ℤ, pos, ◌*ℤ◌, [], ◌∷◌, ◌++◌, map, ap, ap₂, sym, ◌∙◌, arith, add-one, mul_assoc, mul-le-mul, to_z, Fits, SFits}
use Rattle.std.proofs.lemmas.Int.{ints}
use mir.Syntax.{w64}
use Rattle.clr_num.specs.Lists.{numbers}
use Rattle.clr_season.specs.Season.{Season, store_at}
use Rattle.clr_model.specs.Revenue.{cent, salvage_cents}
use Rattle.clr_path.proofs.Lists.{numbers_more, numbers_same}
use Rattle.clr_path.proofs.rows.end_row.Goals as goal

-- what a stock is worth, read at 64 bits
read : (paid stock width : ℕ) → paid ≤ 10000000 → stock < width → width ≤ 2001 → to_z w64 (1000000 * paid * stock) ≡ pos (1000000 * paid * (0 + stock))
read paid stock width most lt size =
    let unit : 1000000 * paid ≤ 10000000000000 = omega arith in
    let held : stock ≤ 2001 = omega arith in
    let small : 1000000 * paid * stock ≤ 10000000000000 * 2001 = mul-le-mul unit held in
    let none : 0 + stock ≡ stock = omega arith in
    rw none (whole (1000000 * paid * stock) (omega arith))
  where
    whole : (n : ℕ) → n < 2 ^ 63 → to_z w64 n ≡ pos n
    whole n lt = omega (arith, ints)

fits : (paid stock width : ℕ) → paid ≤ 10000000 → stock < width → width ≤ 2001 → 1000000 * paid * stock < 2 ^ 63
fits paid stock width most lt size =
    let unit : 1000000 * paid ≤ 10000000000000 = omega arith in
    let held : stock ≤ 2001 = omega arith in
    let small : 1000000 * paid * stock ≤ 10000000000000 * 2001 = mul-le-mul unit held in
    omega (arith, small)

fits_64 : (n : ℕ) → n < 2 ^ 63 → Fits w64 n
fits_64 n lt = record { fits = omega (arith, lt) }

fits_signed : (n : ℕ) → n < 2 ^ 63 → SFits w64 (pos n)
fits_signed n lt = record { sfits = omega (arith, ints, lt) }

pub overflow_mul-unit-in-loop-stock : goal.overflow_mul-unit-in-loop-stock
overflow_mul-unit-in-loop-stock c = fits_64 (1000000 * c.salvage-unit.result * c.loop-stock.stock) (fits c.salvage-unit.result c.loop-stock.stock c.args.width c.salvage-unit.ensures.range c.loop-stock-test.true c.requires.size)

pub overflow_cast-unit : goal.overflow_cast-unit
overflow_cast-unit c = fits_signed (1000000 * c.salvage-unit.result * c.loop-stock.stock) (fits c.salvage-unit.result c.loop-stock.stock c.args.width c.salvage-unit.ensures.range c.loop-stock-test.true c.requires.size)

worth : (season : Season) (store paid stock : ℕ) → paid ≡ (store_at season store).salvage → pos (1000000 * paid * stock) ≡ pos cent *ℤ salvage_cents season store stock
unfolding cent
worth season store paid stock is = ap pos (mul_assoc 1000000 paid stock ∙ ap (λ p. 1000000 * (p * stock)) is)

pub loop-stock-preserved : goal.loop-stock-preserved
loop-stock-preserved c =
    let f : ℕ → ℤ = λ stock. pos (1000000 * c.salvage-unit.result * stock) in
    c.in_ok-push.ensures.items
    ∙ (ap₂ (λ l x. l ++ x ∷ []) c.loop-stock.invariant (read c.salvage-unit.result c.loop-stock.stock c.args.width c.salvage-unit.ensures.range c.loop-stock-test.true c.requires.size)
    ∙ (sym (numbers_more f 0 c.loop-stock.stock) ∙ ap (λ n. map f (numbers 0 n)) (sym (add-one c.loop-stock.stock))))

pub returns : goal.returns
returns c =
    let f : ℕ → ℤ = λ stock. pos (1000000 * c.salvage-unit.result * stock) in
    let all : c.loop-stock.stock ≡ c.args.width = omega (arith, c.loop-stock-test.false, c.loop-stock.auto.stock-end) in
    c.loop-stock.invariant
    ∙ (ap (λ n. map f (numbers 0 n)) all
    ∙ numbers_same f (λ stock. pos cent *ℤ salvage_cents c.args.season.now c.args.store stock) 0 c.args.width (λ i lt. worth c.args.season.now c.args.store c.salvage-unit.result (0 + i) c.salvage-unit.ensures.value))
