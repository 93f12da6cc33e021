-- The sums of a table's rows against the sums of what is listed.
use Rattle.std.proofs.Common.{◌≡◌, ◌<◌, ◌+◌, ◌*◌, ◌/◌, ◌∙◌, ℕ, List, length, ap, arith, Bool, true, false, mul-div_cancel}
use Rattle.std.specs.Prelude.{not, sum, Ok, Err}
use Rattle.clr_text.specs.Tables.{whole_row}
use Rattle.clr_text.specs.declared.file.Why.TheVariants.{Total}
use Rattle.clr_demand.proofs.BalanceLemmas.{IsPlace, all-balanced, first-unbalanced, has-place, number-less, row_place}
use Rattle.clr_demand.proofs.RowTotals.{is-in, row-total}
use Rattle.clr_demand.specs.Demand.{Listed, Place, Sizes, balanced, balances, total}
use Rattle.clr_demand.specs.Places.{AreCells, size}
use Rattle.clr_demand.specs.Weights.{flat_row, row_number}
use Rattle.clr_demand.specs.declared.shape.Shape.{Shape}

-- how many rows a table has
pub rows-count : (shape : Shape) (weights : List ℕ) → length weights ≡ size shape → length weights / (shape.top + 1) ≡ shape.stores * shape.weeks * shape.rungs
rows-count shape weights long =
    let some : 0 < shape.top + 1 = omega arith in
    ap (λ n. n / (shape.top + 1)) long ∙ mul-div_cancel (shape.stores * shape.weeks * shape.rungs) some

module _ (shape : Shape) (sizes : Sizes) (scaled : Bool) (rows weights : List ℕ) (listed : List Listed) (cells : AreCells shape rows weights listed)
    (weeks_are : shape.weeks ≡ sizes.weeks) (rungs_are : shape.rungs ≡ sizes.rungs) where
  sum-is : (at : Place) → IsPlace shape.stores sizes.weeks sizes.rungs at →
      sum (flat_row (shape.top + 1) weights (row_number sizes.weeks sizes.rungs at.store at.week at.rung)) ≡ total listed at.store at.week at.rung
  sum-is at is =
      rw (← weeks_are, ← rungs_are)
      (row-total shape listed rows weights cells at.store at.week at.rung (is-in shape at.store at.week at.rung is.store_low is.store_high is.week_low (omega (arith, is.week_high, weeks_are)) is.rung_low (omega (arith, is.rung_high, rungs_are))))

  pub judged-all : ((k : ℕ) → k < shape.stores * sizes.weeks * sizes.rungs → balances scaled sizes.base (sum (flat_row (shape.top + 1) weights k)) ≡ true) → balanced shape.stores sizes scaled listed ≡ Ok listed
  judged-all passed =
      all-balanced shape.stores sizes scaled listed (λ at is. rw (← sum-is at is) (passed (row_number sizes.weeks sizes.rungs at.store at.week at.rung) (number-less shape.stores sizes.weeks sizes.rungs at is)))

  pub judged-first : (at : Place) → IsPlace shape.stores sizes.weeks sizes.rungs at →
      balances scaled sizes.base (sum (flat_row (shape.top + 1) weights (row_number sizes.weeks sizes.rungs at.store at.week at.rung))) ≡ false →
      ((k : ℕ) → k < row_number sizes.weeks sizes.rungs at.store at.week at.rung → balances scaled sizes.base (sum (flat_row (shape.top + 1) weights k)) ≡ true) →
      balanced shape.stores sizes scaled listed
      ≡ Err (whole_row 0 (Total at.store at.week at.rung (sum (flat_row (shape.top + 1) weights (row_number sizes.weeks sizes.rungs at.store at.week at.rung)))))
  judged-first at is bad passed =
      let less = number-less shape.stores sizes.weeks sizes.rungs at is in
      rw (sum-is at is)
      (first-unbalanced shape.stores sizes scaled listed at is (ap not (rw (sum-is at is) at bad)) (λ k under.
      let has = has-place shape.stores sizes.weeks sizes.rungs k (omega (arith, less, under)) in
      let same = rw has.row_is at (sum-is (row_place sizes.weeks sizes.rungs k) has.is) in
      ap not (rw same at (passed k under))))
