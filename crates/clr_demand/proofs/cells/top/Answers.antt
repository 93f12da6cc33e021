use Rattle.std.proofs.Common.{◌≡◌, ◌≤◌, ◌<◌, ◌+◌, ◌-◌, ◌∙◌, ℕ, List, [], arith, sym, length, max, nat_cmp}
use Rattle.std.specs.Prelude.{slice_index_or}
use Rattle.std.specs.Ordering.{ord_max}
use Rattle.std.proofs.lemmas.Grind.{common_steps}
use Rattle.std.proofs.lemmas.List.Sums.{fold_more}
use borrow.Author.Count.{below_more}
use Rattle.clr_demand.specs.Demand.{units_in}
use Rattle.clr_demand.proofs.cells.top.Goals as goal

ord_max-max : (a b : ℕ) → ord_max nat_cmp a b ≡ max a b
ord_max-max a b = grind (arith, common_steps)

pub loop-index-preserved : goal.loop-index-preserved
loop-index-preserved c =
    let inv = c.loop-index.invariant in
    let index = c.loop-index.index in
    let table = c.args.table.now in
    let back : index + 1 - 1 ≡ index = omega arith in
    let units : c.units.result ≡ units_in (slice_index_or table index []) = rw back at c.units.ensures.units in
    let less : index < length table = omega (arith, c.len-index-end.ensures, c.loop-index-test.true) in
    let now : c.max-top.result ≡ max c.loop-index.top c.units.result = c.max-top.ensures ∙ ord_max-max c.loop-index.top c.units.result in
    record {
      greatest = now ∙ (rw (inv.greatest, units) (sym (fold_more (λ (t : ℕ) (fields : List (List ℕ)). max t (units_in fields)) 0 table index [] less)));
      high = omega (arith, now, c.units.ensures.high, inv.high);
      all = below_more (λ k. units_in (slice_index_or table k []) ≤ c.max-top.result) index (λ k under. omega (arith, inv.all k under, now)) (omega (arith, units, now));
    }
