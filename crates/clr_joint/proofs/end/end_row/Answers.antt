use Rattle.std.proofs.Common.{◌≡◌, ℕ, suc, ◌<◌, ◌≤◌, ◌+◌, ◌-◌, ◌*◌, ◌/◌, ◌%◌, ℤ, pos, ◌+ℤ◌, List, length, get_or, arith, refl, ap, sym, ◌∙◌, subst, add-one}
use Rattle.clr_season.specs.Season.{store_at}
use Rattle.clr_model.specs.Revenue.{cent}
use Rattle.clr_joint.specs.Folds.{last_units}
use Rattle.clr_model.specs.Stocks.{lists_of}
use Rattle.clr_joint.proofs.Ends.{worths_more}
use Rattle.clr_joint.proofs.Grid.{last_lists_more, last_lists_most}
use Rattle.clr_joint.proofs.Limits.{few_stores, lists_most, lists_some}
use Rattle.clr_joint.proofs.end.end_row.Goals as goal

worth_is : (unit paid other : ℕ) → unit ≡ 1000000 * paid → paid ≡ other → unit ≡ cent * other
unfolding cent
worth_is unit paid other e f = e ∙ ap (λ n. 1000000 * n) f

pub with_store-requires-clause-some : goal.with_store-requires-clause-some
with_store-requires-clause-some c = subst (λ n. 0 < n) (sym (ap length c.deref.ensures.value ∙ c.loop-taken.invariant.size)) (lists_some (last_units c.args.season.now c.loop-taken.taken))

pub with_store-requires-clause-few : goal.with_store-requires-clause-few
with_store-requires-clause-few c =
    let lt : c.loop-taken.taken < length c.args.season.now.stores = omega (arith, c.loop-taken-test.true, c.loop-taken.auto.taken-end, c.stores-taken-end.ensures.value) in
    let stocks : c.stock.result ≡ (store_at c.args.season.now (length c.args.season.now.stores - c.loop-taken.taken)).units = c.stock.ensures.value ∙ ap (λ n. (store_at c.args.season.now (n - c.loop-taken.taken)).units) c.stores.ensures.value in
    let more : lists_of (last_units c.args.season.now c.loop-taken.taken) * (c.stock.result + 1) ≡ lists_of (last_units c.args.season.now (c.loop-taken.taken + 1)) = last_lists_more c.args.season.now c.loop-taken.taken (lists_of (last_units c.args.season.now c.loop-taken.taken)) c.stock.result lt refl stocks in
    let most : lists_of (last_units c.args.season.now (c.loop-taken.taken + 1)) ≤ 1000000 = last_lists_most c.args.season.now (c.loop-taken.taken + 1) 1000000 (lists_most c.args.season.now c.stores-taken-end.ensures.facts c.requires) in
    subst (λ n. (c.stock.result + 1) * n ≤ 1000000) (sym (ap length c.deref.ensures.value ∙ c.loop-taken.invariant.size)) (turned (lists_of (last_units c.args.season.now c.loop-taken.taken)) (c.stock.result + 1) _ more most)
  where
    turned : (a b c : ℕ) → a * b ≡ c → c ≤ 1000000 → b * a ≤ 1000000
    turned a b c e le = omega (arith, e, le)

pub loop-taken-preserved : goal.loop-taken-preserved
loop-taken-preserved c =
    let lt : c.loop-taken.taken < length c.args.season.now.stores = omega (arith, c.loop-taken-test.true, c.loop-taken.auto.taken-end, c.stores-taken-end.ensures.value) in
    let few : c.loop-taken.taken < 4 = omega (arith, lt, few_stores c.args.season.now c.stores-taken-end.ensures.facts c.requires) in
    let stocks : c.stock.result ≡ (store_at c.args.season.now (length c.args.season.now.stores - c.loop-taken.taken)).units = c.stock.ensures.value ∙ ap (λ n. (store_at c.args.season.now (n - c.loop-taken.taken)).units) c.stores.ensures.value in
    let unit : 1000000 * c.salvage-unit.result ≡ cent * (store_at c.args.season.now (length c.args.season.now.stores - c.loop-taken.taken)).salvage
    = worth_is (1000000 * c.salvage-unit.result) c.salvage-unit.result (store_at c.args.season.now (length c.args.season.now.stores - c.loop-taken.taken)).salvage refl (c.salvage-unit.ensures.value ∙ ap (λ n. (store_at c.args.season.now (n - c.loop-taken.taken)).salvage) c.stores.ensures.value) in
    worths_more c.args.season.now c.loop-taken.taken (1000000 * c.salvage-unit.result) (c.stock.result + 1) c.loop-taken.row.items c.in_ok-row-2.row.items lt few unit (add-one c.stock.result ∙ ap suc stocks) (omega (arith, c.salvage-unit.ensures.range)) (omega (arith, c.stock.ensures.range)) c.loop-taken.invariant
    (c.in_ok-row-2.ensures.size ∙ ap (λ (xs : List ℤ). (c.stock.result + 1) * length xs) c.deref.ensures.value)
    (subst (λ (xs : List ℤ). (place : ℕ) → place < (c.stock.result + 1) * length xs → get_or c.in_ok-row-2.row.items place (pos 0) ≡ pos (1000000 * c.salvage-unit.result * (place / length xs)) +ℤ get_or xs (place % length xs) (pos 0)) c.deref.ensures.value c.in_ok-row-2.ensures.each)
