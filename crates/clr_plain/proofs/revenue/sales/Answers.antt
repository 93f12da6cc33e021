use Rattle.std.proofs.Common.{◌≡◌, ◌<◌, ◌≤◌, ◌+◌, ◌-◌, ◌*◌, min, ℕ, List, pos, suc, get_or, take, sum, length, ap, ap₂, ◌∙◌, subst, add-one, arith}
use Rattle.clr_rules.specs.Rules.{price, rung_at}
use Rattle.clr_season.specs.Season.{store_at}
use Rattle.clr_model.specs.Revenue.{sold}
use Rattle.clr_plain.specs.Plain.{asked_of}
use Rattle.clr_plain.proofs.Chances.{week_inside}
use Rattle.clr_plain.proofs.Sales.{any_default, cents_next, cents_range, sum_next}
use Rattle.clr_plain.proofs.revenue.sales.Goals as goal

pub loop-done-preserved : goal.loop-done-preserved
loop-done-preserved c =
    let col : List ℕ = asked_of c.args.season.now c.args.path.now c.args.store c.args.asked.now in
    let stock : ℕ = (store_at c.args.season.now c.args.store).units in
    let lt : c.loop-done.done < length c.args.path.now = omega (arith, c.loop-done-test.true, c.len-done-end.ensures) in
    let here : ℕ = get_or c.args.asked.now (c.loop-done.done * c.stores-stores.result + (c.args.store - 1)) 0 in
    let next : c.loop-done.demand + here ≡ sum (take (c.loop-done.done + 1) col) = sum_next c.args.season.now c.args.path.now c.args.store c.args.asked.now c.requires.low c.requires.high c.loop-done.done c.loop-done.demand here lt c.loop-done.invariant.demand
    (ap (λ n. get_or c.args.asked.now (c.loop-done.done * n + (c.args.store - 1)) 0) c.stores-stores.ensures.value) in
    let small : here ≤ 200 =
    let inside : c.loop-done.done * length c.args.season.now.stores + length c.args.season.now.stores ≤ length c.args.path.now * length c.args.season.now.stores = week_inside c.loop-done.done (length c.args.path.now) (length c.args.season.now.stores) lt in
    let place : c.loop-done.done * c.stores-stores.result ≡ c.loop-done.done * length c.args.season.now.stores = ap (λ n. c.loop-done.done * n) c.stores-stores.ensures.value in
    let top : here ≤ c.args.season.now.top = c.requires.asked.each (c.loop-done.done * c.stores-stores.result + (c.args.store - 1)) (omega (arith, inside, place, c.requires.low, c.requires.high, c.requires.asked.size)) in
    omega (arith, top, c.stores-stores.ensures.facts.most_demand) in
    let both : c.min.result ≡ sold stock col (c.loop-done.done + 1) = c.min.ensures ∙ ap₂ min c.stock-stock.ensures.value next in
    let grows : c.loop-done.sold ≤ c.min.result = omega (arith, c.loop-done.invariant.units, c.loop-done.invariant.demand, c.min.ensures, c.stock-stock.ensures.value) in
    let all : c.loop-done.sold + (c.min.result - c.loop-done.sold) ≡ c.min.result = omega (arith, grows) in
    record {
      demand = next;
      small = omega (arith, c.loop-done.invariant.small, small);
      units = all ∙ both;
      cents = cents_next c.loop-done.done c.loop-done.cents (c.price.result * c.from.result) (λ i. pos (price c.args.season.now.rules (get_or c.args.path.now i 0) * (sold stock col (suc i) - sold stock col i))) c.loop-done.invariant.cents
          (ap pos (ap₂ ◌*◌ (c.price.ensures.value ∙ ap (price c.args.season.now.rules) (c.rung.ensures ∙ (ap (rung_at c.args.path.now) (add-one c.loop-done.done) ∙ any_default c.args.path.now c.loop-done.done 1 0 lt)))
          (c.from.ensures ∙ ap₂ ◌-◌ (both ∙ ap (sold stock col) (add-one c.loop-done.done)) c.loop-done.invariant.units)));
      range = subst (λ m. c.loop-done.cents + c.price.result * c.from.result ≤ 10000000 * (c.loop-done.sold + m)) c.from.ensures (cents_range c.loop-done.cents c.loop-done.sold c.price.result c.from.result c.loop-done.invariant.range c.price.ensures.range.1);
    }
