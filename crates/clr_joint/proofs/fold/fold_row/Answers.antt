use Rattle.std.proofs.Common.{◌≡◌, ℕ, ◌<◌, ◌≤◌, ◌+◌, ℤ, pos, List, get_or, ◌-◌, ◌*◌, ◌^◌, length, arith, ap, ap₂, sym, ◌∙◌, subst, add-one}
use Rattle.std.proofs.Math.Nat.{pow-suc}
use Rattle.clr_season.specs.Season.{store_at}
use Rattle.clr_joint.specs.Folds.{fold_item, last_units}
use Rattle.clr_model.specs.Stocks.{lists_of}
use Rattle.clr_joint.proofs.FoldRows.{folded_more}
use Rattle.clr_joint.proofs.Grid.{last_lists_more, last_lists_most}
use Rattle.clr_joint.proofs.Limits.{lists_most, lists_some, power_most}
use Rattle.clr_joint.proofs.fold.fold_row.Goals as goal

pub fold_store-requires-clause-stride : goal.fold_store-requires-clause-stride
fold_store-requires-clause-stride c = subst (λ n. 1 ≤ n) (sym c.loop-folded.invariant.stride) (lists_some (last_units c.args.season.now c.loop-folded.folded))

pub overflow_mul-stride : goal.overflow_mul-stride
overflow_mul-stride c =
    let stocks : c.stock.result ≡ (store_at c.args.season.now (length c.args.season.now.stores - c.loop-folded.folded)).units = c.stock.ensures.value ∙ ap (λ n. (store_at c.args.season.now (n - c.loop-folded.folded)).units) c.stores.ensures.value in
    let more : c.loop-folded.stride * (c.stock.result + 1) ≡ lists_of (last_units c.args.season.now (c.loop-folded.folded + 1))
    = last_lists_more c.args.season.now c.loop-folded.folded c.loop-folded.stride c.stock.result (omega (arith, c.loop-folded-test.true, c.loop-folded.auto.folded-end, c.stores-folded-end.ensures.value)) c.loop-folded.invariant.stride stocks in
    let most : lists_of (last_units c.args.season.now (c.loop-folded.folded + 1)) ≤ 1000000 = last_lists_most c.args.season.now (c.loop-folded.folded + 1) 1000000 (lists_most c.args.season.now c.stores-folded-end.ensures.facts c.requires.fits) in
    record { fits = omega (arith, more, most) }

pub overflow_mul-power : goal.overflow_mul-power
overflow_mul-power c =
    let more : c.loop-folded.power * c.from-power.result ≡ c.args.season.now.base ^ (c.loop-folded.folded + 1)
    = ap₂ (λ p b. p * b) c.loop-folded.invariant.power (c.from-power.ensures ∙ c.base.ensures.value) ∙ (sym (pow-suc c.args.season.now.base c.loop-folded.folded) ∙ ap (λ n. c.args.season.now.base ^ n) (sym (add-one c.loop-folded.folded))) in
    let most : c.args.season.now.base ^ (c.loop-folded.folded + 1) ≤ 1000000000000000000 = power_most c.args.season.now c.stores-folded-end.ensures.facts c.requires.fits (c.loop-folded.folded + 1) (omega (arith, c.loop-folded-test.true, c.loop-folded.auto.folded-end, c.stores-folded-end.ensures.value)) in
    record { fits = omega (arith, more, most) }

pub loop-folded-preserved : goal.loop-folded-preserved
loop-folded-preserved c =
    let stocks : c.stock.result ≡ (store_at c.args.season.now (length c.args.season.now.stores - c.loop-folded.folded)).units = c.stock.ensures.value ∙ ap (λ n. (store_at c.args.season.now (n - c.loop-folded.folded)).units) c.stores.ensures.value in
    record {
      stride = last_lists_more c.args.season.now c.loop-folded.folded c.loop-folded.stride c.stock.result (omega (arith, c.loop-folded-test.true, c.loop-folded.auto.folded-end, c.stores-folded-end.ensures.value)) c.loop-folded.invariant.stride stocks;
      power = ap₂ (λ p b. p * b) c.loop-folded.invariant.power (c.from-power.ensures ∙ c.base.ensures.value) ∙ (sym (pow-suc c.args.season.now.base c.loop-folded.folded) ∙ ap (λ n. c.args.season.now.base ^ n) (sym (add-one c.loop-folded.folded)));
      items = folded_more c.args.season.now c.args.done c.args.rung c.loop-folded.folded c.loop-folded.stride c.loop-folded.power c.args.row.now c.loop-folded.items.items c.in_ok-items-2.items.items
          (omega (arith, c.loop-folded-test.true, c.loop-folded.auto.folded-end, c.stores-folded-end.ensures.value)) c.loop-folded.invariant.stride c.loop-folded.invariant.power c.loop-folded.invariant.items
          (c.in_ok-items-2.ensures.size ∙ ap length c.deref.ensures.value) c.in_ok-items-2.ensures.within
          (subst (λ (xs : List ℤ). (place : ℕ) → place < length xs → get_or c.in_ok-items-2.items.items place (pos 0) ≡ fold_item c.args.season.now c.args.done c.args.rung (length c.args.season.now.stores - c.loop-folded.folded) c.loop-folded.stride c.loop-folded.power xs place) c.deref.ensures.value c.in_ok-items-2.ensures.each);
    }
