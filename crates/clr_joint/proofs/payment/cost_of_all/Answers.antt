use Rattle.std.proofs.Common.{◌≡◌, ℕ, suc, ◌+◌, ◌*◌, ◌≤◌, pos, ◌+ℤ◌, ap, ap₂, sym, ◌∙◌, arith, add-one}
use Rattle.clr_num.specs.Sums.{sum_of}
use Rattle.clr_average.proofs.Sums.{sum_of_more}
use Rattle.clr_model.specs.Revenue.{cent, fee}
use Rattle.clr_joint.proofs.payment.cost_of_all.Goals as goal

range_more : (cost more index : ℕ) → cost ≤ index * 10000000000000 → more ≤ 10000000000000 → cost + more ≤ (index + 1) * 10000000000000
range_more cost more index low high = omega arith

pub loop-index-preserved : goal.loop-index-preserved
loop-index-preserved c =
    let here : c.relabelling-cost.result ≡ cent * fee c.args.season.now (suc c.loop-index.index) c.args.before c.args.rung = c.relabelling-cost.ensures.value ∙ ap (λ n. cent * fee c.args.season.now n c.args.before c.args.rung) (add-one c.loop-index.index) in
    record {
      value = ap₂ ◌+ℤ◌ c.loop-index.invariant.value (ap pos here)
          ∙ (sym (sum_of_more c.loop-index.index (λ i. pos (cent * fee c.args.season.now (suc i) c.args.before c.args.rung))) ∙ ap (λ n. sum_of n (λ i. pos (cent * fee c.args.season.now (suc i) c.args.before c.args.rung))) (sym (add-one c.loop-index.index)));
      range = range_more c.loop-index.cost c.relabelling-cost.result c.loop-index.index c.loop-index.invariant.range c.relabelling-cost.ensures.range;
    }
