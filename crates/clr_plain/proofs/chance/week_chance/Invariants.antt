use Rattle.std.proofs.Common.{◌≡◌, ◌≤◌, ◌^◌, pos, suc, get_or}
use Rattle.clr_num.specs.Sums.{product_of}
use Rattle.clr_season.specs.Season.{weight}
use Rattle.clr_plain.proofs.chance.week_chance.Given as goal

abbrev pub invariant-loop-index : goal.invariant-loop-index
invariant-loop-index l = record {
  value : pos l.product ≡ product_of l.index (λ i. pos (weight l.season (suc i) l.week l.rung (get_or l.asked i 0)));
  range : l.product ≤ l.season.base ^ l.index;
}
