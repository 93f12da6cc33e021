use Rattle.std.proofs.Common.{◌≡◌, ◌≤◌, ◌-◌, ◌*◌, pos, suc, get_or, take, sum}
use Rattle.clr_num.specs.Sums.{sum_of}
use Rattle.clr_rules.specs.Rules.{price}
use Rattle.clr_season.specs.Season.{store_at}
use Rattle.clr_model.specs.Revenue.{sold}
use Rattle.clr_plain.specs.Plain.{asked_of}
use Rattle.clr_plain.proofs.revenue.sales.Given as goal

abbrev pub invariant-loop-done : goal.invariant-loop-done
invariant-loop-done l = record {
  demand : l.demand ≡ sum (take l.done (asked_of l.season l.path l.store l.asked));
  small : l.demand ≤ 200 * l.done;
  units : l.sold ≡ sold (store_at l.season l.store).units (asked_of l.season l.path l.store l.asked) l.done;
  cents : pos l.cents ≡ sum_of l.done (λ i. pos (price l.season.rules (get_or l.path i 0) * (sold (store_at l.season l.store).units (asked_of l.season l.path l.store l.asked) (suc i) - sold (store_at l.season l.store).units (asked_of l.season l.path l.store l.asked) i)));
  range : l.cents ≤ 10000000 * l.sold;
}
