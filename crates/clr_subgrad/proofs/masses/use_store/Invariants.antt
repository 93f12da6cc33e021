use Rattle.std.proofs.Common.{◌≡◌, ◌≤◌, suc, length, sum}
use Rattle.clr_rules.specs.LiveSummaries.{at_week}
use Rattle.clr_season.specs.Season.{store_at}
use Rattle.clr_model.specs.Usage.{mass}
use Rattle.clr_mult.specs.Tables.{EachEntry, SameSizes, mult_at, usage_at}
use Rattle.clr_rows.specs.Rows.{AreRows}
use Rattle.clr_subgrad.proofs.Using.{week_used}
use Rattle.clr_subgrad.proofs.masses.use_store.Given as goal

abbrev pub invariant-loop-done : goal.invariant-loop-done
invariant-loop-done l = record {
  rows : AreRows 0 (suc (store_at l.season l.store).units) (at_week l.done l.live) (length (at_week l.done l.live)) (mass (mult_at l.mult) l.season l.store l.done) l.masses.items;
  total : sum l.masses.items ≤ 1000000;
  count : length l.used.entries ≡ length l.initial.used.entries;
  sizes : SameSizes l.used l.initial.used;
  entries : EachEntry l.initial.used (λ s w rung. usage_at l.used s w rung ≡ week_used (mult_at l.mult) l.season l.store l.done l.initial.used s w rung);
}
