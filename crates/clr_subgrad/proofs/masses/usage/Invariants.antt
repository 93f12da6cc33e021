use Rattle.std.proofs.Common.{◌≡◌, ◌*◌, cond, length, nat_le}
use Rattle.clr_model.specs.Usage.{usage}
use Rattle.clr_mult.specs.Tables.{EachEntry, mult_at, usage_at}
use Rattle.clr_subgrad.proofs.masses.usage.Given as goal

abbrev pub invariant-loop-index : goal.invariant-loop-index
invariant-loop-index l = record {
  stores : l.used.stores ≡ length l.season.stores;
  weeks : l.used.weeks ≡ l.season.rules.weeks;
  rungs : l.used.rungs ≡ length l.season.rules.prices;
  count : length l.used.entries ≡ l.season.rules.weeks * (length l.season.rules.prices * length l.season.stores);
  entries : EachEntry l.used (λ s w rung. usage_at l.used s w rung ≡ cond (nat_le s l.index) (usage (mult_at l.mult) l.season s w rung) 0);
}
