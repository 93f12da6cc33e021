use Rattle.std.proofs.Common.{◌≡◌, ℕ, ◌<◌, suc, [], length, get_or}
use Rattle.clr_mult.specs.Tables.{mult_at}
use Rattle.clr_num.specs.Rounding.{ceil}
use Rattle.clr_storedp.specs.Tables.{IsTableOf}
use Rattle.clr_storedp.proofs.bounds.tables.Given as goal

abbrev pub invariant-loop-index : goal.invariant-loop-index
invariant-loop-index l = record {
  count : length l.tables.items ≡ l.index;
  each : (place : ℕ) → place < l.index → IsTableOf ceil (mult_at l.mult) l.season (suc place) (get_or l.tables.items place []);
}
