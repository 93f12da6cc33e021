use Rattle.std.proofs.Common.{◌≡◌, ◌-◌, ◌++◌, map}
use Rattle.std.specs.List.{flat_map}
use Rattle.clr_num.specs.Lists.{numbers}
use Rattle.clr_make.specs.Draws.{state_after}
use Rattle.clr_make.specs.Made.{draws_before, lines, made_units, store_fields, store_rows}
use Rattle.clr_make.proofs.files.print_stores.Given as goal

abbrev pub invariant-loop-store : goal.invariant-loop-store
invariant-loop-store l = record {
  draws : l.draws.state ≡ state_after l.seed (draws_before l.store);
  stock : l.stock.items ≡ l.fn.stock.items ++ lines (map (λ store. store_fields store (made_units l.seed store)) (numbers 1 (l.store - 1)));
  demand : l.demand.items ≡ l.fn.demand.items ++ lines (flat_map (store_rows l.seed) (numbers 1 (l.store - 1)));
}
