use Rattle.std.proofs.Common.{◌≡◌, ◌-◌, ◌++◌, ◌∙◌, ap, sym, arith, map}
use Rattle.std.specs.List.{flat_map}
use Rattle.clr_num.specs.Lists.{numbers}
use Rattle.clr_make.specs.Draws.{state_after}
use Rattle.clr_make.specs.Made.{demand_rows, lines, made_units, store_fields, stock_rows, store_rows}
use Rattle.clr_make.proofs.DrawLemmas.{first-store}
use Rattle.clr_make.proofs.LineLemmas.{row-more, rows-more, rows-none}
use Rattle.clr_make.proofs.files.print_stores.Goals as goal

pub loop-store-init : goal.loop-store-init
loop-store-init c = record {
  draws = c.new-draws.ensures ∙ ap (λ n. state_after c.args.seed n) (sym first-store);
  stock = rows-none c.args.stock.now.items;
  demand = rows-none c.args.demand.now.items;
}

pub loop-store-preserved : goal.loop-store-preserved
loop-store-preserved c =
    let before = c.loop-store.invariant in
    let low = c.loop-store.auto.store in
    record {
      draws = c.in_ok-print_store.ensures.draws c.args.seed before.draws;
      stock = row-more (λ store. store_fields store (made_units c.args.seed store)) c.loop-store.store c.args.stock.now.items c.loop-store.stock.items c.print_store.new.stock.items low before.stock (c.in_ok-print_store.ensures.stock c.args.seed before.draws);
      demand = rows-more (store_rows c.args.seed) c.loop-store.store c.args.demand.now.items c.loop-store.demand.items c.print_store.new.demand.items low before.demand (c.in_ok-print_store.ensures.demand c.args.seed before.draws);
    }

pub returns-clause-stock : goal.returns-clause-stock
unfolding stock_rows
returns-clause-stock c =
    let end : c.loop-store.store - 1 ≡ 24 = omega arith in
    c.loop-store.invariant.stock ∙ ap (λ n. c.args.stock.now.items ++ lines (map (λ store. store_fields store (made_units c.args.seed store)) (numbers 1 n))) end

pub returns-clause-demand : goal.returns-clause-demand
unfolding demand_rows
returns-clause-demand c =
    let end : c.loop-store.store - 1 ≡ 24 = omega arith in
    c.loop-store.invariant.demand ∙ ap (λ n. c.args.demand.now.items ++ lines (flat_map (store_rows c.args.seed) (numbers 1 n))) end
