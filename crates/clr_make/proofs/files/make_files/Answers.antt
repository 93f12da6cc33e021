use Rattle.std.proofs.Common.{◌++◌, ◌∙◌, ap}
use Rattle.clr_make.specs.Made.{IsMade, demand_rows, lines, made_demand, made_ladder, made_rules, made_stock, stock_rows}
use Rattle.clr_make.proofs.MadeSeason.{made-reads}
use Rattle.clr_make.proofs.files.make_files.Goals as goal

made : (c : goal.In_ok-print_stores) → IsMade c.args.seed (record { rules = c.in_ok-rules.rules; ladder = c.in_ok-ladder.ladder; stock = c.print_stores.new.stock; demand = c.print_stores.new.demand })
unfolding made_rules made_ladder made_stock made_demand lines
made c = record {
  rules = c.in_ok-rules.ensures.items;
  ladder = c.in_ok-ladder.ensures.items;
  stock = c.in_ok-print_stores.ensures.stock ∙ ap (λ t. t ++ lines (stock_rows c.args.seed)) c.in_ok-stock.ensures.items;
  demand = c.in_ok-print_stores.ensures.demand ∙ ap (λ t. t ++ lines (demand_rows c.args.seed)) c.in_ok-demand.ensures.items;
}

pub returns-clause-files : goal.returns-clause-files
returns-clause-files c = made c

pub returns-clause-reads : goal.returns-clause-reads
returns-clause-reads c = made-reads c.args.seed _ (made c)
