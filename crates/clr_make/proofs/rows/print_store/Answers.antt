use Rattle.std.proofs.Common.{◌+◌, ◌%◌, ◌++◌, ◌∙◌, ap}
use Rattle.clr_make.specs.Made.{line, store_fields}
use Rattle.clr_make.proofs.rows.print_store.Goals as goal

pub returns-clause-draws : goal.returns-clause-draws
returns-clause-draws c = λ seed at. c.in_ok-print_weeks.ensures.draws seed (c.draw.ensures.follows seed _ at)

pub returns-clause-stock : goal.returns-clause-stock
returns-clause-stock c = λ seed at.
    c.in_ok-print_stock.ensures ∙ ap (λ d. c.args.stock.now.items ++ line (store_fields c.args.store (20 + d % 41))) (c.draw.ensures.value seed _ at)

pub returns-clause-demand : goal.returns-clause-demand
returns-clause-demand c = λ seed at. c.in_ok-print_weeks.ensures.text seed (c.draw.ensures.follows seed _ at)
