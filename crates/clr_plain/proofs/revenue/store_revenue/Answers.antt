use Rattle.std.proofs.Common.{◌+◌, ◌-◌, ◌*◌, pos, ◌+ℤ◌, ◌-ℤ◌, length, ap, ap₂, ◌∙◌, arith}
use Rattle.clr_plain.proofs.Totals.{costs_small, gross_small, net_fits, net_read, net_small}
use Rattle.clr_plain.proofs.revenue.store_revenue.Goals as goal

pub overflow_sub-result : goal.overflow_sub-result
overflow_sub-result c = net_fits (c.sales-cents.result.0 + c.salvage.result * c.from.result) (c.relabel.result * c.from-2.result) (gross_small c.sales-cents.result.0 c.sales-cents.result.1 c.salvage.result c.from.result c.stock.result c.sales-cents.ensures.range c.salvage.ensures.range (omega (arith, c.from.ensures, c.stock.ensures.value, c.sales-cents.ensures.units)) c.stock.ensures.range)
    (costs_small c.relabel.result c.from-2.result (length c.args.path.now) c.relabel.ensures.range (omega (arith, c.from-2.ensures, c.markdowns.ensures.range)) (omega (arith, c.requires.path.weeks, c.requires.season.rules.last_week)))

pub returns-clause-value : goal.returns-clause-value
returns-clause-value c =
    net_read (c.sales-cents.result.0 + c.salvage.result * c.from.result) (c.relabel.result * c.from-2.result) (gross_small c.sales-cents.result.0 c.sales-cents.result.1 c.salvage.result c.from.result c.stock.result c.sales-cents.ensures.range c.salvage.ensures.range (omega (arith, c.from.ensures, c.stock.ensures.value, c.sales-cents.ensures.units)) c.stock.ensures.range)
    (costs_small c.relabel.result c.from-2.result (length c.args.path.now) c.relabel.ensures.range (omega (arith, c.from-2.ensures, c.markdowns.ensures.range)) (omega (arith, c.requires.path.weeks, c.requires.season.rules.last_week)))
    ∙ ap₂ ◌-ℤ◌ (ap₂ ◌+ℤ◌ c.sales-cents.ensures.cents (ap pos (ap₂ ◌*◌ c.salvage.ensures.value (c.from.ensures ∙ ap₂ ◌-◌ c.stock.ensures.value c.sales-cents.ensures.units))))
    (ap pos (ap₂ ◌*◌ c.relabel.ensures.value (c.from-2.ensures ∙ c.markdowns.ensures.value)))

pub returns-clause-size : goal.returns-clause-size
returns-clause-size c = net_small (c.sales-cents.result.0 + c.salvage.result * c.from.result) (c.relabel.result * c.from-2.result) (gross_small c.sales-cents.result.0 c.sales-cents.result.1 c.salvage.result c.from.result c.stock.result c.sales-cents.ensures.range c.salvage.ensures.range (omega (arith, c.from.ensures, c.stock.ensures.value, c.sales-cents.ensures.units)) c.stock.ensures.range)
    (costs_small c.relabel.result c.from-2.result (length c.args.path.now) c.relabel.ensures.range (omega (arith, c.from-2.ensures, c.markdowns.ensures.range)) (omega (arith, c.requires.path.weeks, c.requires.season.rules.last_week)))
