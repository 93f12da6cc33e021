use Rattle.std.proofs.Common.{◌≡◌, map, take}
use Rattle.clr_rules.specs.Rules.{price}
use Rattle.clr_report.proofs.plan.week_prices.Given as goal

abbrev pub invariant-loop-rung : goal.invariant-loop-rung
invariant-loop-rung l = l.prices.items ≡ map (price l.season.rules) (take l.rung-index l.path)
