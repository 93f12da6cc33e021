use Rattle.std.proofs.Common.{◌≡◌, ◌∷◌, ◌++◌, take}
use Rattle.std.specs.List.{flat_map}
use Rattle.clr_num.specs.Money.{cents_text}
use Rattle.clr_report.proofs.plan.print_cents_of.Given as goal

abbrev pub invariant-loop-price : goal.invariant-loop-price
invariant-loop-price l = l.out.items ≡ l.fn.out.items ++ flat_map (λ price. 32 ∷ cents_text price) (take l.price-index l.prices)
