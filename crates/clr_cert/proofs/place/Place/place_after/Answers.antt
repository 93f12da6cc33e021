use Rattle.std.proofs.Common.{sym, ◌∙◌, ap}
use Rattle.clr_cert.specs.declared.place.Place.TheVariants.{Head, Lengths, Path, Mult, Low, High, Value, Joint, Revenue, Bound}
use Rattle.clr_cert.specs.Steps.{after_low}
use Rattle.clr_cert.proofs.Walking.{end_at, next_at, reached_of, next_live}
use Rattle.clr_cert.proofs.place.Place.place_after.Goals as goal

pub next_of_high-requires-clause-done : goal.next_of_high-requires-clause-done
next_of_high-requires-clause-done c = (reached_of c.args.season.now c.args.self (High c.in-High.done c.in-High.store) c.stores-stores.ensures.facts c.requires.reached c.in-High.is).early

pub next_of_value-requires-clause-done : goal.next_of_value-requires-clause-done
next_of_value-requires-clause-done c = (reached_of c.args.season.now c.args.self (Value c.in-Value.done c.in-Value.store c.in-Value.s) c.stores-stores.ensures.facts c.requires.reached c.in-Value.is).0.early

pub next_of_value-requires-clause-among : goal.next_of_value-requires-clause-among
next_of_value-requires-clause-among c = (reached_of c.args.season.now c.args.self (Value c.in-Value.done c.in-Value.store c.in-Value.s) c.stores-stores.ensures.facts c.requires.reached c.in-Value.is).1

pub next_of_joint-requires-clause-done : goal.next_of_joint-requires-clause-done
next_of_joint-requires-clause-done c = (reached_of c.args.season.now c.args.self (Joint c.in-Joint.done c.in-Joint.s c.in-Joint.index) c.stores-stores.ensures.facts c.requires.reached c.in-Joint.is).early

pub next_of_joint-requires-clause-among : goal.next_of_joint-requires-clause-among
next_of_joint-requires-clause-among c = (reached_of c.args.season.now c.args.self (Joint c.in-Joint.done c.in-Joint.s c.in-Joint.index) c.stores-stores.ensures.facts c.requires.reached c.in-Joint.is).live

pub next_of_joint-requires-clause-fits : goal.next_of_joint-requires-clause-fits
next_of_joint-requires-clause-fits c = (reached_of c.args.season.now c.args.self (Joint c.in-Joint.done c.in-Joint.s c.in-Joint.index) c.stores-stores.ensures.facts c.requires.reached c.in-Joint.is).fit

pub next_of_joint-requires-clause-index : goal.next_of_joint-requires-clause-index
next_of_joint-requires-clause-index c = (reached_of c.args.season.now c.args.self (Joint c.in-Joint.done c.in-Joint.s c.in-Joint.index) c.stores-stores.ensures.facts c.requires.reached c.in-Joint.is).within

pub returns-in-Head : goal.returns-in-Head
returns-in-Head c row here = c.next_of_head.ensures ∙ sym (next_at c.args.season.now c.args.self Head row c.stores-stores.ensures.facts here c.in-Head.is)

pub returns-in-Lengths : goal.returns-in-Lengths
returns-in-Lengths c row here = sym (next_at c.args.season.now c.args.self Lengths row c.stores-stores.ensures.facts here c.in-Lengths.is)

pub returns-in-Path : goal.returns-in-Path
returns-in-Path c row here = sym (next_at c.args.season.now c.args.self Path row c.stores-stores.ensures.facts here c.in-Path.is)

pub returns-in-Mult : goal.returns-in-Mult
returns-in-Mult c row here = c.next_of_mult.ensures ∙ sym (next_at c.args.season.now c.args.self (Mult c.in-Mult.week c.in-Mult.rung) row c.stores-stores.ensures.facts here c.in-Mult.is)

pub returns-in-Low : goal.returns-in-Low
returns-in-Low c row here = c.next_of_low.ensures ∙ (ap (λ n. after_low n c.in-Low.done c.in-Low.store) c.stores-stores.ensures.value ∙ sym (next_at c.args.season.now c.args.self (Low c.in-Low.done c.in-Low.store) row c.stores-stores.ensures.facts here c.in-Low.is))

pub returns-in-High : goal.returns-in-High
returns-in-High c row here = c.next_of_high.ensures ∙ sym (next_at c.args.season.now c.args.self (High c.in-High.done c.in-High.store) row c.stores-stores.ensures.facts here c.in-High.is)

pub returns-in-Value : goal.returns-in-Value
returns-in-Value c row here = let h = next_at c.args.season.now c.args.self (Value c.in-Value.done c.in-Value.store c.in-Value.s) row c.stores-stores.ensures.facts here c.in-Value.is in next_live h c.next_of_value.result c.next_of_value.ensures

pub returns-in-Joint : goal.returns-in-Joint
returns-in-Joint c row here = let h = (next_at c.args.season.now c.args.self (Joint c.in-Joint.done c.in-Joint.s c.in-Joint.index) row c.stores-stores.ensures.facts here c.in-Joint.is) in next_live h c.next_of_joint.result c.next_of_joint.ensures

pub returns-in-Revenue : goal.returns-in-Revenue
returns-in-Revenue c row here = sym (next_at c.args.season.now c.args.self Revenue row c.stores-stores.ensures.facts here c.in-Revenue.is)

pub returns-in-Bound : goal.returns-in-Bound
returns-in-Bound c row here = c.next_of_bound.ensures ∙ sym (next_at c.args.season.now c.args.self Bound row c.stores-stores.ensures.facts here c.in-Bound.is)

pub returns-in-Exact : goal.returns-in-Exact
returns-in-Exact c row here = sym (end_at c.args.season.now c.args.self row c.stores-stores.ensures.facts here c.in-Exact.is)
