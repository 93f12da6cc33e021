use Rattle.std.proofs.Common.{◌≡◌, ◌∙◌, IsTrue, ap, subst, arith, length}
use Rattle.clr_cert.specs.Entries.{most_mult}
use Rattle.clr_cert.specs.Places.{IsPlaceOf}
use Rattle.clr_cert.specs.Reading.{are_in_range, count_at, entries_in}
use Rattle.clr_check.proofs.ConditionsLines.{are_numbers, mult_line_is, none_at, path_line_is}
use Rattle.clr_check.proofs.Holding.{all_small}
use Rattle.clr_check.proofs.conditions.numbers_fault.Goals as goal

pub returns-in-Path : goal.returns-in-Path
returns-in-Path c = rw c.in-Path.is (λ lines row kept. path_line_is c.args.season.now lines row c.args.tables.now c.args.numbers.now c.path_fault.result c.requires.tables.path kept c.path_fault.ensures)

pub mult_fault-requires-clause-few : goal.mult_fault-requires-clause-few
mult_fault-requires-clause-few c = let size : length c.args.numbers.now ≡ length c.args.season.now.stores = c.requires.count ∙ ap (count_at c.args.season.now) c.in-Mult.is in omega (arith, size, c.stores.ensures.facts.stores.few)

pub mult_fault-requires-clause-small : goal.mult_fault-requires-clause-small
mult_fault-requires-clause-small c = all_small most_mult c.args.numbers.now (subst (λ p. IsTrue (are_in_range c.args.season.now p c.args.numbers.now)) c.in-Mult.is c.requires.range)

pub returns-in-Mult : goal.returns-in-Mult
returns-in-Mult c = rw c.in-Mult.is (λ lines row kept. mult_line_is c.args.season.now lines row c.args.tables.now c.args.numbers.now c.mult_fault.result c.in-Mult.week c.in-Mult.rung (c.requires.count ∙ ap (count_at c.args.season.now) c.in-Mult.is) kept c.mult_fault.ensures)

pub path_values_fault-requires-clause-place : goal.path_values_fault-requires-clause-place
path_values_fault-requires-clause-place c = subst (IsPlaceOf c.args.season.now) c.in-Low.is c.requires.place

pub path_values_fault-requires-clause-numbers : goal.path_values_fault-requires-clause-numbers
path_values_fault-requires-clause-numbers c = are_numbers c.args.season.now c.in-Low.store c.args.numbers.now (c.requires.count ∙ ap (count_at c.args.season.now) c.in-Low.is) (subst (λ p. IsTrue (are_in_range c.args.season.now p c.args.numbers.now)) c.in-Low.is c.requires.range)

pub returns-in-Low : goal.returns-in-Low
returns-in-Low c = rw c.in-Low.is c.path_values_fault.ensures

pub path_values_fault-requires-in-High-clause-place : goal.path_values_fault-requires-in-High-clause-place
path_values_fault-requires-in-High-clause-place c = subst (IsPlaceOf c.args.season.now) c.in-High.is c.requires.place

pub path_values_fault-requires-in-High-clause-numbers : goal.path_values_fault-requires-in-High-clause-numbers
path_values_fault-requires-in-High-clause-numbers c = are_numbers c.args.season.now c.in-High.store c.args.numbers.now (c.requires.count ∙ ap (count_at c.args.season.now) c.in-High.is) (subst (λ p. IsTrue (are_in_range c.args.season.now p c.args.numbers.now)) c.in-High.is c.requires.range)

pub returns-in-High : goal.returns-in-High
returns-in-High c = rw c.in-High.is c.path_values_fault-in-High.ensures

pub value_line_fault-requires-clause-place : goal.value_line_fault-requires-clause-place
value_line_fault-requires-clause-place c = subst (IsPlaceOf c.args.season.now) c.in-Value.is c.requires.place

pub value_line_fault-requires-clause-numbers : goal.value_line_fault-requires-clause-numbers
value_line_fault-requires-clause-numbers c = are_numbers c.args.season.now c.in-Value.store c.args.numbers.now (c.requires.count ∙ ap (count_at c.args.season.now) c.in-Value.is) (subst (λ p. IsTrue (are_in_range c.args.season.now p c.args.numbers.now)) c.in-Value.is c.requires.range)

pub returns-in-Value : goal.returns-in-Value
returns-in-Value c = rw c.in-Value.is c.value_line_fault.ensures

pub joint_line_fault-requires-clause-place : goal.joint_line_fault-requires-clause-place
joint_line_fault-requires-clause-place c = subst (IsPlaceOf c.args.season.now) c.in-Joint.is c.requires.place

pub joint_line_fault-requires-clause-count : goal.joint_line_fault-requires-clause-count
joint_line_fault-requires-clause-count c = c.requires.count ∙ ap (count_at c.args.season.now) c.in-Joint.is

pub joint_line_fault-requires-clause-range : goal.joint_line_fault-requires-clause-range
joint_line_fault-requires-clause-range c = subst (λ p. IsTrue (are_in_range c.args.season.now p c.args.numbers.now)) c.in-Joint.is c.requires.range

pub returns-in-Joint : goal.returns-in-Joint
returns-in-Joint c = rw c.in-Joint.is c.joint_line_fault.ensures

pub revenue_fault-requires-clause-count : goal.revenue_fault-requires-clause-count
revenue_fault-requires-clause-count c = c.requires.count ∙ ap (count_at c.args.season.now) c.in-Revenue.is

pub revenue_fault-requires-clause-range : goal.revenue_fault-requires-clause-range
revenue_fault-requires-clause-range c = subst (λ p. IsTrue (are_in_range c.args.season.now p c.args.numbers.now)) c.in-Revenue.is c.requires.range

pub returns-in-Revenue : goal.returns-in-Revenue
returns-in-Revenue c = rw c.in-Revenue.is c.revenue_fault.ensures

pub bound_fault-requires-clause-count : goal.bound_fault-requires-clause-count
bound_fault-requires-clause-count c = c.requires.count ∙ ap (count_at c.args.season.now) c.in-Bound.is

pub bound_fault-requires-clause-range : goal.bound_fault-requires-clause-range
bound_fault-requires-clause-range c = subst (λ p. IsTrue (are_in_range c.args.season.now p c.args.numbers.now)) c.in-Bound.is c.requires.range

pub returns-in-Bound : goal.returns-in-Bound
returns-in-Bound c = rw c.in-Bound.is c.bound_fault.ensures

pub exact_fault-requires-clause-fits : goal.exact_fault-requires-clause-fits
exact_fault-requires-clause-fits c = subst (IsPlaceOf c.args.season.now) c.in-Exact.is c.requires.place

pub exact_fault-requires-clause-count : goal.exact_fault-requires-clause-count
exact_fault-requires-clause-count c = c.requires.count ∙ ap (count_at c.args.season.now) c.in-Exact.is

pub exact_fault-requires-clause-range : goal.exact_fault-requires-clause-range
exact_fault-requires-clause-range c = subst (λ p. IsTrue (are_in_range c.args.season.now p c.args.numbers.now)) c.in-Exact.is c.requires.range

pub returns-in-Exact : goal.returns-in-Exact
returns-in-Exact c = rw c.in-Exact.is c.exact_fault.ensures

pub returns-in-Head : goal.returns-in-Head
returns-in-Head c lines row kept = none_at c.args.season.now c.args.place (entries_in c.args.season.now lines) c.args.numbers.now c.in-Head.is
