use Rattle.std.proofs.Common.{◌≡◌, ◌≤◌, ◌-◌, sym, ◌∙◌, subst, length, arith, rules}
use Rattle.clr_average.specs.Average.{IsWithin}
use Rattle.clr_average.proofs.Within.{within_more}
use Rattle.clr_policy.specs.Written.{written}
use Rattle.clr_policy.specs.Unrolled.{tree_value, unroll}
use Rattle.clr_policy.specs.StockLists.{at_place, most_reach, reach_left}
use Rattle.clr_policy.proofs.PolicyWeeks.{few_lists, item_is, last_value, reads_back, reach_small, some_values}
use Rattle.clr_policy.proofs.judged.value_of.Goals as goal

pub values_of-requires-clause-lists : goal.values_of-requires-clause-lists
values_of-requires-clause-lists g c = few_lists c.args.season.now (written c.args.policy.now) c.weeks.ensures.facts c.requires.policy c.requires.size

pub overflow_sub-len : goal.overflow_sub-len
overflow_sub-len g c =
    let some : 1 ≤ length c.in_ok-values.values.items = some_values c.args.season.now _ c.in_ok-values.values.items c.in_ok-values.ensures.values in
    let len : c.len.result ≡ length c.in_ok-values.values.items = search rules in
    omega (arith, some, len)

pub index-requires : goal.index-requires
index-requires g c =
    let some : 1 ≤ length c.in_ok-values.values.items = some_values c.args.season.now _ c.in_ok-values.values.items c.in_ok-values.ensures.values in
    let len : c.len.result ≡ length c.in_ok-values.values.items = search rules in
    let held : length c.in_ok-values.values.items ≡ c.in_ok-values.values.len = search rules in
    omega (arith, some, len, held)

pub returns-clause-value : goal.returns-clause-value
returns-clause-value g c =
    let some : 1 ≤ length c.in_ok-values.values.items = some_values c.args.season.now _ c.in_ok-values.values.items c.in_ok-values.ensures.values in
    let len : c.len.result ≡ length c.in_ok-values.values.items = search rules in
    let last : c.index.result.now ≡ at_place c.in_ok-values.values.items (c.len.result - 1) = item_is c.in_ok-values.values.items (c.len.result - 1) c.index.result.now c.index.result.now (omega (arith, some, len)) c.index.ensures in
    let within : IsWithin most_reach c.index.result.now
    = subst (IsWithin most_reach) (sym last) (within_more (reach_left (c.args.season.now.rules.weeks - 0)) most_reach _ (c.in_ok-values.ensures.reach (c.len.result - 1) (omega (arith, some, len))) (reach_small c.args.season.now.rules.weeks 0 c.weeks.ensures.facts.rules.last_week)) in
    reads_back most_reach c.index.result.now (omega arith) within ∙ (last ∙ last_value c.args.season.now (λ stocks. tree_value g.R.Direction.quotient c.args.season.now 0 1 stocks (unroll (written c.args.policy.now) stocks)) c.in_ok-values.values.items c.len.result c.in_ok-values.ensures.values len)

pub returns-clause-money : goal.returns-clause-money
returns-clause-money g c =
    let some : 1 ≤ length c.in_ok-values.values.items = some_values c.args.season.now _ c.in_ok-values.values.items c.in_ok-values.ensures.values in
    let len : c.len.result ≡ length c.in_ok-values.values.items = search rules in
    let last : c.index.result.now ≡ at_place c.in_ok-values.values.items (c.len.result - 1) = item_is c.in_ok-values.values.items (c.len.result - 1) c.index.result.now c.index.result.now (omega (arith, some, len)) c.index.ensures in
    let within : IsWithin most_reach c.index.result.now
    = subst (IsWithin most_reach) (sym last) (within_more (reach_left (c.args.season.now.rules.weeks - 0)) most_reach _ (c.in_ok-values.ensures.reach (c.len.result - 1) (omega (arith, some, len))) (reach_small c.args.season.now.rules.weeks 0 c.weeks.ensures.facts.rules.last_week)) in
    subst (IsWithin 100000000000000000000) (sym (reads_back most_reach c.index.result.now (omega arith) within)) (within_more most_reach 100000000000000000000 _ within (omega arith))
