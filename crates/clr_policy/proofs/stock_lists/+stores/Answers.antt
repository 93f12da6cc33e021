use Rattle.std.proofs.Common.{◌≡◌, ◌≤◌, ◌<◌, ◌+◌, ◌-◌, ◌*◌, ◌/◌, ◌^◌, length, sym, ap, ap₂, ◌∙◌, subst, rules, arith}
use Rattle.clr_average.specs.Average.{IsWithin}
use Rattle.clr_model.specs.Stocks.{lists_of}
use Rattle.clr_policy.specs.StockLists.{AllWithin, most_gain, most_reach, most_total, reach_after, stocks_from}
use Rattle.clr_policy.proofs.Folds.{base_most, first_folds, mid_length, mid_within, one_row_more, put_at, reach_fits, reach_more, row_is, rows_divide, rows_within, size_splits}
use Rattle.clr_policy.proofs.stock_lists.+stores.Goals as goal

pub weigh_row-returns-clause-row : goal.weigh_row-returns-clause-row
weigh_row-returns-clause-row t c rest held =
    row_is c.args.season.now c.args.week.done c.args.week.before c.args.week.rung c.args.store c.args.width c.args.stock c.args.values.now c.weigh_stores.new.values _ rest c.requires.width c.requires.inside
    (c.weigh_stores.auto.values ∙ mid_length c.args.width c.args.stock c.args.values.now c.requires.inside) held (c.weigh_stores.ensures.each rest held)

pub weigh_row-returns-clause-within : goal.weigh_row-returns-clause-within
weigh_row-returns-clause-within t c reach le all place lt =
    let size : length c.weigh_stores.new.values ≡ c.args.width = c.weigh_stores.auto.values ∙ mid_length c.args.width c.args.stock c.args.values.now c.requires.inside in
    let low : place < length c.weigh_stores.new.values = subst (λ n. place < n) (sym size) lt in
    subst (IsWithin (reach_after c.args.season.now (c.args.store + 1) reach)) (sym (put_at c.args.values.now c.weigh_stores.new.values _ (c.args.stock * c.args.width) place (omega (arith, c.requires.inside)) low))
    (c.weigh_stores.ensures.within reach le (mid_within reach c.args.width c.args.stock c.args.values.now c.requires.inside all) place low)

pub weigh_rows-loop-stock-preserved : goal.weigh_rows-loop-stock-preserved
weigh_rows-loop-stock-preserved t c =
    one_row_more c.args.season.now c.args.week c.args.store c.args.width c.loop-stock.stock c.args.rows c.args.values.now c.loop-stock.values c.weigh_row.new.values c.loop-stock.invariant c.requires.width c.requires.size c.loop-stock-test.true
    c.weigh_row.auto.values c.weigh_row.ensures.row c.weigh_row.ensures.within c.weigh_row.ensures.before c.weigh_row.ensures.after

pub weigh_rows-returns-clause-within : goal.weigh_rows-returns-clause-within
weigh_rows-returns-clause-within t c reach le all =
    let ended : c.loop-stock.stock ≡ c.args.rows = search rules in
    rows_within c.args.season.now c.args.week c.args.store c.args.width c.loop-stock.stock c.args.rows reach c.args.values.now c.loop-stock.values c.loop-stock.invariant ended c.requires.size le all

pub weigh_stores-weigh_rows-requires : goal.weigh_stores-weigh_rows-requires
weigh_stores-weigh_rows-requires t c =
    let high : c.args.store ≤ length c.args.season.now.stores = search rules in
    let split : length c.args.values.now ≡ (c.stock.result + 1) * lists_of (stocks_from c.args.season.now (c.args.store + 1))
    = c.requires.size ∙ (size_splits c.args.season.now c.args.store c.requires.low high ∙ ap (λ n. (n + 1) * lists_of (stocks_from c.args.season.now (c.args.store + 1))) (sym c.stock.ensures.value)) in
    let width : length c.args.values.now / (c.stock.result + 1) ≡ lists_of (stocks_from c.args.season.now (c.args.store + 1)) = rows_divide _ (c.stock.result + 1) _ split (omega arith) in
    (omega (arith, c.decreases), (c.requires.week, (c.requires.low, (high, (omega (arith, high, c.stores.ensures.facts.stores.few), (c.requires.base, (width, (split ∙ ap (λ n. (c.stock.result + 1) * n) (sym width), c.requires.reach))))))))

pub weigh_stores-pow-scale-requires : goal.weigh_stores-pow-scale-requires
weigh_stores-pow-scale-requires t c =
    let most = base_most c.args.season.now c.args.store c.stores.ensures.facts c.requires.base in
    let same : c.from.result ^ (c.stores-2.result - c.args.store) ≡ c.args.season.now.base ^ (length c.args.season.now.stores - c.args.store) = ap₂ (λ b n. b ^ (n - c.args.store)) (c.from.ensures ∙ c.base.ensures.value) c.stores-2.ensures.value in
    omega (arith, most, same)

pub weigh_stores-weigh_store-requires-clause-size : goal.weigh_stores-weigh_store-requires-clause-size
weigh_stores-weigh_store-requires-clause-size t c =
    let high : c.args.store ≤ length c.args.season.now.stores = search rules in
    let split : length c.args.values.now ≡ (c.stock.result + 1) * lists_of (stocks_from c.args.season.now (c.args.store + 1))
    = c.requires.size ∙ (size_splits c.args.season.now c.args.store c.requires.low high ∙ ap (λ n. (n + 1) * lists_of (stocks_from c.args.season.now (c.args.store + 1))) (sym c.stock.ensures.value)) in
    let width : length c.args.values.now / (c.stock.result + 1) ≡ lists_of (stocks_from c.args.season.now (c.args.store + 1)) = rows_divide _ (c.stock.result + 1) _ split (omega arith) in
    c.weigh_rows.auto.values ∙ (split ∙ ap₂ (λ n w. (n + 1) * w) c.stock.ensures.value (sym width))

pub weigh_stores-weigh_store-requires-clause-scale : goal.weigh_stores-weigh_store-requires-clause-scale
weigh_stores-weigh_store-requires-clause-scale t c =
    let most = base_most c.args.season.now c.args.store c.stores.ensures.facts c.requires.base in
    let same : c.pow-scale.result ≡ c.args.season.now.base ^ (length c.args.season.now.stores - c.args.store) = c.pow-scale.ensures ∙ ap₂ (λ b n. b ^ (n - c.args.store)) (c.from.ensures ∙ c.base.ensures.value) c.stores-2.ensures.value in
    omega (arith, most, same)

pub weigh_stores-weigh_store-requires-clause-small : goal.weigh_stores-weigh_store-requires-clause-small
weigh_stores-weigh_store-requires-clause-small t c =
    let high : c.args.store ≤ length c.args.season.now.stores = search rules in
    let same : c.pow-scale.result ≡ c.args.season.now.base ^ (length c.args.season.now.stores - c.args.store) = c.pow-scale.ensures ∙ ap₂ (λ b n. b ^ (n - c.args.store)) (c.from.ensures ∙ c.base.ensures.value) c.stores-2.ensures.value in
    let more = reach_more c.args.season.now c.args.store most_reach high in
    let fits = reach_fits c.args.season.now c.args.store most_reach c.stores.ensures.facts c.requires.low c.requires.base (omega arith) in (
      reach_after c.args.season.now (c.args.store + 1) most_reach,
      c.weigh_rows.ensures.within most_reach (omega arith) c.requires.reach,
      subst (λ s. c.args.season.now.base * (reach_after c.args.season.now (c.args.store + 1) most_reach + most_gain * s) ≤ most_total) (sym same) (subst (λ n. n ≤ most_total) (sym more) fits),
    )

pub weigh_stores-returns-clause-each : goal.weigh_stores-returns-clause-each
weigh_stores-returns-clause-each t c stocks held =
    let high : c.args.store ≤ length c.args.season.now.stores = search rules in
    let split : length c.args.values.now ≡ (c.stock.result + 1) * lists_of (stocks_from c.args.season.now (c.args.store + 1))
    = c.requires.size ∙ (size_splits c.args.season.now c.args.store c.requires.low high ∙ ap (λ n. (n + 1) * lists_of (stocks_from c.args.season.now (c.args.store + 1))) (sym c.stock.ensures.value)) in
    let width : length c.args.values.now / (c.stock.result + 1) ≡ lists_of (stocks_from c.args.season.now (c.args.store + 1)) = rows_divide _ (c.stock.result + 1) _ split (omega arith) in
    let same : c.pow-scale.result ≡ c.args.season.now.base ^ (length c.args.season.now.stores - c.args.store) = c.pow-scale.ensures ∙ ap₂ (λ b n. b ^ (n - c.args.store)) (c.from.ensures ∙ c.base.ensures.value) c.stores-2.ensures.value in
    first_folds c.args.season.now c.args.week c.args.store (length c.args.values.now / (c.stock.result + 1)) c.pow-scale.result c.args.values.now c.weigh_rows.new.values c.weigh_store.new.values stocks c.requires.low high width same
    (λ x rest lt within. c.weigh_rows.ensures.each x rest (omega (arith, lt, c.stock.ensures.value)) within) c.weigh_store.ensures.each held

pub weigh_stores-returns-clause-within : goal.weigh_stores-returns-clause-within
weigh_stores-returns-clause-within t c reach le all =
    let high : c.args.store ≤ length c.args.season.now.stores = search rules in
    let same : c.pow-scale.result ≡ c.args.season.now.base ^ (length c.args.season.now.stores - c.args.store) = c.pow-scale.ensures ∙ ap₂ (λ b n. b ^ (n - c.args.store)) (c.from.ensures ∙ c.base.ensures.value) c.stores-2.ensures.value in
    let more = reach_more c.args.season.now c.args.store reach high in
    let fits = reach_fits c.args.season.now c.args.store reach c.stores.ensures.facts c.requires.low c.requires.base le in
    let now : c.args.season.now.base * (reach_after c.args.season.now (c.args.store + 1) reach + most_gain * c.pow-scale.result) ≡ reach_after c.args.season.now c.args.store reach
    = ap (λ s. c.args.season.now.base * (reach_after c.args.season.now (c.args.store + 1) reach + most_gain * s)) same ∙ more in
    subst (λ n. AllWithin n c.weigh_store.new.values) now
    (c.weigh_store.ensures.within (reach_after c.args.season.now (c.args.store + 1) reach) (c.weigh_rows.ensures.within reach le all) (subst (λ n. n ≤ most_total) (sym now) fits))
