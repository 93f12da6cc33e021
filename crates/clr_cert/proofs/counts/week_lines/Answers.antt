use Rattle.std.proofs.Common.{◌≡◌, ◌≤◌, ◌+◌, ◌*◌, length, ap, ap₂, sym, ◌∙◌, arith, ℕ}
use Rattle.clr_rules.specs.LiveSummaries.{live_summaries}
use Rattle.clr_season.specs.Season.{Season, IsSeason}
use Rattle.clr_cert.proofs.Counting.{few_live, length-week, week_range}
use Rattle.clr_cert.proofs.Walking.{live_at}
use Rattle.clr_cert.proofs.counts.week_lines.Goals as goal

-- the live summaries that are counted
counted : (season : Season) (done count : ℕ) → IsSeason season → count ≡ length (live_summaries season.rules done) → count ≤ 1872
counted season done count is e = let few = few_live season done is in omega arith

pub overflow_mul-result-2 : goal.overflow_mul-result-2
overflow_mul-result-2 c =
    let count : c.from-summaries.result ≡ length (live_summaries c.args.season.now.rules c.args.done) = c.from-summaries.ensures ∙ (c.count.ensures ∙ ap length (live_at c.args.season.now c.args.live.now c.args.done c.requires.live c.requires.early)) in
    let stores : c.from-stores.result ≤ 64 = omega (arith, c.stores.ensures.facts.stores.few) in
    record { fits = omega (arith, week_range c.from-stores.result c.from-summaries.result c.args.joint stores (counted c.args.season.now c.args.done c.from-summaries.result c.stores.ensures.facts count) c.requires.range) }

pub overflow_add-result-2 : goal.overflow_add-result-2
overflow_add-result-2 c =
    let count : c.from-summaries.result ≡ length (live_summaries c.args.season.now.rules c.args.done) = c.from-summaries.ensures ∙ (c.count.ensures ∙ ap length (live_at c.args.season.now c.args.live.now c.args.done c.requires.live c.requires.early)) in
    let stores : c.from-stores.result ≤ 64 = omega (arith, c.stores.ensures.facts.stores.few) in
    record { fits = omega (arith, week_range c.from-stores.result c.from-summaries.result c.args.joint stores (counted c.args.season.now c.args.done c.from-summaries.result c.stores.ensures.facts count) c.requires.range) }

pub returns-clause-value : goal.returns-clause-value
returns-clause-value c =
    let count : c.from-summaries.result ≡ length (live_summaries c.args.season.now.rules c.args.done) = c.from-summaries.ensures ∙ (c.count.ensures ∙ ap length (live_at c.args.season.now c.args.live.now c.args.done c.requires.live c.requires.early)) in
    let stores : c.from-stores.result ≡ length c.args.season.now.stores = c.from-stores.ensures ∙ c.stores.ensures.value in
    ap₂ (λ s k. 2 * s + k * (s + c.args.joint)) stores count
    ∙ (ap (λ j. 2 * length c.args.season.now.stores + length (live_summaries c.args.season.now.rules c.args.done) * (length c.args.season.now.stores + j)) c.requires.joint ∙ sym (length-week c.args.season.now c.args.done))

pub returns-clause-range : goal.returns-clause-range
returns-clause-range c =
    let count : c.from-summaries.result ≡ length (live_summaries c.args.season.now.rules c.args.done) = c.from-summaries.ensures ∙ (c.count.ensures ∙ ap length (live_at c.args.season.now c.args.live.now c.args.done c.requires.live c.requires.early)) in
    let stores : c.from-stores.result ≤ 64 = omega (arith, c.stores.ensures.facts.stores.few) in
    week_range c.from-stores.result c.from-summaries.result c.args.joint stores (counted c.args.season.now c.args.done c.from-summaries.result c.stores.ensures.facts count) c.requires.range
