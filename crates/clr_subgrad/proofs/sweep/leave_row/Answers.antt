use Rattle.std.proofs.Common.{◌≡◌, ◌&&◌, ℕ, true, sym, ◌<◌, ◌==◌, suc, ◌∙◌, cond, get_or, length, subst, arith}
use Rattle.std.proofs.lemmas.List.Sums.{sum_by-take-le, sum_by_more, sum_by_more_le}
use Rattle.std.specs.List.{sum_by}
use Rattle.clr_num.specs.Lists.{numbers}
use Rattle.clr_rules.specs.LiveSummaries.{at_week, is_live_summary, leads_at}
use Rattle.clr_rules.specs.Rules.{may_follow, next_summary}
use Rattle.clr_rules.proofs.LiveLists.{rung_range}
use Rattle.std.proofs.lemmas.Bool.{and_parts}
use Rattle.clr_mult.specs.Tables.{Within}
use Rattle.clr_subgrad.proofs.Leaving.{arriving_none, came_both, came_same, chosen_fits, chosen_none, plus_zero, some_part, used_both, used_same}
use Rattle.clr_subgrad.proofs.Spreads.{sum_last}
use Rattle.clr_season.specs.Season.{store_at}
use Rattle.clr_subgrad.specs.Masses.{CameIn, IsUsed, arriving}
use Rattle.clr_subgrad.proofs.sweep.leave_row.Goals as goal
use Rattle.clr_subgrad.proofs.sweep.leave_row.Goals.{then-mass-gt0, else-mass-gt0}

pub leave-requires-clause-room : goal.leave-requires-clause-room
leave-requires-clause-room c =
    let lt : c.loop-stock.stock < length c.args.masses.now = omega (arith, c.loop-stock-test.true, c.loop-stock.auto.stock-end) in
    omega (arith, c.loop-stock.invariant.total, sum_by_more_le (λ x. x) c.args.masses.now c.loop-stock.stock 0 lt, c.requires.room)

pub leave-requires-clause-part : goal.leave-requires-clause-part
leave-requires-clause-part c =
    let lt : c.loop-stock.stock < length c.args.masses.now = omega (arith, c.loop-stock-test.true, c.loop-stock.auto.stock-end) in
    let rung : ℕ = c.from-rung.result in
    let leads : leads_at c.args.season.now.rules c.args.done c.args.s c.from-rung.result ≡ true = subst (λ r. leads_at c.args.season.now.rules c.args.done c.args.s r ≡ true) (sym c.from-rung.ensures) (c.requires.leads c.loop-stock.stock (omega (arith, lt, c.requires.masses, c.requires.choices))) in
    let range = rung_range c.args.season.now.rules c.args.done c.args.s c.from-rung.result (and_parts (may_follow c.args.season.now.rules c.args.done c.args.s c.from-rung.result) (is_live_summary c.args.season.now.rules (suc c.args.done) (next_summary c.args.season.now.rules c.args.s c.from-rung.result)) leads).0 in
    let within : Within c.args.used.now.stores c.args.used.now.weeks c.args.used.now.rungs c.args.store (suc c.args.done) c.from-rung.result
    = record { store_from = c.requires.low; store_to = omega (arith, c.requires.high, c.requires.stores); week_from = omega arith; week_to = omega (arith, c.requires.early, c.requires.weeks); rung_from = range.0; rung_to = omega (arith, range.1, c.requires.rungs) } in
    let chosen : ℕ = sum_by (λ stock. cond (c.from-rung.result == get_or c.args.choices.now stock 0) (get_or c.args.masses.now stock 0) 0) (numbers 0 c.loop-stock.stock) in
    let now = c.loop-stock.invariant.used.entries c.args.store (suc c.args.done) c.from-rung.result within in
    let some = some_part ((c.args.store == c.args.store) && (suc c.args.done == suc c.args.done)) (sum_by (λ stock. cond (c.from-rung.result == get_or c.args.choices.now stock 0) (get_or c.args.masses.now stock 0) 0) (numbers 0 c.loop-stock.stock)) in
    let most = chosen_fits c.args.masses.now (λ stock. c.from-rung.result == get_or c.args.choices.now stock 0) c.loop-stock.stock (omega arith) in
    omega (arith, now, some, most, sum_by_more_le (λ x. x) c.args.masses.now c.loop-stock.stock 0 lt, c.requires.part c.from-rung.result range.0 range.1)

pub loop-stock-preserved : goal.loop-stock-preserved
loop-stock-preserved c =
    let lt : c.loop-stock.stock < length c.args.masses.now = omega (arith, c.loop-stock-test.true, c.loop-stock.auto.stock-end) in
    let next = sum_by_more (λ x. x) c.args.masses.now c.loop-stock.stock 0 lt in
    elim c.if-mass-gt0.branch [
      | then-mass-gt0 w ↦ rw (w.after-is, w.used-is) (record {
        size = w.leave.ensures.size ∙ c.loop-stock.invariant.size;
        came = came_both _ _ _ _ _ _ _ _ (λ t rest. sum_last _ c.loop-stock.stock) c.loop-stock.invariant.came (subst (λ r. CameIn (suc (store_at c.args.season.now c.args.store).units) (at_week (suc c.args.done) c.args.live.now) (λ t rest. arriving c.args.season.now c.args.store c.args.done c.args.s c.loop-stock.stock r (get_or c.args.masses.now c.loop-stock.stock 0) t rest) c.loop-stock.after w.leave.new.after) w.from-rung.ensures w.leave.ensures.came);
        total = omega (arith, w.leave.ensures.total, c.loop-stock.invariant.total, next);
        used = used_both _ _ _ _ _ _ _ _ (λ r. sum_last _ c.loop-stock.stock) c.loop-stock.invariant.used (subst (λ n. IsUsed c.args.store (suc c.args.done) (λ r. cond (r == n) (get_or c.args.masses.now c.loop-stock.stock 0) 0) c.loop-stock.used w.leave.new.used) w.from-rung.ensures w.leave.ensures.used);
      })
      | else-mass-gt0 w ↦ rw (w.after-is, w.used-is) (let none : get_or c.args.masses.now c.loop-stock.stock 0 ≡ 0 = omega (arith, w.if-mass-gt0.false) in record {
        size = c.loop-stock.invariant.size;
        came = came_same _ _ _ _ _ _ (λ t rest. sum_last _ c.loop-stock.stock ∙ plus_zero _ _ (arriving_none c.args.season.now c.args.store c.args.done c.args.s c.loop-stock.stock (get_or c.args.choices.now c.loop-stock.stock 0) (get_or c.args.masses.now c.loop-stock.stock 0) t rest none)) c.loop-stock.invariant.came;
        total = omega (arith, c.loop-stock.invariant.total, next);
        used = used_same _ _ _ _ _ _ (λ r. sum_last _ c.loop-stock.stock ∙ plus_zero _ _ (chosen_none (r == get_or c.args.choices.now c.loop-stock.stock 0) (get_or c.args.masses.now c.loop-stock.stock 0) none)) c.loop-stock.invariant.used;
      })
    ]

pub returns-clause-came : goal.returns-clause-came
returns-clause-came c =
    let all : c.loop-stock.stock ≡ length c.args.masses.now = omega (arith, c.loop-stock-test.false, c.loop-stock.auto.stock-end) in
    subst (λ n. CameIn (suc (store_at c.args.season.now c.args.store).units) (at_week (suc c.args.done) c.args.live.now) (λ t rest. sum_by (λ stock. arriving c.args.season.now c.args.store c.args.done c.args.s stock (get_or c.args.choices.now stock 0) (get_or c.args.masses.now stock 0) t rest) (numbers 0 n)) c.args.after.now c.loop-stock.after)
    all c.loop-stock.invariant.came

pub returns-clause-part : goal.returns-clause-part
returns-clause-part c = λ rung low high.
    let within : Within c.args.used.now.stores c.args.used.now.weeks c.args.used.now.rungs c.args.store (suc c.args.done) rung
    = record { store_from = c.requires.low; store_to = omega (arith, c.requires.high, c.requires.stores); week_from = omega arith; week_to = omega (arith, c.requires.early, c.requires.weeks); rung_from = low; rung_to = omega (arith, high, c.requires.rungs) } in
    let now = c.loop-stock.invariant.used.entries c.args.store (suc c.args.done) rung within in
    let some = some_part ((c.args.store == c.args.store) && (suc c.args.done == suc c.args.done)) (sum_by (λ stock. cond (rung == get_or c.args.choices.now stock 0) (get_or c.args.masses.now stock 0) 0) (numbers 0 c.loop-stock.stock)) in
    let most = chosen_fits c.args.masses.now (λ stock. rung == get_or c.args.choices.now stock 0) c.loop-stock.stock (omega arith) in
    omega (arith, now, some, most, sum_by-take-le (λ x. x) c.args.masses.now c.loop-stock.stock)

pub returns-clause-used : goal.returns-clause-used
returns-clause-used c =
    let all : c.loop-stock.stock ≡ length c.args.masses.now = omega (arith, c.loop-stock-test.false, c.loop-stock.auto.stock-end) in
    subst (λ n. IsUsed c.args.store (suc c.args.done) (λ rung. sum_by (λ stock. cond (rung == get_or c.args.choices.now stock 0) (get_or c.args.masses.now stock 0) 0) (numbers 0 n)) c.args.used.now c.loop-stock.used) all c.loop-stock.invariant.used
