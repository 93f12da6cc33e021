use Rattle.std.proofs.Common.{◌≡◌, ℕ, ◌+◌, ◌*◌, ◌<◌, suc, refl, List, length, get_or, slice_get, Option, Some, unwrap_or, ap, ◌∙◌, add-one, sym, subst, subst₂, arith}
use Rattle.std.specs.Option.{IsSome}
use Rattle.clr_rules.specs.declared.season_rules.Summary.{Summary}
use Rattle.clr_rules.specs.LiveSummaries.{IsIn, at_week}
use Rattle.clr_rules.specs.Rules.{IsInRange, Rulebook, next_if_kept, next_summary}
use Rattle.clr_rules.proofs.LiveLists.{in_range, live-reached}
use Rattle.clr_rules.proofs.Sweeps.{kept_some}
use Rattle.clr_season.specs.Season.{store_at}
use Rattle.clr_rows.proofs.Lists.{got_inside, in_rows}
use Rattle.clr_subgrad.specs.Masses.{CameIn, arriving, spread}
use Rattle.clr_subgrad.proofs.Coming.{came_spread}
use Rattle.clr_subgrad.proofs.Leaving.{next_in}
use Rattle.clr_subgrad.proofs.Using.{added_used}
use Rattle.clr_subgrad.proofs.sweep.leave.Goals as goal
use Rattle.clr_subgrad.proofs.sweep.leave.Goals.{In-Some}

pub next-requires-clause-range : goal.next-requires-clause-range
next-requires-clause-range c =
    subst (λ (r : Rulebook). IsInRange r c.args.s) (sym c.rules.ensures.value)
    (in_range c.args.season.now.rules c.args.done c.args.s c.weeks.ensures.facts.rules (omega (arith, c.requires.place.last_week)) (live-reached c.args.season.now.rules c.args.done c.args.s c.requires.here))

next_there : (c : In-Some) → IsIn (at_week (c.args.done + 1) c.args.live.now) c.in-Some.next
next_there c =
    subst (λ n. IsIn (at_week n c.args.live.now) c.in-Some.next) (sym (add-one c.args.done))
    (next_in c.args.season.now.rules c.args.done c.args.s c.in-Some.next c.args.rung c.args.live.now c.weeks.ensures.facts.rules (omega (arith, c.requires.place.last_week)) c.requires.live c.requires.leads
    (c.in-Some.ensures.by_summary ∙ ap (λ (r : Rulebook). next_if_kept r c.args.done c.args.s c.args.rung) c.rules.ensures.value))

pub unwrap-requires : goal.unwrap-requires
unwrap-requires c =
    let (k, at) = next_there (goal.at.unwrap-requires c).In-Some in
    subst IsSome (sym (c.find.ensures.listed k at)) refl

pub spread-requires-clause-inside : goal.spread-requires-clause-inside
spread-requires-clause-inside c =
    let width : c.stock.result + 1 ≡ suc (store_at c.args.season.now c.args.store).units = omega (arith, c.stock.ensures.value) in
    let place : c.unwrap.result < length (at_week (suc c.args.done) c.args.live.now)
    = subst (λ n. c.unwrap.result < length (at_week n c.args.live.now)) (add-one c.args.done) (got_inside (at_week (c.args.done + 1) c.args.live.now) c.unwrap.result c.in-Some.next (c.find.ensures.found c.unwrap.result c.unwrap.ensures)) in
    subst (λ n. c.unwrap.result * (c.stock.result + 1) + c.args.stock < n) (sym (c.requires.size ∙ ap (λ w. length (at_week (suc c.args.done) c.args.live.now) * w) (sym width)))
    (in_rows (c.stock.result + 1) (length (at_week (suc c.args.done) c.args.live.now)) c.unwrap.result c.args.stock place (omega (arith, c.requires.stock, width)))

pub returns-in-Some-clause-came : goal.returns-in-Some-clause-came
returns-in-Some-clause-came c =
    let width : c.stock.result + 1 ≡ suc (store_at c.args.season.now c.args.store).units = omega (arith, c.stock.ensures.value) in
    let book : next_if_kept c.rules.result.now c.args.done c.args.s c.args.rung ≡ next_if_kept c.args.season.now.rules c.args.done c.args.s c.args.rung = ap (λ (r : Rulebook). next_if_kept r c.args.done c.args.s c.args.rung) c.rules.ensures.value in
    let next_is : c.in-Some.next ≡ next_summary c.args.season.now.rules c.args.s c.args.rung = (kept_some c.args.season.now.rules c.args.done c.args.s c.in-Some.next c.args.rung (c.in-Some.ensures.by_summary ∙ book)).1 in
    let week : List Summary = at_week (c.args.done + 1) c.args.live.now in
    let one : (j : ℕ) → slice_get (at_week (c.args.done + 1) c.args.live.now) j ≡ Some c.in-Some.next → j ≡ c.unwrap.result
    = λ j h. ap (λ (o : Option ℕ). unwrap_or o 0) (sym (c.find.ensures.listed j h) ∙ c.unwrap.ensures) in
    subst₂ (λ w n. CameIn w (at_week n c.args.live.now) (λ t rest. arriving c.args.season.now c.args.store c.args.done c.args.s c.args.stock c.args.rung c.args.mass t rest) c.args.after.now c.spread.new.after) width (add-one c.args.done)
    (came_spread c.args.season.now c.args.store c.args.done c.args.s c.in-Some.next c.args.stock c.args.rung c.args.mass (c.stock.result + 1) c.unwrap.result (c.args.done + 1) (c.unwrap.result * (c.stock.result + 1)) week c.weights-weights.result.now c.args.after.now c.spread.new.after
    next_is (c.find.ensures.found c.unwrap.result c.unwrap.ensures) one (omega (arith, c.requires.stock, width)) refl (add-one c.args.done) c.weights-weights.ensures.value c.weights-weights.ensures.count
    (λ spot. c.spread.ensures.places spot ∙ ap (λ b. get_or c.args.after.now spot 0 + spread c.args.mass c.weights-weights.result.now b c.args.stock (c.unwrap.result * (c.stock.result + 1)) (length c.weights-weights.result.now) spot) c.base.ensures.value))

pub returns-in-Some-clause-used : goal.returns-in-Some-clause-used
returns-in-Some-clause-used c = added_used c.args.store c.args.done c.args.rung c.args.mass c.args.used.now c.add.new.self c.add.ensures.table c.add.ensures.entry c.add.ensures.others

pub returns-in_default-clause-used : goal.returns-in_default-clause-used
returns-in_default-clause-used c = added_used c.args.store c.args.done c.args.rung c.args.mass c.args.used.now c.add.new.self c.add.ensures.table c.add.ensures.entry c.add.ensures.others
