use Rattle.std.proofs.Common.{◌≡◌, ℕ, ◌+◌, ◌*◌, ◌-◌, ◌<◌, suc, refl, [], length, Option, Some, unwrap_or, ap, sym, ◌∙◌, subst, arith}
use Rattle.std.specs.Option.{IsSome}
use Rattle.clr_rules.specs.LiveSummaries.{at_week}
use Rattle.clr_rules.specs.Rules.{Rulebook, summary}
use Rattle.clr_season.specs.Season.{store_at}
use Rattle.clr_rows.proofs.Lists.{got_inside, in_rows}
use Rattle.clr_subgrad.proofs.Coming.{first_rows}
use Rattle.clr_subgrad.proofs.Leaving.{start_in}
use Rattle.clr_subgrad.proofs.masses.first_masses.Goals as goal

pub unwrap-place-requires : goal.unwrap-place-requires
unwrap-place-requires c =
    let (k, at) = start_in c.args.season.now.rules c.args.live.now c.rules.ensures.facts.rules c.requires.live c.requires.any in
    let start : c.start.result ≡ summary c.args.season.now.rules [] = c.start.ensures ∙ ap (λ (r : Rulebook). summary r []) c.rules.ensures.value in
    subst IsSome (sym (c.find.ensures.listed k (at ∙ ap Some (sym start)))) refl

pub index_mut-requires : goal.index_mut-requires
index_mut-requires c =
    let place : c.unwrap-place.result < length (at_week 0 c.args.live.now) = got_inside (at_week 0 c.args.live.now) c.unwrap-place.result c.start.result (c.find.ensures.found c.unwrap-place.result c.unwrap-place.ensures) in
    let inside : c.unwrap-place.result * (c.stock.result + 1) + (c.stock.result + 1 - 1) < c.count.result * (c.stock.result + 1)
    = subst (λ n. c.unwrap-place.result * (c.stock.result + 1) + (c.stock.result + 1 - 1) < n * (c.stock.result + 1)) (sym c.count.ensures) (in_rows (c.stock.result + 1) (length (at_week 0 c.args.live.now)) c.unwrap-place.result (c.stock.result + 1 - 1) place (omega arith)) in
    omega (arith, inside, c.in_ok-masses.ensures.len)

pub returns-clause-rows : goal.returns-clause-rows
returns-clause-rows c = λ m.
    let width : c.stock.result + 1 ≡ suc (store_at c.args.season.now c.args.store).units = omega (arith, c.stock.ensures.value) in
    let start : c.start.result ≡ summary c.args.season.now.rules [] = c.start.ensures ∙ ap (λ (r : Rulebook). summary r []) c.rules.ensures.value in
    first_rows m c.args.season.now c.args.store (c.stock.result + 1) c.unwrap-place.result (c.count.result * (c.stock.result + 1)) c.start.result (at_week 0 c.args.live.now) c.in_ok-masses.masses.items width start
    (c.find.ensures.found c.unwrap-place.result c.unwrap-place.ensures) (λ j h. ap (λ (o : Option ℕ). unwrap_or o 0) (sym (c.find.ensures.listed j h) ∙ c.unwrap-place.ensures)) (ap (λ n. n * (c.stock.result + 1)) c.count.ensures) (c.in_ok-masses.ensures.items_if_clones_equal (λ y e. cc))
