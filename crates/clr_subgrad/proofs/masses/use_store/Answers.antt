use Rattle.std.proofs.Common.{◌≤◌, suc, length, refl, sym, ◌∙◌, subst, arith, add-one}
use Rattle.clr_rules.specs.LiveSummaries.{at_week}
use Rattle.clr_season.specs.Season.{store_at}
use Rattle.clr_model.specs.Usage.{mass}
use Rattle.clr_mult.specs.Tables.{Within, mult_at}
use Rattle.clr_rows.specs.Rows.{AreRows}
use Rattle.clr_subgrad.proofs.Using.{no_week, sizes_both, week_more, week_none, weeks_used, within_as}
use Rattle.clr_subgrad.proofs.masses.use_store.Goals as goal

pub loop-done-init : goal.loop-done-init
loop-done-init c = record {
  rows = c.in_ok-masses.ensures.rows (mult_at c.args.mult.now);
  total = c.in_ok-masses.ensures.total;
  count = refl;
  sizes = record { stores = refl; weeks = refl; rungs = refl };
  entries = no_week (mult_at c.args.mult.now) c.args.season.now c.args.store c.args.used.now;
}

pub next_masses-requires-clause-none : goal.next_masses-requires-clause-none
next_masses-requires-clause-none c = λ r low high.
    let early : suc c.loop-done.done ≤ c.args.season.now.rules.weeks = omega arith in
    let within : Within c.args.used.now.stores c.args.used.now.weeks c.args.used.now.rungs c.args.store (suc c.loop-done.done) r = record { store_from = c.requires.low; store_to = omega (arith, c.requires.high, c.requires.stores); week_from = omega arith; week_to = omega (arith, early, c.requires.weeks); rung_from = low; rung_to = omega (arith, high, c.requires.rungs) } in
    week_none (mult_at c.args.mult.now) c.args.season.now c.args.store c.loop-done.done r c.args.used.now c.loop-done.used (c.loop-done.invariant.entries c.args.store (suc c.loop-done.done) r within) (c.requires.none c.args.store (suc c.loop-done.done) r within refl)

pub loop-done-preserved : goal.loop-done-preserved
loop-done-preserved c = record {
  rows = subst (λ n. AreRows 0 (suc (store_at c.args.season.now c.args.store).units) (at_week n c.args.live.now) (length (at_week n c.args.live.now)) (mass (mult_at c.args.mult.now) c.args.season.now c.args.store n) c.in_ok-masses-2.masses.items) (sym (add-one c.loop-done.done)) c.in_ok-masses-2.ensures.rows;
  total = c.in_ok-masses-2.ensures.total;
  count = c.in_ok-masses-2.ensures.used.count ∙ c.loop-done.invariant.count;
  sizes = sizes_both c.next_masses.new.used c.loop-done.used c.args.used.now c.in_ok-masses-2.ensures.used.sizes c.loop-done.invariant.sizes;
  entries = λ s w r within.
      week_more (mult_at c.args.mult.now) c.args.season.now c.args.store c.loop-done.done c.args.used.now c.loop-done.used c.next_masses.new.used s w r (c.loop-done.invariant.entries s w r within) (c.requires.none s w r within)
      (c.in_ok-masses-2.ensures.used.entries s w r (within_as c.loop-done.used c.args.used.now s w r c.loop-done.invariant.sizes within));
}

pub returns-clause-entries : goal.returns-clause-entries
returns-clause-entries c = λ s w r within.
    let late : c.args.season.now.rules.weeks ≤ c.loop-done.done = omega arith in
    weeks_used (mult_at c.args.mult.now) c.args.season.now c.args.store c.loop-done.done c.args.used.now c.loop-done.used s w r (omega (arith, within.week_to, c.requires.weeks, late)) (c.loop-done.invariant.entries s w r within)
