use Rattle.std.proofs.Common.{◌≡◌, ◌∙◌, ◌+◌, ◌-◌, ◌<◌, ◌≤◌, ℕ, set, sym, ap, subst, arith, pos, get_or, length, to_z, of_z}
use mir.Syntax.{w128}
use Rattle.clr_average.proofs.Within.{within_pos}
use Rattle.clr_rules.specs.Rules.{IsPath}
use Rattle.clr_check.proofs.Holding.{path_set, rung_number, rung_parts, rungs_more}
use Rattle.clr_check.proofs.Sides.{read_128}
use Rattle.clr_check.proofs.keeping.keep_path.Goals as goal

pub loop-index-preserved : goal.loop-index-preserved
loop-index-preserved c =
    let inside : c.loop-index.index < length c.args.numbers.now = omega (arith, c.loop-index-test.true, c.weeks-index-end.ensures.value, c.requires.weeks) in
    let most : length c.args.season.now.rules.prices ≤ 12 = c.weeks-index-end.ensures.facts.rules.ladder.few in
    let parts = rung_parts c.args.season.now c.args.numbers.now c.loop-index.index c.requires.rungs inside in
    let r = rung_number (length c.args.season.now.rules.prices) (get_or c.args.numbers.now c.loop-index.index (pos 0)) parts.0 parts.1 in
    let read : to_z w128 (of_z w128 (get_or c.args.numbers.now c.loop-index.index (pos 0))) ≡ get_or c.args.numbers.now c.loop-index.index (pos 0) = rw (r.1.0) (read_128 (pos r.0) 12 (within_pos 12 r.0 (omega (arith, r.1.1.1, most))) (omega arith)) in
    let is : pos c.short_rung.result ≡ get_or c.args.numbers.now c.loop-index.index (pos 0) = c.short_rung.ensures ∙ read in
    let same : c.short_rung.result ≡ r.0 = one c.short_rung.result r.0 (is ∙ r.1.0) in
    let at : c.loop-index.index + 1 - 1 ≡ c.loop-index.index = omega arith in
    let set_is : c.set.new.self ≡ set c.loop-index.path c.loop-index.index c.short_rung.result = c.set.ensures ∙ ap (λ n. set c.loop-index.path n c.short_rung.result) at in
    record {
      path = subst (IsPath c.args.season.now.rules) (sym set_is) (path_set c.args.season.now.rules c.loop-index.path c.loop-index.index c.short_rung.result c.loop-index.invariant.path (omega (arith, same, r.1.1.0)) (omega (arith, same, r.1.1.1)));
      there = λ k less. ap (λ p. pos (get_or p k 0)) set_is ∙ rungs_more c.loop-index.path c.args.numbers.now c.loop-index.index c.short_rung.result (omega (arith, c.loop-index.invariant.path.weeks, c.loop-index-test.true, c.weeks-index-end.ensures.value)) is c.loop-index.invariant.there k less;
    }
  where
    one : (a b : ℕ) → pos a ≡ pos b → a ≡ b
    one a b h = cc
