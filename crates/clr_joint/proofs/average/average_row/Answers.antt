use Rattle.std.proofs.Common.{rules, ◌≡◌, ℕ, ◌<◌, ℤ, pos, List, length, get_or, arith, ap, ap₂, sym, ◌∙◌, subst, SFits, FitsSigned, to_z, of_z}
use Rattle.std.proofs.lemmas.Int.{to_z-of_z}
use mir.Syntax.{w64, w128}
use Rattle.clr_average.specs.Average.{IsWithin}
use Rattle.clr_average.proofs.Within.{within_64}
use Rattle.clr_model.specs.JointWeek.{joint_base}
use Rattle.clr_joint.specs.Folds.{fold_reach}
use Rattle.clr_joint.proofs.Averages.{all_folded, quotient_small}
use Rattle.clr_joint.proofs.Folds.{pushed, pushed_size}
use Rattle.clr_joint.proofs.Limits.{base_some, few_stores}
use Rattle.clr_joint.proofs.average.average_row.Goals as goal

pub overflow_cast-div_by : goal.overflow_cast-div_by
overflow_cast-div_by g c =
    let result_fits : SFits w128 c.div_by.result = search rules in
    let item_fits : SFits w128 (get_or c.deref-item-items.result.now c.loop-item.item-index (pos 0)) = search rules in
    let lt : c.loop-item.item-index < length c.deref-item-items.result.now = omega (arith, c.loop-item-test.true, c.loop-item.auto.item-index-end) in
    let is : to_z w128 (of_z w128 c.div_by.result) ≡ g.R.Direction.quotient (get_or c.deref-item-items.result.now c.loop-item.item-index (pos 0)) (joint_base c.args.season.now)
    = to_z-of_z w128 c.div_by.result result_fits ∙ (c.div_by.ensures ∙ ap₂ (λ n b. g.R.Direction.quotient n b) (to_z-of_z w128 _ item_fits) c.base_of_all-base.ensures.value) in
    subst (FitsSigned w64) (sym is)
    (within_64 _ 2000000000000000000 (omega arith)
    (quotient_small g.R.Direction.leans g.R.Direction.quotient g.met.R.Direction.laws c.args.season.now _ (few_stores c.args.season.now c.base_of_all-base.ensures.facts c.requires.fits) (base_some c.args.season.now c.base_of_all-base.ensures.facts c.requires.fits)
    (subst (λ (xs : List ℤ). (k : ℕ) → k < length xs → IsWithin (fold_reach c.args.season.now.base (length c.args.season.now.stores)) (get_or xs k (pos 0))) (sym c.deref-item-items.ensures.value) c.in_ok-items.ensures.within c.loop-item.item-index lt)))

pub loop-item-preserved : goal.loop-item-preserved
loop-item-preserved g c =
    let result_fits : SFits w128 c.div_by.result = search rules in
    let item_fits : SFits w128 (get_or c.deref-item-items.result.now c.loop-item.item-index (pos 0)) = search rules in
    let lt : c.loop-item.item-index < length c.deref-item-items.result.now = omega (arith, c.loop-item-test.true, c.loop-item.auto.item-index-end) in
    let is : to_z w128 (of_z w128 c.div_by.result) ≡ g.R.Direction.quotient (get_or c.deref-item-items.result.now c.loop-item.item-index (pos 0)) (joint_base c.args.season.now)
    = to_z-of_z w128 c.div_by.result result_fits ∙ (c.div_by.ensures ∙ ap₂ (λ n b. g.R.Direction.quotient n b) (to_z-of_z w128 _ item_fits) c.base_of_all-base.ensures.value) in
    let small : IsWithin 2000000000000000000 (g.R.Direction.quotient (get_or c.deref-item-items.result.now c.loop-item.item-index (pos 0)) (joint_base c.args.season.now))
    = quotient_small g.R.Direction.leans g.R.Direction.quotient g.met.R.Direction.laws c.args.season.now _ (few_stores c.args.season.now c.base_of_all-base.ensures.facts c.requires.fits) (base_some c.args.season.now c.base_of_all-base.ensures.facts c.requires.fits)
    (subst (λ (xs : List ℤ). (k : ℕ) → k < length xs → IsWithin (fold_reach c.args.season.now.base (length c.args.season.now.stores)) (get_or xs k (pos 0))) (sym c.deref-item-items.ensures.value) c.in_ok-items.ensures.within c.loop-item.item-index lt) in
    let read : to_z w64 (of_z w64 (to_z w128 (of_z w128 c.div_by.result))) ≡ g.R.Direction.quotient (get_or c.deref-item-items.result.now c.loop-item.item-index (pos 0)) (joint_base c.args.season.now)
    = ap (λ z. to_z w64 (of_z w64 z)) is ∙ to_z-of_z w64 _ (within_64 _ 2000000000000000000 (omega arith) small) in
    record {
      size = ap length c.in_ok-push.ensures.items ∙ pushed_size c.loop-item.averages.items c.loop-item.item-index _ c.loop-item.invariant.size;
      within = λ k lt. subst (λ (items : List ℤ). IsWithin 2000000000000000000 (get_or items k (pos 0))) (sym c.in_ok-push.ensures.items)
          (pushed c.loop-item.averages.items c.loop-item.item-index _ (pos 0) (λ _ z. IsWithin 2000000000000000000 z) c.loop-item.invariant.size c.loop-item.invariant.within (subst (IsWithin 2000000000000000000) (sym read) small) k lt);
      each = λ k lt. subst (λ (items : List ℤ). get_or items k (pos 0) ≡ g.R.Direction.quotient (get_or c.deref-item-items.result.now k (pos 0)) (joint_base c.args.season.now)) (sym c.in_ok-push.ensures.items)
          (pushed c.loop-item.averages.items c.loop-item.item-index _ (pos 0) (λ k z. z ≡ g.R.Direction.quotient (get_or c.deref-item-items.result.now k (pos 0)) (joint_base c.args.season.now)) c.loop-item.invariant.size c.loop-item.invariant.each read k lt);
    }

pub returns-clause-each : goal.returns-clause-each
returns-clause-each g c = λ place lt.
    let whole : place < c.loop-item.item-index = omega (arith, lt, c.loop-item-test.false, c.loop-item.auto.item-index-end, ap length c.deref-item-items.ensures.value, c.in_ok-items.ensures.size) in
    c.loop-item.invariant.each place whole
    ∙ ap (λ t. g.R.Direction.quotient t (joint_base c.args.season.now))
    (ap (λ (xs : List ℤ). get_or xs place (pos 0)) c.deref-item-items.ensures.value
    ∙ all_folded c.args.season.now c.args.done c.args.rung place c.args.row.now c.in_ok-items.items.items c.base_of_all-base.ensures.facts c.requires.early c.requires.low c.requires.high c.requires.size c.in_ok-items.ensures lt)
