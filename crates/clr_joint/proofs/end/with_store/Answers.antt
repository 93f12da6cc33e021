use Rattle.std.proofs.Common.{◌≡◌, ◌≤◌, ◌*◌, ◌/◌, ◌%◌, ℤ, pos, ◌+ℤ◌, List, length, get_or, ap, sym, ◌∙◌, subst, arith, FitsSigned, to_z, of_z}
use Rattle.std.proofs.lemmas.Int.{to_z-of_z}
use Rattle.std.proofs.lemmas.Nat.{mod_below}
use mir.Syntax.{w64}
use Rattle.clr_average.specs.Average.{IsWithin}
use Rattle.clr_average.proofs.Within.{within_64}
use Rattle.clr_joint.proofs.Ends.{sum_read, sum_within, worth_most}
use Rattle.clr_joint.proofs.Folds.{pushed, pushed_size}
use Rattle.clr_joint.proofs.end.with_store.Goals as goal

pub overflow_add-worth : goal.overflow_add-worth
overflow_add-worth c =
    let most : c.args.unit * (c.loop-place.place / length c.args.row.now) ≤ 20000000000000000 = worth_most c.args.unit c.loop-place.place (length c.args.row.now) c.args.stocks c.requires.some c.loop-place-test.true c.requires.stocks c.requires.unit in
    let value : IsWithin 60000000000000000 (get_or c.args.row.now (c.loop-place.place % length c.args.row.now) (pos 0)) = c.requires.values (c.loop-place.place % length c.args.row.now) (mod_below c.loop-place.place (length c.args.row.now) c.requires.some) in
    subst (FitsSigned w64) (sym (sum_read (c.args.unit * (c.loop-place.place / length c.args.row.now)) (get_or c.args.row.now (c.loop-place.place % length c.args.row.now) (pos 0)) most value))
    (within_64 _ 80000000000000000 (omega arith) (sum_within (c.args.unit * (c.loop-place.place / length c.args.row.now)) (get_or c.args.row.now (c.loop-place.place % length c.args.row.now) (pos 0)) most value))

pub loop-place-preserved : goal.loop-place-preserved
loop-place-preserved c =
    let most : c.args.unit * (c.loop-place.place / length c.args.row.now) ≤ 20000000000000000 = worth_most c.args.unit c.loop-place.place (length c.args.row.now) c.args.stocks c.requires.some c.loop-place-test.true c.requires.stocks c.requires.unit in
    let value : IsWithin 60000000000000000 (get_or c.args.row.now (c.loop-place.place % length c.args.row.now) (pos 0)) = c.requires.values (c.loop-place.place % length c.args.row.now) (mod_below c.loop-place.place (length c.args.row.now) c.requires.some) in
    let here : to_z w64 (of_z w64 (to_z w64 (c.args.unit * (c.loop-place.place / length c.args.row.now)) +ℤ to_z w64 (of_z w64 (get_or c.args.row.now (c.loop-place.place % length c.args.row.now) (pos 0))))) ≡ pos (c.args.unit * (c.loop-place.place / length c.args.row.now)) +ℤ get_or c.args.row.now (c.loop-place.place % length c.args.row.now) (pos 0)
    = ap (λ z. to_z w64 (of_z w64 z)) (sum_read (c.args.unit * (c.loop-place.place / length c.args.row.now)) (get_or c.args.row.now (c.loop-place.place % length c.args.row.now) (pos 0)) most value)
    ∙ to_z-of_z w64 _ (within_64 _ 80000000000000000 (omega arith) (sum_within (c.args.unit * (c.loop-place.place / length c.args.row.now)) (get_or c.args.row.now (c.loop-place.place % length c.args.row.now) (pos 0)) most value)) in
    record {
      size = ap length c.in_ok-push.ensures.items ∙ pushed_size c.loop-place.now.items c.loop-place.place _ c.loop-place.invariant.size;
      each = λ k lt. subst (λ (items : List ℤ). get_or items k (pos 0) ≡ pos (c.args.unit * (k / length c.args.row.now)) +ℤ get_or c.args.row.now (k % length c.args.row.now) (pos 0)) (sym c.in_ok-push.ensures.items)
          (pushed c.loop-place.now.items c.loop-place.place _ (pos 0) (λ k z. z ≡ pos (c.args.unit * (k / length c.args.row.now)) +ℤ get_or c.args.row.now (k % length c.args.row.now) (pos 0)) c.loop-place.invariant.size c.loop-place.invariant.each here k lt);
    }
