use Rattle.std.proofs.Common.{◌≡◌, ◌<◌, ◌≤◌, ◌*◌, ℤ, ℕ, pos, ◌-ℤ◌, ◌*ℤ◌, SFits, to_z, of_z, length, get_or, sum, suc, subst, sym, ap, ap₂, ◌∙◌, arith}
use Rattle.std.proofs.Math.Nat.{div-le_of_le-mul}
use Rattle.std.proofs.lemmas.Int.{ints, to_z-of_z}
use mir.Syntax.{w64}
use Rattle.clr_mult.specs.Rows.{moved}
use Rattle.clr_mult.specs.Steps.{IsSmall, direction_of}
use Rattle.clr_mult.proofs.RowLemmas.{ahead_more, done_more}
use Rattle.clr_mult.proofs.Sums.{sum_le}
use Rattle.clr_mult.proofs.rows.step_row.Goals as goal

pub direction-requires-clause-mean : goal.direction-requires-clause-mean
direction-requires-clause-mean c =
    let total : c.row_sum-total.result ≤ length c.args.usage.now * 1000000 = subst (λ t. t ≤ length c.args.usage.now * 1000000) (sym c.row_sum-total.ensures) (sum_le c.args.usage.now 1000000 (λ i p. c.requires.part i)) in
    div-le_of_le-mul (length c.args.usage.now) total

small_fits : (z : ℤ) → IsSmall 9000000000000000 z → SFits w64 z
small_fits z small = search (arith, ints)

pub loop-index-preserved : goal.loop-index-preserved
loop-index-preserved c =
    let i : ℕ = c.loop-index.index in
    let usage = c.args.usage.now in
    let inside : c.loop-index.index < length c.loop-index.row = omega arith in
    let first : c.loop-index.index < length c.args.row.now = omega arith in
    let before : get_or c.loop-index.row c.loop-index.index (pos 0) ≡ get_or c.args.row.now c.loop-index.index (pos 0) = c.loop-index.invariant.ahead c.loop-index.index (omega arith) in
    let entry_fits : SFits w64 (get_or c.loop-index.row c.loop-index.index (pos 0)) = subst (λ z. SFits w64 z) (sym before) (small_fits _ (c.requires.small c.loop-index.index first)) in
    let moved_fits : SFits w64 c.moved.result = record { sfits = c.moved.type_inv } in
    let direction_fits : SFits w64 c.direction.result = record { sfits = c.direction.type_inv } in
    let direction : c.direction.result ≡ direction_of (get_or c.args.usage.now c.loop-index.index 0) (sum c.args.usage.now) (length c.args.usage.now) (suc c.loop-index.index)
    = c.direction.ensures.value ∙ ap (λ t. direction_of (get_or c.args.usage.now c.loop-index.index 0) t (length c.args.usage.now) (suc c.loop-index.index)) c.row_sum-total.ensures in
    let item : to_z w64 (of_z w64 c.moved.result) ≡ moved c.args.q c.args.usage.now c.args.row.now c.loop-index.index
    = to_z-of_z w64 c.moved.result moved_fits
    ∙ (c.moved.ensures ∙ ap₂ (λ e d. e -ℤ pos c.args.q *ℤ d) (to_z-of_z w64 _ entry_fits ∙ before) (to_z-of_z w64 _ direction_fits ∙ direction)) in
    record {
      done = done_more c.args.q c.loop-index.index c.args.usage.now c.args.row.now c.loop-index.row _ inside item c.loop-index.invariant.done;
      ahead = ahead_more c.loop-index.index c.args.row.now c.loop-index.row _ c.loop-index.invariant.ahead;
    }
