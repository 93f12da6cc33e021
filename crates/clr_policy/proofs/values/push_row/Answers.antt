use Rattle.std.proofs.Common.{◌≡◌, ℕ, zero, suc, ◌<◌, ◌≤◌, ◌+◌, ℤ, pos, ◌+ℤ◌, List, [], ◌∷◌, ◌++◌, length, get_or, take, append_assoc, refl, ap, ap₂, sym, ◌∙◌, subst, arith, add-one, SFits, to_z, of_z}
use Rattle.std.proofs.Math.Seq.{take-length}
use Rattle.std.proofs.lemmas.Int.{to_z-of_z}
use mir.Syntax.{w128}
use Rattle.clr_average.specs.Average.{IsWithin}
use Rattle.clr_average.proofs.Within.{within_more, within_pos, within_sum}
use Rattle.clr_policy.specs.StockLists.{most_gain, most_reach, most_total, with_more}
use Rattle.clr_policy.proofs.StockSums.{in_128}
use Rattle.clr_policy.proofs.values.push_row.Goals as goal

-- a value with so much more, and that it fits
more_fits : (value : ℤ) (more : ℕ) → IsWithin most_reach value → more ≤ most_gain → SFits w128 (value +ℤ pos more)
more_fits value more h le = in_128 (value +ℤ pos more) (within_more (most_reach + most_gain) most_total (value +ℤ pos more) (within_sum most_reach most_gain value (pos more) h (within_pos most_gain more le)) (omega arith))

more_read : (value added : ℤ) (more : ℕ) → IsWithin most_reach value → more ≤ most_gain → added ≡ pos more → to_z w128 (of_z w128 value) +ℤ to_z w128 (of_z w128 added) ≡ value +ℤ pos more
more_read value added more h le is =
    ap₂ ◌+ℤ◌ (to_z-of_z w128 value (in_128 value (within_more most_reach most_total value h (omega arith))))
    (ap (λ z. to_z w128 (of_z w128 z)) is ∙ to_z-of_z w128 (pos more) (in_128 (pos more) (within_more most_gain most_total (pos more) (within_pos most_gain more le) (omega arith))))

-- a row with one value more
with_one_more : (values : List ℤ) (index : ℕ) (more : ℤ) → index < length values → with_more (take (suc index) values) more ≡ with_more (take index values) more ++ (get_or values index (pos 0) +ℤ more) ∷ []
with_one_more [] index more lt = absurd (omega arith)
with_one_more (x ∷ values) zero more lt = refl
with_one_more (x ∷ values) (suc index) more lt = ap (λ t. (x +ℤ more) ∷ t) (with_one_more values index more (omega arith))

ended : (index count : ℕ) → count ≤ index → index ≤ count → index ≡ count
ended index count p q = omega arith

pub overflow_add-value : goal.overflow_add-value
overflow_add-value c =
    let here : IsWithin most_reach (get_or c.args.after.now c.loop-value.value-index (pos 0)) = c.requires.reach c.loop-value.value-index c.loop-value-test.true in
    subst (SFits w128) (sym (more_read (get_or c.args.after.now c.loop-value.value-index (pos 0)) c.from.result c.args.more here c.requires.more c.from.ensures)) (more_fits (get_or c.args.after.now c.loop-value.value-index (pos 0)) c.args.more here c.requires.more)

pub loop-value-preserved : goal.loop-value-preserved
loop-value-preserved c =
    let value : ℤ = get_or c.args.after.now c.loop-value.value-index (pos 0) in
    let here : IsWithin most_reach (get_or c.args.after.now c.loop-value.value-index (pos 0)) = c.requires.reach c.loop-value.value-index c.loop-value-test.true in
    let read : to_z w128 (of_z w128 (to_z w128 (of_z w128 (get_or c.args.after.now c.loop-value.value-index (pos 0))) +ℤ to_z w128 (of_z w128 c.from.result))) ≡ get_or c.args.after.now c.loop-value.value-index (pos 0) +ℤ pos c.args.more
    = ap (λ z. to_z w128 (of_z w128 z)) (more_read value c.from.result c.args.more here c.requires.more c.from.ensures) ∙ to_z-of_z w128 _ (more_fits value c.args.more here c.requires.more) in
    c.in_ok-push.ensures.items
    ∙ (ap₂ (λ l z. l ++ z ∷ []) c.loop-value.invariant read
    ∙ (append_assoc c.args.values.now.items (with_more (take c.loop-value.value-index c.args.after.now) (pos c.args.more)) ((value +ℤ pos c.args.more) ∷ [])
    ∙ ap (λ l. c.args.values.now.items ++ l) (sym (with_one_more c.args.after.now c.loop-value.value-index (pos c.args.more) c.loop-value-test.true) ∙ ap (λ n. with_more (take n c.args.after.now) (pos c.args.more)) (sym (add-one c.loop-value.value-index)))))

pub returns : goal.returns
returns c =
    let all : c.loop-value.value-index ≡ length c.args.after.now = ended c.loop-value.value-index (length c.args.after.now) c.loop-value-test.false c.loop-value.auto.value-index-end in
    c.loop-value.invariant ∙ ap (λ l. c.args.values.now.items ++ with_more l (pos c.args.more)) (ap (λ n. take n c.args.after.now) all ∙ take-length c.args.after.now)
