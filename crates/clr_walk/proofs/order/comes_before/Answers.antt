use Rattle.std.proofs.Common.{◌≡◌, inl, inr, ℕ, ◌<◌, ◌≤◌, false, true, nat_lt, List, get_or, length, sym, arith}
use Rattle.std.proofs.lemmas.Bool.Decides.{nat_tests}
use Rattle.std.proofs.lemmas.List.{get_or_default}
use Rattle.clr_walk.proofs.Precedence.{lesser_at, same_everywhere}
use Rattle.clr_walk.proofs.order.comes_before.Goals as goal

less_is : (a b : ℕ) → nat_lt a b ≡ true → a < b
less_is a b e = grind (arith, nat_tests)

more_is : (a b : ℕ) → nat_lt a b ≡ false → b ≤ a
more_is a b e = grind (arith, nat_tests)

-- at a place within both lists the default does not matter
lesser : (one other : List ℕ) (i : ℕ) → i < length one → i < length other → get_or one i 0 < get_or other i 0 → get_or one i 1 < get_or other i 1
lesser one other i p q h = let a = get_or_default one i 0 1 p in let b = get_or_default other i 0 1 q in omega arith

pub returns-then-rung-other-clause-before : goal.returns-then-rung-other-clause-before
returns-then-rung-other-clause-before c = λ e.
    let inside : c.loop-index.index < length c.args.path.now = omega arith in
    let within : c.loop-index.index < length c.args.other.now = omega arith in
    lesser_at c.args.path.now c.args.other.now c.loop-index.index inside c.loop-index.invariant (lesser c.args.path.now c.args.other.now c.loop-index.index inside within (less_is _ _ e))

pub returns-then-rung-other-clause-after : goal.returns-then-rung-other-clause-after
returns-then-rung-other-clause-after c = λ e.
    let inside : c.loop-index.index < length c.args.path.now = omega arith in
    let within : c.loop-index.index < length c.args.other.now = omega arith in
    let most = more_is _ _ e in
    let less : get_or c.args.other.now c.loop-index.index 0 < get_or c.args.path.now c.loop-index.index 0 = omega (arith, c.if-rung-other.true) in
    inr (lesser_at c.args.other.now c.args.path.now c.loop-index.index within (λ k p. sym (c.loop-index.invariant k p)) (lesser c.args.other.now c.args.path.now c.loop-index.index within inside less))

pub returns-clause-after : goal.returns-clause-after
returns-clause-after c = λ e.
    inl (same_everywhere c.args.path.now c.args.other.now c.requires (λ k p. c.loop-index.invariant k (omega arith)))
