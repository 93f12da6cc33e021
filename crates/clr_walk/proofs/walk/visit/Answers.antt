use Rattle.std.proofs.Common.{◌≡◌, ℕ, zero, suc, List, refl, ◌<◌, ◌≤◌, [], ◌∷◌, ◌++◌, ◌∙◌, sym, ap, subst, take, length, SFits, rules, arith, ℤ, to_z, of_z}
use Rattle.std.proofs.Math.Seq.{take-length}
use Rattle.std.proofs.lemmas.Int.{to_z-of_z}
use mir.Syntax.{w128}
use Rattle.clr_walk.specs.Walks.{IsWalked}
use Rattle.clr_walk.proofs.Choosing.{offered}
use Rattle.clr_walk.proofs.WalkLemmas.{met_more, met_part, met_path}
use Rattle.clr_walk.proofs.walk.visit.Goals as goal

read : (x : ℤ) → SFits w128 x → to_z w128 (of_z w128 x) ≡ x
read x fits = to_z-of_z w128 x fits

some : (n : ℕ) → (n ≡ 0 → ⊥) → 1 ≤ n
some n p = omega arith

length-take-most : (n : ℕ) (xs : List ℕ) → length (take n xs) ≤ n
length-take-most zero xs = omega arith
length-take-most (suc n) [] = omega arith
length-take-most (suc n) (x ∷ xs) = let rest : length (take n xs) ≤ n = length-take-most n xs in omega (arith, rest)

-- a front that is not the whole path
part : (done : ℕ) (path : List ℕ) (long weeks : ℕ) → done ≤ length path → (done ≡ long → ⊥) → long ≡ length path → length path ≡ weeks → length (take done path) < weeks
part done path long weeks le other e f = let most = length-take-most done path in omega (arith, most)

pub returns-then-done-len-clause-walked : goal.returns-then-done-len-clause-walked
returns-then-done-len-clause-walked g c = λ seeds seen nodes walked.
    let fits = read c.low-low.result (record { sfits = c.low-low.type_inv }) in
    let whole : take c.args.done c.args.walk.now.path.items ≡ c.args.walk.now.path.items = let e : c.args.done ≡ length c.args.walk.now.path.items = search rules in ap (λ n. take n c.args.walk.now.path.items) e ∙ take-length c.args.walk.now.path.items in
    let some : 1 ≤ c.args.walk.now.left = omega arith in
    subst (λ p. IsWalked (g.P.Problem.terms c.args.problem.now) seeds nodes (seen ++ p ∷ []) c.offer.new.walk.left c.offer.new.walk.more c.offer.new.walk.best.items c.offer.new.walk.low) (sym whole)
    (rw c.offer.ensures.more
    (met_path (g.P.Problem.terms c.args.problem.now) seeds seen nodes c.args.walk.now.path.items c.args.walk.now.best.items c.offer.new.walk.best.items c.args.walk.now.left c.offer.new.walk.left c.args.walk.now.more c.args.walk.now.low c.offer.new.walk.low
    walked some c.offer.ensures.left c.requires.weeks
    (λ candidates kept. offered _ candidates _ _ _ _ _ _ kept (fits ∙ (c.low-low.ensures ∙ ap (g.P.Problem.terms c.args.problem.now).low c.deref.ensures.value)) c.offer.ensures.choice)))

pub returns-then-walk-eq0-clause-walked : goal.returns-then-walk-eq0-clause-walked
returns-then-walk-eq0-clause-walked g c = λ seeds seen nodes walked.
    met_more (g.P.Problem.terms c.args.problem.now) seeds seen nodes (take c.args.done c.args.walk.now.path.items) c.args.walk.now.best.items c.args.walk.now.left c.args.walk.now.more c.args.walk.now.low walked c.if-walk-eq0.true

pub returns-else-done-len-clause-walked : goal.returns-else-done-len-clause-walked
returns-else-done-len-clause-walked g c = λ seeds seen nodes walked.
    let long : c.len.result ≡ length c.args.walk.now.path.items = search rules in
    met_part (g.P.Problem.terms c.args.problem.now) seeds seen nodes (take c.args.done c.args.walk.now.path.items) c.args.walk.now.best.items c.args.walk.now.left _ c.args.walk.now.more c.args.walk.now.low walked (some c.args.walk.now.left c.if-walk-eq0.false) refl
    (part c.args.done c.args.walk.now.path.items c.len.result _ c.requires.done c.if-done-len.false long c.requires.weeks)
