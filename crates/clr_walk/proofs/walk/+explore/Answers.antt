use Rattle.std.proofs.Common.{◌≡◌, ℕ, ◌≤◌, ◌<◌, ℤ, IsTrue, to_z, of_z, List, take, length, ◌+◌, ◌-◌, ◌++◌, ◌∷◌, [], ap, sym, ◌∙◌, subst, arith}
use Rattle.std.specs.List.{flat_map}
use Rattle.std.proofs.lemmas.Int.{to_z-of_z}
use mir.Syntax.{w128}
use Rattle.clr_num.specs.Lists.{numbers}
use Rattle.clr_walk.specs.Tight.{reaches}
use Rattle.clr_walk.specs.Walks.{Leaves, Takes, entered, under}
use Rattle.clr_walk.proofs.WalkLemmas.{takes_more, takes_both, take_within, entered_open, under_none, under_weeks}
use Rattle.clr_walk.proofs.walk.+explore.Goals as goal
use Rattle.clr_walk.proofs.walk.+explore.Goals.{in-Some, in_default}

ends : (below end rungs : ℕ) → end ≤ below → below ≤ end → end ≡ rungs → below ≡ rungs
ends below end rungs p q e = omega arith

split : (weeks done : ℕ) → done < weeks → weeks - done ≡ weeks - (done + 1) + 1
split weeks done p = omega arith

pub loop-below-preserved : goal.loop-below-preserved
loop-below-preserved g t c =
    let terms = g.P.Problem.terms c.args.problem.now in
    let seed : ℤ = c.args.seed in
    let start : List ℕ = take c.args.done c.args.walk.now.path.items in
    let prefix : List ℕ = start ++ (c.loop-below.below + 1) ∷ [] in
    let rest : ℕ = length c.args.walk.now.path.items - (c.args.done + 1) in
    let now : take c.args.done c.loop-below.walk.path.items ++ (c.loop-below.below + 1) ∷ [] ≡ prefix = ap (λ xs. xs ++ (c.loop-below.below + 1) ∷ []) c.loop-below.invariant.before in
    let read : to_z w128 (of_z w128 c.args.seed) ≡ c.args.seed = to_z-of_z w128 c.args.seed c.ranges.seed in
    let all : ℤ → ℕ → List (List ℕ) = λ s rung. entered terms s (start ++ rung ∷ []) (under terms s (start ++ rung ∷ []) rest) in
    let so_far : Takes terms (flat_map (all seed) (numbers 1 c.loop-below.below)) c.args.walk.now c.loop-below.walk = subst (λ s. Takes terms (flat_map (all s) (numbers 1 c.loop-below.below)) c.args.walk.now c.loop-below.walk) read c.loop-below.invariant.walked in
    elim c.match-enter.branch [
      | in-Some w ↦
          let o = w.in-Some.ensures.taken in
          let opened = o.0 in
          let first : Takes terms (prefix ∷ []) c.loop-below.walk c.enter.new.walk = subst (λ p. Takes terms (p ∷ []) c.loop-below.walk c.enter.new.walk) now o.2 in
          let behind : Takes terms (under terms seed prefix rest) c.enter.new.walk w.explore.new.walk
          = subst (λ p. Takes terms (under terms seed p rest) c.enter.new.walk w.explore.new.walk) (opened.prefix_is ∙ now)
          (subst (λ s. Takes terms (under terms s (take (c.args.done + 1) c.enter.new.walk.path.items) rest) c.enter.new.walk w.explore.new.walk) read
          (subst (λ n. Takes terms (under terms (to_z w128 (of_z w128 c.args.seed)) (take (c.args.done + 1) c.enter.new.walk.path.items) (n - (c.args.done + 1))) c.enter.new.walk w.explore.new.walk) (c.enter.ensures.path ∙ c.loop-below.invariant.path) w.explore.ensures.walked)) in
          let live : IsTrue (terms.live prefix) = subst (λ p. IsTrue (terms.live p)) now opened.live in
          let reached : IsTrue (reaches terms seed prefix) = subst (λ p. IsTrue (reaches terms seed p)) now (subst (λ s. IsTrue (reaches terms s (take c.args.done c.loop-below.walk.path.items ++ (c.loop-below.below + 1) ∷ []))) read opened.reached) in
          let both : Takes terms (all seed (c.loop-below.below + 1)) c.loop-below.walk w.explore.new.walk
          = subst (λ xs. Takes terms xs c.loop-below.walk w.explore.new.walk) (sym (entered_open terms seed prefix (under terms seed prefix rest) live reached))
          (takes_both terms (prefix ∷ []) (under terms seed prefix rest) c.loop-below.walk c.enter.new.walk w.explore.new.walk first behind) in
          rw w.walk-is (record {
            before = take_within c.args.done _ _ w.explore.ensures.before ∙ (c.enter.ensures.before ∙ c.loop-below.invariant.before);
            path = w.explore.ensures.path ∙ (c.enter.ensures.path ∙ c.loop-below.invariant.path);
            best = w.explore.ensures.best ∙ (c.enter.ensures.best ∙ c.loop-below.invariant.best);
            walked = subst (λ s. Takes terms (flat_map (all s) (numbers 1 (c.loop-below.below + 1))) c.args.walk.now w.explore.new.walk) (sym read) (takes_more terms (all seed) c.loop-below.below c.args.walk.now c.loop-below.walk w.explore.new.walk so_far both);
          })
      | in_default w ↦
          let left : Leaves terms seed prefix rest c.loop-below.walk c.enter.new.walk
          = subst (λ p. Leaves terms seed p rest c.loop-below.walk c.enter.new.walk) now
          (subst (λ s. Leaves terms s (take c.args.done c.loop-below.walk.path.items ++ (c.loop-below.below + 1) ∷ []) rest c.loop-below.walk c.enter.new.walk) read
          (subst (λ n. Leaves terms (to_z w128 (of_z w128 c.args.seed)) (take c.args.done c.loop-below.walk.path.items ++ (c.loop-below.below + 1) ∷ []) (n - (c.args.done + 1)) c.loop-below.walk c.enter.new.walk) c.loop-below.invariant.path w.in_default.ensures.taken)) in
          let shut : Takes terms (all seed (c.loop-below.below + 1)) c.loop-below.walk c.enter.new.walk = left (under terms seed prefix rest) (under_none terms seed prefix rest) in
          rw w.walk-is (record {
            before = c.enter.ensures.before ∙ c.loop-below.invariant.before;
            path = c.enter.ensures.path ∙ c.loop-below.invariant.path;
            best = c.enter.ensures.best ∙ c.loop-below.invariant.best;
            walked = subst (λ s. Takes terms (flat_map (all s) (numbers 1 (c.loop-below.below + 1))) c.args.walk.now c.enter.new.walk) (sym read) (takes_more terms (all seed) c.loop-below.below c.args.walk.now c.loop-below.walk c.enter.new.walk so_far shut);
          })
    ]

pub returns-clause-walked : goal.returns-clause-walked
returns-clause-walked g t c =
    let terms = g.P.Problem.terms c.args.problem.now in
    let seed : ℤ = c.args.seed in
    let start : List ℕ = take c.args.done c.args.walk.now.path.items in
    let rest : ℕ = length c.args.walk.now.path.items - (c.args.done + 1) in
    let read : to_z w128 (of_z w128 c.args.seed) ≡ c.args.seed = to_z-of_z w128 c.args.seed c.ranges.seed in
    let all : ℤ → ℕ → List (List ℕ) = λ s rung. entered terms s (start ++ rung ∷ []) (under terms s (start ++ rung ∷ []) rest) in
    let so_far : Takes terms (flat_map (all seed) (numbers 1 c.loop-below.below)) c.args.walk.now c.loop-below.walk = subst (λ s. Takes terms (flat_map (all s) (numbers 1 c.loop-below.below)) c.args.walk.now c.loop-below.walk) read c.loop-below.invariant.walked in
    let last : c.loop-below.below ≡ terms.rungs = ends c.loop-below.below c.rungs-below-end.result terms.rungs c.loop-below-test.false c.loop-below.auto.below-end c.rungs-below-end.ensures in
    subst (λ xs. Takes terms xs c.args.walk.now c.loop-below.walk) (ap (λ n. flat_map (all seed) (numbers 1 n)) last ∙ sym (under_weeks terms seed start (length c.args.walk.now.path.items - c.args.done) rest (split (length c.args.walk.now.path.items) c.args.done c.requires.done))) so_far
