use Rattle.std.proofs.Common.{◌≡◌, ℕ, ◌-◌, List, [], length, not, SFits, to_z, of_z, ap, ap₂, sym, ◌∙◌, subst, arith, rules}
use Rattle.std.proofs.lemmas.Int.{to_z-of_z}
use mir.Syntax.{w128}
use Rattle.clr_walk.specs.Tight.{tight, IsSearched}
use Rattle.clr_walk.specs.Walks.{IsWalked, under}
use Rattle.clr_walk.proofs.WalkLemmas.{begins, ends_searched}
use Rattle.clr_walk.proofs.Listing.{walk_is_tight}
use Rattle.clr_walk.proofs.walk.search.Goals as goal

less_none : (n : ℕ) → n - 0 ≡ n
less_none n = omega arith

pub returns : goal.returns
returns g c = λ seeds chosen.
    let terms = g.P.Problem.terms c.args.problem.now in
    let first : List ℕ = c.args.first.items in
    let walk = c.explore.new.walk in
    let seed_is : to_z w128 (of_z w128 c.low-seed.result) ≡ terms.low first = to_z-of_z w128 c.low-seed.result (record { sfits = c.low-seed.type_inv }) ∙ (c.low-seed.ensures ∙ ap terms.low c.deref-2.ensures.value) in
    let weeks : length c.in_ok-path.path.items - 0 ≡ terms.weeks = less_none (length c.in_ok-path.path.items) ∙ (ap length (c.in_ok-path.ensures.items ∙ c.deref.ensures.value) ∙ c.requires.path.weeks) in
    let list : under terms (to_z w128 (of_z w128 c.low-seed.result)) [] (length c.in_ok-path.path.items - 0) ≡ tight terms (terms.low first)
    = ap₂ (λ s n. under terms s [] n) seed_is weeks ∙ walk_is_tight terms (terms.low first) (g.met.P.Problem.closed c.args.problem.now) in
    let walked = c.explore.ensures.walked seeds [] c.args.nodes (begins terms seeds c.args.nodes first _ chosen seed_is) in
    let fits : SFits w128 walk.low = search rules in
    subst (λ v. IsSearched terms (terms.low first) seeds c.args.nodes walk.best.items v (not walk.more)) (sym (to_z-of_z w128 walk.low fits))
    (ends_searched terms seeds c.args.nodes walk.left walk.more walk.best.items walk.low (terms.low first) (subst (λ xs. IsWalked terms seeds c.args.nodes xs walk.left walk.more walk.best.items walk.low) list walked))
