use Rattle.std.proofs.Common.{◌≡◌, ℕ, ◌+◌, ◌-◌, ◌<◌, ◌≤◌, false, IsTrue, List, [], ◌∷◌, ◌++◌, take, length, ap, sym, ◌∙◌, subst, arith, rules, to_z, of_z}
use Rattle.std.proofs.Math.ListN.{length-set}
use Rattle.std.proofs.lemmas.Int.{to_z-of_z}
use Rattle.std.proofs.lemmas.List.{take_more_set}
use mir.Syntax.{w128}
use Rattle.clr_walk.specs.Tight.{reaches}
use Rattle.clr_walk.specs.Walks.{IsWalked, entered}
use Rattle.clr_walk.proofs.WalkLemmas.{entered_shut, entered_whole, full, leaves_dead}
use Rattle.clr_walk.proofs.walk.enter.Goals as goal
use Rattle.clr_walk.proofs.walk.enter.Goals.{else-after-len-via-then-after-len+else-reaches, else-after-len-via-else-after-len}

no_more : (weeks done now : ℕ) → done < weeks → now ≡ weeks → now ≤ done + 1 → weeks - (done + 1) ≡ 0
no_more weeks done now p e q = omega arith

pub returns-then-walk-clause-taken : goal.returns-then-walk-clause-taken
returns-then-walk-clause-taken g c = λ behind none seeds seen nodes walked.
    let terms = g.P.Problem.terms c.args.problem.now in
    full terms seeds seen (entered terms c.args.seed (take c.args.done c.args.walk.now.path.items ++ c.args.rung ∷ []) behind) nodes c.args.walk.now.left c.args.walk.now.more c.args.walk.now.best.items c.args.walk.now.low walked c.if-walk.true

pub returns-in_err-next-clause-taken : goal.returns-in_err-next-clause-taken
returns-in_err-next-clause-taken g c =
    let terms = g.P.Problem.terms c.args.problem.now in
    let prefix : List ℕ = take c.args.done c.args.walk.now.path.items ++ c.args.rung ∷ [] in
    let dead : terms.live prefix ≡ false = ap (λ xs. terms.live (take c.args.done xs ++ c.args.rung ∷ [])) (sym c.deref.ensures.value) ∙ c.in_err-next.ensures in
    rw c.from_residual.ensures (leaves_dead terms c.args.seed prefix (length c.args.walk.now.path.items - (c.args.done + 1)) c.args.walk.now dead)

pub visit-requires-clause-live : goal.visit-requires-clause-live
visit-requires-clause-live g c =
    let terms = g.P.Problem.terms c.args.problem.now in
    let live : IsTrue (terms.live (take c.args.done c.args.walk.now.path.items ++ c.args.rung ∷ [])) = ap (λ xs. terms.live (take c.args.done xs ++ c.args.rung ∷ [])) (sym c.deref.ensures.value) ∙ c.in_ok-next.ensures.0 in
    subst (λ p. IsTrue (terms.live p)) (sym (take_more_set c.args.walk.now.path.items c.args.done c.args.rung c.requires.done)) live

pub reaches-requires-clause-state : goal.reaches-requires-clause-state
reaches-requires-clause-state g c =
    let same = take_more_set c.args.walk.now.path.items c.args.done c.args.rung c.requires.done in
    let at : take (c.args.done + 1) c.deref-then-after-len.result.now ≡ take c.args.done c.args.walk.now.path.items ++ c.args.rung ∷ [] = ap (take (c.args.done + 1)) (c.deref-then-after-len.ensures.value ∙ c.visit.ensures.path) ∙ same in
    subst (λ p. g.P.Problem.stands c.args.problem.now c.in_ok-next.next p) (ap (λ xs. take c.args.done xs ++ c.args.rung ∷ []) c.deref.ensures.value ∙ sym at) c.in_ok-next.ensures.1

pub reaches-requires-clause-live : goal.reaches-requires-clause-live
reaches-requires-clause-live g c =
    let terms = g.P.Problem.terms c.args.problem.now in
    let same = take_more_set c.args.walk.now.path.items c.args.done c.args.rung c.requires.done in
    let at : take (c.args.done + 1) c.deref-then-after-len.result.now ≡ take c.args.done c.args.walk.now.path.items ++ c.args.rung ∷ [] = ap (take (c.args.done + 1)) (c.deref-then-after-len.ensures.value ∙ c.visit.ensures.path) ∙ same in
    subst (λ p. IsTrue (terms.live p)) (ap (λ xs. take c.args.done xs ++ c.args.rung ∷ []) c.deref.ensures.value ∙ sym at) c.in_ok-next.ensures.0

pub returns-then-reaches-clause-taken : goal.returns-then-reaches-clause-taken
returns-then-reaches-clause-taken g c =
    let terms = g.P.Problem.terms c.args.problem.now in
    let prefix : List ℕ = take c.args.done c.args.walk.now.path.items ++ c.args.rung ∷ [] in
    let same = take_more_set c.args.walk.now.path.items c.args.done c.args.rung c.requires.done in
    let now : take c.args.done c.deref.result.now ++ c.args.rung ∷ [] ≡ prefix = ap (λ xs. take c.args.done xs ++ c.args.rung ∷ []) c.deref.ensures.value in
    let read : to_z w128 (of_z w128 c.args.seed) ≡ c.args.seed = to_z-of_z w128 c.args.seed c.ranges.seed in
    let at : take (c.args.done + 1) c.deref-then-after-len.result.now ≡ prefix = ap (take (c.args.done + 1)) (c.deref-then-after-len.ensures.value ∙ c.visit.ensures.path) ∙ same in
    let long : c.len.result ≡ length c.visit.new.walk.path.items = search rules in (
      record {
        prefix_is = ap (take (c.args.done + 1)) c.visit.ensures.path ∙ same;
        live = subst (λ p. IsTrue (terms.live p)) now c.in_ok-next.ensures.0;
        reached = ap (reaches terms c.args.seed) (sym at) ∙ (ap (λ s. reaches terms s (take (c.args.done + 1) c.deref-then-after-len.result.now)) (sym read) ∙ (sym c.reaches.ensures ∙ c.if-reaches.true));
        more = subst (λ n. c.args.done + 1 < n) long c.if-after-len.true;
      },
      subst (λ p. g.P.Problem.stands c.args.problem.now c.in_ok-next.next p) now c.in_ok-next.ensures.1,
      λ seeds seen nodes walked. subst (λ p. IsWalked terms seeds nodes (seen ++ p ∷ []) c.visit.new.walk.left c.visit.new.walk.more c.visit.new.walk.best.items c.visit.new.walk.low) same (c.visit.ensures.walked seeds seen nodes walked),
    )

pub returns-else-after-len-clause-taken : goal.returns-else-after-len-clause-taken
returns-else-after-len-clause-taken g c = λ behind none seeds seen nodes walked.
    let terms = g.P.Problem.terms c.args.problem.now in
    let prefix : List ℕ = take c.args.done c.args.walk.now.path.items ++ c.args.rung ∷ [] in
    let live : IsTrue (terms.live prefix) = ap (λ xs. terms.live (take c.args.done xs ++ c.args.rung ∷ [])) (sym c.deref.ensures.value) ∙ c.in_ok-next.ensures.0 in
    let same = take_more_set c.args.walk.now.path.items c.args.done c.args.rung c.requires.done in
    let one : IsWalked terms seeds nodes (seen ++ prefix ∷ []) c.visit.new.walk.left c.visit.new.walk.more c.visit.new.walk.best.items c.visit.new.walk.low =
    subst (λ p. IsWalked terms seeds nodes (seen ++ p ∷ []) c.visit.new.walk.left c.visit.new.walk.more c.visit.new.walk.best.items c.visit.new.walk.low) same (c.visit.ensures.walked seeds seen nodes walked) in
    elim c.else-after-len.branch [
      | else-after-len-via-then-after-len+else-reaches w ↦
          let read : to_z w128 (of_z w128 c.args.seed) ≡ c.args.seed = to_z-of_z w128 c.args.seed c.ranges.seed in
          let at : take (c.args.done + 1) w.deref-then-after-len.result.now ≡ prefix = ap (take (c.args.done + 1)) (w.deref-then-after-len.ensures.value ∙ c.visit.ensures.path) ∙ same in
          let shut : reaches terms c.args.seed prefix ≡ false = ap (reaches terms c.args.seed) (sym at) ∙ (ap (λ s. reaches terms s (take (c.args.done + 1) w.deref-then-after-len.result.now)) (sym read) ∙ (sym w.reaches.ensures ∙ w.if-reaches.false)) in
          subst (λ xs. IsWalked terms seeds nodes (seen ++ xs) c.visit.new.walk.left c.visit.new.walk.more c.visit.new.walk.best.items c.visit.new.walk.low) (sym (entered_shut terms c.args.seed prefix behind live shut)) one
      | else-after-len-via-else-after-len w ↦
          let long : c.len.result ≡ length c.visit.new.walk.path.items = search rules in
          let end : length c.args.walk.now.path.items - (c.args.done + 1) ≡ 0 =
          no_more (length c.args.walk.now.path.items) c.args.done c.len.result c.requires.done (long ∙ ap length c.visit.ensures.path ∙ length-set c.args.walk.now.path.items c.args.done c.args.rung) w.if-after-len.false in
          subst (λ xs. IsWalked terms seeds nodes (seen ++ xs) c.visit.new.walk.left c.visit.new.walk.more c.visit.new.walk.best.items c.visit.new.walk.low) (sym (entered_whole terms c.args.seed prefix behind live (none end))) one
    ]
