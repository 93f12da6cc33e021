use Rattle.std.proofs.Common.{subst, sym, refl, [], Ok, Err}
use Rattle.clr_rules.specs.Rules.{HasSummary}
use Rattle.clr_policy.specs.Written.{branches, written}
use Rattle.clr_policy.specs.Breaches.{Finds}
use Rattle.clr_policy.proofs.Walks.{has_none, behind-none}
use Rattle.clr_policy.proofs.branches.first_broken_branch.Goals as goal

pub returns-in-Ok : goal.returns-in-Ok
returns-in-Ok c =
    let found = c.in-Ok.ensures [] 0 (subst (λ r. HasSummary r 0 c.start.result []) c.rules.ensures.value (has_none c.rules.result.now c.start.result c.start.ensures)) refl in
    sym (subst (λ paths. Finds c.args.season.now.rules 0 paths (Ok c.in-Ok.field-0)) (behind-none (branches (written c.args.policy.now))) found).0

pub returns-in-Err : goal.returns-in-Err
returns-in-Err c =
    let found = c.in-Err.ensures [] 0 (subst (λ r. HasSummary r 0 c.start.result []) c.rules.ensures.value (has_none c.rules.result.now c.start.result c.start.ensures)) refl in
    sym (subst (λ paths. Finds c.args.season.now.rules 0 paths (Err c.in-Err.breach)) (behind-none (branches (written c.args.policy.now))) found)
