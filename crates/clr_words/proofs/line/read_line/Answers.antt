use Rattle.std.proofs.Common.{◌≡◌, ◌∙◌, ap, sym, refl, true, [], inl, inr, map, subst}
use Rattle.clap.specs.Words.{App, HasKind, IsAmong, Kinds, app_of, fault_of, is_simple, is_simple_and_free, kind_of, matches_of}
use Rattle.clap.specs.declared.error.Error.{Error}
use Rattle.clap.specs.declared.error.kind.ErrorKind.TheVariants.{OutOfMemory}
use Rattle.clap.proofs.OnLiterals.{clap_on_literals}
use Rattle.clr_words.specs.Line.{clearance}
use Rattle.clr_words.proofs.Rules.{numbers_hold}
use Rattle.clr_words.proofs.line.read_line.Goals as goal
use Rattle.clr_words.proofs.line.read_line.Goals.{in-OutOfMemory, in_default-kind}

free : is_simple_and_free clearance ≡ true
unfolding clearance clap_on_literals
free = refl

simple : is_simple clearance ≡ true
unfolding clearance clap_on_literals
simple = refl

-- an error that no fault explains is of memory
of_memory : (kinds : Kinds) (e : Error) → HasKind kinds e → kinds ≡ [] → kind_of e ≡ OutOfMemory
of_memory kinds e (inl memory) none = memory
of_memory kinds e (inr among) none = absurd (subst (IsAmong (kind_of e)) none among)

pub returns-in-Ok-try_get_matches_from-clause-taken : goal.returns-in-Ok-try_get_matches_from-clause-taken
returns-in-Ok-try_get_matches_from-clause-taken c =
    let app : app_of c.in-Ok.command ≡ clearance = c.in-Ok.ensures in
    let words = map (λ s. s.now) c.args.line.now in
    let none : fault_of (app_of c.in-Ok.command) words ≡ [] = c.in-Ok-try_get_matches_from.ensures.kinds (ap is_simple_and_free app ∙ free) in
    sym (ap (λ (a : App). fault_of a words) app) ∙ none

pub returns-in-Ok-try_get_matches_from-clause-matches : goal.returns-in-Ok-try_get_matches_from-clause-matches
returns-in-Ok-try_get_matches_from-clause-matches c =
    let app : app_of c.in-Ok.command ≡ clearance = c.in-Ok.ensures in
    let words = map (λ s. s.now) c.args.line.now in
    (c.in-Ok-try_get_matches_from.ensures.matches (ap is_simple app ∙ simple)).0 ∙ ap (λ (a : App). matches_of a words) app

pub returns-in-Ok-try_get_matches_from-clause-numbers : goal.returns-in-Ok-try_get_matches_from-clause-numbers
returns-in-Ok-try_get_matches_from-clause-numbers c =
    numbers_hold c.in-Ok.command c.in-Ok-try_get_matches_from.matches c.in-Ok.ensures c.in-Ok-try_get_matches_from.ensures.parsed

pub returns-after-kind-clause-faulty : goal.returns-after-kind-clause-faulty
returns-after-kind-clause-faulty c = λ faulty none.
    let app : app_of c.in-Ok.command ≡ clearance = c.in-Ok.ensures in
    let words = map (λ s. s.now) c.args.line.now in
    let kinds : HasKind (fault_of (app_of c.in-Ok.command) words) c.in-Err.error = c.in-Err.ensures.kinds (ap is_simple_and_free app ∙ free) in
    let memory = of_memory _ c.in-Err.error kinds (ap (λ (a : App). fault_of a words) app ∙ none) in
    elim c.match-kind.branch [
      | in-OutOfMemory w ↦ cc (faulty, w.result-is)
      | in_default-kind w ↦ w.in_default-kind.not-OutOfMemory (c.kind.ensures ∙ memory)
    ]
