use Rattle.std.proofs.Common.{◌≡◌, subst, refl, append-nil, [], List, ℕ, MatchResult, Some}
use Rattle.clr_cert.specs.Accepts.{first_no}
use Rattle.clr_check.specs.Standing.{IsClaimOf, ended_text}
use Rattle.clr_check.proofs.checker.Checker.close.Goals as goal

pub returns-clause-answer : goal.returns-clause-answer
returns-clause-answer c season lines h = subst (λ (bytes : List ℕ). MatchResult c.finish.result (IsClaimOf season bytes) (λ n. first_no season bytes ≡ Some n)) (append-nil (ended_text lines)) (c.finish.ensures.answer season lines [] h refl refl)
