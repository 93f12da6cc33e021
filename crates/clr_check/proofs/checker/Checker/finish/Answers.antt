use Rattle.std.proofs.Common.{◌∙◌, sym, ap, subst}
use Rattle.std.specs.Prelude.{option_map}
use Rattle.clr_season.specs.Season.{IsSeason}
use Rattle.clr_cert.specs.Accepts.{plain_no}
use Rattle.clr_rules.specs.Rules.{IsPath}
use Rattle.clr_check.specs.Standing.{is_end, kept_claims, kind_at_end}
use Rattle.clr_check.proofs.Closing.{ended_claims, ended_is, ended_refused}
use Rattle.clr_check.proofs.Few.{few_rows}
use Rattle.clr_check.proofs.checker.Checker.finish.Goals as goal

pub returns-in-Some-clause-answer : goal.returns-in-Some-clause-answer
returns-in-Some-clause-answer c = rw (← c.self.view_is) (λ season lines bytes h line is. ended_refused season lines bytes _ c.args.rest (subst IsSeason h.same c.self.invariant.facts) h line is c.in-Some.no c.in-Some.is)

pub overflow_add-result : goal.overflow_add-result
overflow_add-result c = record { fits = few_rows c.self.inside.season.now c.self.inside.row c.self.inside.place c.self.invariant.facts c.self.invariant.next }

pub returns-in-Some-end_kind-clause-answer : goal.returns-in-Some-end_kind-clause-answer
returns-in-Some-end_kind-clause-answer c = rw (← c.self.view_is) (λ season lines bytes h line is.
    ended_is season lines bytes _ c.args.rest (subst IsSeason h.same c.self.invariant.facts) h line is c.in_default.is
    ∙ ap (option_map (plain_no c.self.inside.row)) (ap (λ k. kind_at_end (is_end k.place) c.args.rest) c.self.view_is ∙ (sym (c.end_kind.ensures ∙ ap (λ b. kind_at_end b c.args.rest) c.is_done.ensures) ∙ c.in-Some-end_kind.is)))

pub returns-in-None-clause-answer : goal.returns-in-None-clause-answer
returns-in-None-clause-answer c = rw (← c.self.view_is) (λ season lines bytes h line is.
    ended_claims season lines bytes _ c.args.rest (subst IsSeason h.same c.self.invariant.facts) h line is (subst (λ s. IsPath s.rules c.self.inside.tables.path) h.same c.self.invariant.shape.path) c.in_default.is
    (ap (λ k. kind_at_end (is_end k.place) c.args.rest) c.self.view_is ∙ (sym (c.end_kind.ensures ∙ ap (λ b. kind_at_end b c.args.rest) c.is_done.ensures) ∙ c.in-None.is))
    c.into_claims.result (c.into_claims.ensures ∙ ap kept_claims (sym c.self.view_is)))
