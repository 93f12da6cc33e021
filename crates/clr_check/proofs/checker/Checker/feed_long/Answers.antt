use Rattle.std.proofs.Common.{◌∙◌, sym, ap, subst}
use Rattle.clr_cert.specs.declared.no.NoKind.TheVariants.{Extra, Form}
use Rattle.clr_season.specs.Season.{IsSeason}
use Rattle.clr_check.specs.Standing.{is_end, plain_fault}
use Rattle.clr_check.proofs.Feeding.{answer_again, answer_refused, extra_line, long_line, stands_again, stands_refused}
use Rattle.clr_check.proofs.checker.Checker.feed_long.Goals as goal

pub returns-in-Some-clause-stands : goal.returns-in-Some-clause-stands
returns-in-Some-clause-stands c = rw (← c.self.view_is) (λ season lines line plain long h. stands_again season lines line (subst IsSeason h.same c.self.invariant.facts) plain _ c.in-Some.no c.in-Some.is h)

pub returns-in-Some-clause-answer : goal.returns-in-Some-clause-answer
returns-in-Some-clause-answer c = rw (← c.self.view_is) (λ season lines line plain long h. answer_again season lines line (subst IsSeason h.same c.self.invariant.facts) plain _ c.in-Some.no c.in-Some.is h)

pub returns-then-is_done-clause-stands : goal.returns-then-is_done-clause-stands
returns-then-is_done-clause-stands c =
    rw (c.refuse.ensures.refused, c.plain.ensures, ← c.self.view_is) (λ season lines line plain long h.
    let ok = subst IsSeason h.same c.self.invariant.facts in
    stands_refused season lines line ok plain _ (plain_fault Extra) c.in_default.is h (extra_line season lines line ok plain c.self.inside.place (h.keeps (sym h.no ∙ c.in_default.is)).next (ap (λ k. is_end k.place) c.self.view_is ∙ (sym c.is_done.ensures ∙ c.if-is_done.true))))

pub returns-then-is_done-clause-answer : goal.returns-then-is_done-clause-answer
returns-then-is_done-clause-answer c =
    rw (c.refuse.ensures.answer, c.plain.ensures, ← c.self.view_is) (λ season lines line plain long h.
    let ok = subst IsSeason h.same c.self.invariant.facts in
    answer_refused season lines line ok plain _ (plain_fault Extra) c.in_default.is h (extra_line season lines line ok plain c.self.inside.place (h.keeps (sym h.no ∙ c.in_default.is)).next (ap (λ k. is_end k.place) c.self.view_is ∙ (sym c.is_done.ensures ∙ c.if-is_done.true))))

pub returns-else-is_done-clause-stands : goal.returns-else-is_done-clause-stands
returns-else-is_done-clause-stands c =
    rw (c.refuse-else-is_done.ensures.refused, c.plain-else-is_done.ensures, ← c.self.view_is) (λ season lines line plain long h.
    let ok = subst IsSeason h.same c.self.invariant.facts in
    stands_refused season lines line ok plain _ (plain_fault Form) c.in_default.is h (long_line season lines line ok plain c.self.inside.place (h.keeps (sym h.no ∙ c.in_default.is)).next (ap (λ k. is_end k.place) c.self.view_is ∙ (sym c.is_done.ensures ∙ c.if-is_done.false)) long))

pub returns-else-is_done-clause-answer : goal.returns-else-is_done-clause-answer
returns-else-is_done-clause-answer c =
    rw (c.refuse-else-is_done.ensures.answer, c.plain-else-is_done.ensures, ← c.self.view_is) (λ season lines line plain long h.
    let ok = subst IsSeason h.same c.self.invariant.facts in
    answer_refused season lines line ok plain _ (plain_fault Form) c.in_default.is h (long_line season lines line ok plain c.self.inside.place (h.keeps (sym h.no ∙ c.in_default.is)).next (ap (λ k. is_end k.place) c.self.view_is ∙ (sym c.is_done.ensures ∙ c.if-is_done.false)) long))
