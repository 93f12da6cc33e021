use Rattle.std.proofs.Common.{◌≡◌, ◌∙◌, sym, ap, refl, subst, arith, false}
use Rattle.std.proofs.lemmas.Grind.{common_steps}
use Rattle.clr_cert.specs.declared.no.NoKind.TheVariants.{Extra}
use Rattle.clr_season.specs.Season.{IsSeason}
use Rattle.clr_cert.proofs.Walking.{walk_next}
use Rattle.clr_check.specs.Standing.{is_end, plain_fault}
use Rattle.clr_check.proofs.Feeding.{answer_again, answer_refused, extra_line, next_stands, stands_again, stands_refused, taken_answer, taken_passes, taken_refused, taken_stands}
use Rattle.clr_check.proofs.Few.{few_rows}
use Rattle.clr_check.proofs.checker.Checker.feed.Goals as goal

pub returns-in-Some-clause-stands : goal.returns-in-Some-clause-stands
returns-in-Some-clause-stands c = rw (← c.self.view_is) (λ season lines h. stands_again season lines c.args.line.now (subst IsSeason h.same c.self.invariant.facts) c.requires _ c.in-Some.no c.in-Some.is h)

pub returns-in-Some-clause-answer : goal.returns-in-Some-clause-answer
returns-in-Some-clause-answer c = rw (← c.self.view_is) (λ season lines h. answer_again season lines c.args.line.now (subst IsSeason h.same c.self.invariant.facts) c.requires _ c.in-Some.no c.in-Some.is h)

pub returns-then-is_done-clause-stands : goal.returns-then-is_done-clause-stands
returns-then-is_done-clause-stands c =
    rw (c.refuse.ensures.refused, c.plain.ensures, ← c.self.view_is) (λ season lines h.
    let ok = subst IsSeason h.same c.self.invariant.facts in
    stands_refused season lines c.args.line.now ok c.requires _ (plain_fault Extra) c.in_default.is h (extra_line season lines c.args.line.now ok c.requires c.self.inside.place (h.keeps (sym h.no ∙ c.in_default.is)).next (ap (λ k. is_end k.place) c.self.view_is ∙ (sym c.is_done.ensures ∙ c.if-is_done.true))))

pub returns-then-is_done-clause-answer : goal.returns-then-is_done-clause-answer
returns-then-is_done-clause-answer c =
    rw (c.refuse.ensures.answer, c.plain.ensures, ← c.self.view_is) (λ season lines h.
    let ok = subst IsSeason h.same c.self.invariant.facts in
    answer_refused season lines c.args.line.now ok c.requires _ (plain_fault Extra) c.in_default.is h (extra_line season lines c.args.line.now ok c.requires c.self.inside.place (h.keeps (sym h.no ∙ c.in_default.is)).next (ap (λ k. is_end k.place) c.self.view_is ∙ (sym c.is_done.ensures ∙ c.if-is_done.true))))

pub take_line-fault-requires-clause-place : goal.take_line-fault-requires-clause-place
take_line-fault-requires-clause-place c = (walk_next c.self.inside.season.now c.self.inside.place c.self.inside.row c.self.invariant.facts c.self.invariant.next).within

pub returns-in-Some-fault-clause-stands : goal.returns-in-Some-fault-clause-stands
returns-in-Some-fault-clause-stands c =
    let goes : is_end c.self.inside.place ≡ false = ap (λ k. is_end k.place) c.self.view_is ∙ (sym c.is_done.ensures ∙ c.if-is_done.false) in
    rw (c.refuse-in-Some-fault.ensures.refused, ← c.self.view_is) (λ season lines h. taken_refused season lines c.args.line.now c.requires _ c.self.invariant.facts c.in_default.is goes h c.take_line-fault.new.tables c.in-Some-fault.fault c.in-Some-fault.ensures.answer)

pub returns-in-Some-fault-clause-answer : goal.returns-in-Some-fault-clause-answer
returns-in-Some-fault-clause-answer c =
    let goes : is_end c.self.inside.place ≡ false = ap (λ k. is_end k.place) c.self.view_is ∙ (sym c.is_done.ensures ∙ c.if-is_done.false) in
    rw (c.refuse-in-Some-fault.ensures.answer, ← c.self.view_is) (λ season lines h. taken_answer season lines c.args.line.now c.requires _ c.self.invariant.facts c.in_default.is goes h c.in-Some-fault.fault c.in-Some-fault.ensures.answer)

pub overflow_add-self : goal.overflow_add-self
overflow_add-self c = record { fits = few_rows c.self.inside.season.now c.self.inside.row c.self.inside.place c.self.invariant.facts c.self.invariant.next }

pub next-self-inside-requires-clause-reached : goal.next-self-inside-requires-clause-reached
next-self-inside-requires-clause-reached c = (c.self.inside.row, c.self.invariant.next)

pub invariant_of-self-in-None : goal.invariant_of-self-in-None
invariant_of-self-in-None c = record {
  facts = c.self.invariant.facts;
  lives = c.self.invariant.lives;
  room = grind (arith, common_steps, c.self.inside.numbers.ok.0, c.self.invariant.room, c.take_line-fault.ensures.room);
  next = next_stands c.self.inside.season.now c.self.inside.row c.self.inside.place c.next-self-inside.result c.self.invariant.next
      (ap (λ k. is_end k.place) c.self.view_is ∙ (sym c.is_done.ensures ∙ c.if-is_done.false)) (c.next-self-inside.ensures.after c.self.inside.row c.self.invariant.next);
  shape = c.take_line-fault.ensures.tables;
}

pub returns-in-None-clause-stands : goal.returns-in-None-clause-stands
returns-in-None-clause-stands c =
    let goes : is_end c.self.inside.place ≡ false = ap (λ k. is_end k.place) c.self.view_is ∙ (sym c.is_done.ensures ∙ c.if-is_done.false) in
    rw (← c.self.view_is) (λ season lines h. taken_stands season lines c.args.line.now c.requires _ c.self.invariant.facts c.in_default.is goes h c.next-self-inside.result c.take_line-fault.new.tables c.in-None.ensures.answer (λ ls row of before. c.in-None.ensures.keeps ls row of before refl) (c.next-self-inside.ensures.after c.self.inside.row c.self.invariant.next))

pub returns-in-None-clause-answer : goal.returns-in-None-clause-answer
returns-in-None-clause-answer c =
    let goes : is_end c.self.inside.place ≡ false = ap (λ k. is_end k.place) c.self.view_is ∙ (sym c.is_done.ensures ∙ c.if-is_done.false) in
    rw (← c.self.view_is) (λ season lines h. taken_passes season lines c.args.line.now c.requires _ c.self.invariant.facts c.in_default.is goes h c.in-None.ensures.answer)
