use Rattle.std.proofs.Common.{◌≡◌, ℕ, ◌+◌, ◌++◌, ◌<◌, ◌≤◌, ◌↔◌, length, List, [], ◌∷◌, sym, ◌∙◌, subst, arith, rules}
use Rattle.std.specs.Prelude.{Ok, Result, IfSome}
use Rattle.std.proofs.lemmas.Grind.{common_steps}
use Rattle.clr_io.specs.declared.fault.Failed.{Failed}
use Rattle.clr_io.specs.declared.lines.Line.{Line}
use Rattle.clr_io.specs.declared.lines.Line.TheVariants.{Whole, Long, Rest, Over}
use Rattle.clr_io.specs.Lines.{Answers, GivesShort}
use Rattle.clr_check.specs.FileChecks.{IsFedWhole, rest_by}
use Rattle.clr_check.specs.Standing.{Stands}
use Rattle.clr_check.proofs.FileLemmas.{counted_all, counted_on, fed_long, fed_rest, fed_whole}
use Rattle.clr_check.proofs.file.feed_all.Goals as goal

-- no more than the limit was taken, where the answer isn't that more was
within_limit : (line : Line) (max taken : ℕ) → (◌≡◌ {A = Result Line Failed} (Ok line) (Ok Over) ↔ (max < taken)) → (line ≡ Over → ⊥) → taken ≤ max
within_limit line max taken over other =
    let never : max < taken → ⊥ = λ more. let e : ◌≡◌ {A = Result Line Failed} (Ok line) (Ok Over) = over.1 more in let same : line ≡ Over = cc e in other same in
    omega arith

pub loop-checker-preserved-in-Ok-Whole : goal.loop-checker-preserved-in-Ok-Whole
loop-checker-preserved-in-Ok-Whole g c =
    let old = c.loop-checker.lines in
    let new = c.next.new.self in
    let inv = c.loop-checker.invariant in
    let rest = g.H.Shelf.rest c.args.shelf.now in
    let rest' = g.H.Shelf.rest c.loop-checker.shelf in
    let rest'' = g.H.Shelf.rest c.next.new.shelf in
    let answers : Answers old rest' Whole new rest'' = subst (λ (line : Line). Answers old rest' line new rest'') c.in-Ok-Whole.field-0-is c.in-Ok-Whole.ensures.answers in
    let within : new.taken ≤ new.max = within_limit c.in-Ok-Whole.field-0 new.max new.taken c.in-Ok-Whole.ensures.over (λ is. let e : Whole ≡ Over = sym c.in-Ok-Whole.field-0-is ∙ is in cc e) in
    let limit : new.max ≡ 268435456 = c.in-Ok-Whole.ensures.limits.1 ∙ inv.max in
    record {
      taken = search (rules, common_steps);
      goes_on = search (rules, common_steps);
      longest = search (rules, common_steps);
      max = search (rules, common_steps);
      few = subst (λ (n : ℕ). new.taken ≤ n) limit within;
      fed = λ season fed stands. fed_whole season fed c.args.lines.now.held rest rest' rest'' c.loop-checker.checker c.feed.new.self old new (inv.fed season fed stands) answers within
          (λ lines before. subst (λ (l : List ℕ). Stands season (lines ++ l ∷ []) c.feed.new.self) c.bytes.ensures (c.feed.ensures.stands season lines before));
      counts = counted_on c.args.lines.now.taken rest rest' rest'' old new inv.counts c.in-Ok-Whole.ensures.counts;
      files = search (rules, common_steps);
      later = search (rules, common_steps);
    }

pub loop-checker-preserved : goal.loop-checker-preserved
loop-checker-preserved g c =
    let old = c.loop-checker.lines in
    let new = c.next.new.self in
    let inv = c.loop-checker.invariant in
    let rest = g.H.Shelf.rest c.args.shelf.now in
    let rest' = g.H.Shelf.rest c.loop-checker.shelf in
    let rest'' = g.H.Shelf.rest c.next.new.shelf in
    let answers : Answers old rest' Long new rest'' = subst (λ (line : Line). Answers old rest' line new rest'') c.in-Ok-Long.field-0-is c.in-Ok-Long.ensures.answers in
    let within : new.taken ≤ new.max = within_limit c.in-Ok-Long.field-0 new.max new.taken c.in-Ok-Long.ensures.over (λ is. let e : Long ≡ Over = sym c.in-Ok-Long.field-0-is ∙ is in cc e) in
    let limit : new.max ≡ 268435456 = c.in-Ok-Long.ensures.limits.1 ∙ inv.max in
    record {
      taken = search (rules, common_steps);
      goes_on = search (rules, common_steps);
      longest = search (rules, common_steps);
      max = search (rules, common_steps);
      few = subst (λ (n : ℕ). new.taken ≤ n) limit within;
      fed = λ season fed stands. fed_long season fed c.args.lines.now.held rest rest' rest'' c.loop-checker.checker c.feed_long.new.self old new (inv.fed season fed stands) answers within inv.longest (c.feed_long.ensures.stands season);
      counts = counted_on c.args.lines.now.taken rest rest' rest'' old new inv.counts c.in-Ok-Long.ensures.counts;
      files = search (rules, common_steps);
      later = search (rules, common_steps);
    }

pub returns-in-Ok-Rest-clause-fed : goal.returns-in-Ok-Rest-clause-fed
returns-in-Ok-Rest-clause-fed g c season fed stands =
    let old = c.loop-checker.lines in
    let new = c.next.new.self in
    let inv = c.loop-checker.invariant in
    let long = c.in-Ok-Rest.long in
    let rest = g.H.Shelf.rest c.args.shelf.now in
    let rest' = g.H.Shelf.rest c.loop-checker.shelf in
    let rest'' = g.H.Shelf.rest c.next.new.shelf in
    let answers : Answers old rest' (Rest long) new rest'' = subst (λ (line : Line). Answers old rest' line new rest'') c.in-Ok-Rest.field-0-is c.in-Ok-Rest.ensures.answers in
    let within : new.taken ≤ new.max = within_limit c.in-Ok-Rest.field-0 new.max new.taken c.in-Ok-Rest.ensures.over (λ is. let e : Rest long ≡ Over = sym c.in-Ok-Rest.field-0-is ∙ is in cc e) in
    let short : GivesShort (Rest long) new = subst (λ (line : Line). GivesShort line new) c.in-Ok-Rest.field-0-is c.in-Ok-Rest.ensures.short in
    let whole : IsFedWhole season fed c.args.lines.now.held rest c.loop-checker.checker (rest_by new.given long) =
    fed_rest season fed c.args.lines.now.held rest rest' rest'' c.loop-checker.checker old new long (inv.fed season fed stands) answers within inv.longest (c.in-Ok-Rest.ensures.limits.0 ∙ inv.longest) short in
    let given : c.rest_of.result ≡ rest_by new.given long = subst (λ (l : List ℕ). c.rest_of.result ≡ rest_by l long) c.bytes-in-Ok-Rest.ensures c.rest_of.ensures in
    rw given whole

pub returns-in-Ok-Rest-clause-read : goal.returns-in-Ok-Rest-clause-read
returns-in-Ok-Rest-clause-read g c =
    let old = c.loop-checker.lines in
    let new = c.next.new.self in
    let inv = c.loop-checker.invariant in
    let long = c.in-Ok-Rest.long in
    let rest = g.H.Shelf.rest c.args.shelf.now in
    let rest' = g.H.Shelf.rest c.loop-checker.shelf in
    let rest'' = g.H.Shelf.rest c.next.new.shelf in
    let answers : Answers old rest' (Rest long) new rest'' = subst (λ (line : Line). Answers old rest' line new rest'') c.in-Ok-Rest.field-0-is c.in-Ok-Rest.ensures.answers in
    let within : new.taken ≤ new.max = within_limit c.in-Ok-Rest.field-0 new.max new.taken c.in-Ok-Rest.ensures.over (λ is. let e : Rest long ≡ Over = sym c.in-Ok-Rest.field-0-is ∙ is in cc e) in
    subst (λ (n : ℕ). IfSome rest (λ behind. n ≡ c.args.lines.now.taken + length behind)) (sym c.in-Ok-Rest.ensures.taken)
    (counted_all c.args.lines.now.taken rest rest' rest'' old new long inv.counts c.in-Ok-Rest.ensures.counts answers within)
