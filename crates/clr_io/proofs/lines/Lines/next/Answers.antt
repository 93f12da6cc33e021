use Rattle.std.proofs.Common.{◌≡◌, ◌∙◌, ap, subst, take, List, ℕ, false}
use Rattle.clr_io.specs.Lines.{IsFeedAt, Reading}
use Rattle.clr_io.proofs.LineReading.{start}
use Rattle.clr_io.proofs.LineAnswers.{line_given}
use Rattle.clr_io.proofs.lines.Lines.next.Goals as goal

pub returns-in-Some-clause-answers : goal.returns-in-Some-clause-answers
returns-in-Some-clause-answers g c within =
    let old = c.args.self.now in
    let rest = g.H.Shelf.rest c.args.shelf.now in
    let held : c.held.result.now ≡ old.held = c.held.ensures ∙ ap (λ (v : Reading). v.held) c.self.view_is in
    let at : IsFeedAt old.held 0 c.in-Some.count = subst (λ (l : List ℕ). IsFeedAt l 0 c.in-Some.count) held c.in-Some.ensures in
    let on = start old.longest old.held (take c.in-Some.count old.held) rest old.taken at.none in
    line_given old.longest old.held rest old.taken old.held rest old.taken false c.in-Some.count c.give.result c.give.new.self.given c.give.new.self.held on at.within at.here c.give.ensures.line c.give.ensures.given c.give.ensures.held
