use Rattle.std.proofs.Common.{◌≡◌, ◌≤◌, ◌+◌, ◌++◌, ◌||◌, ◌∙◌, [], ap, sym, subst, arith, drop, length, nat_lt, rules, take, append-nil, refl, List, ℕ, false}
use Rattle.std.specs.Prelude.{if◌then◌else◌}
use Rattle.std.proofs.lemmas.Grind.{common_steps}
use Rattle.std.proofs.lemmas.List.{length-take, nil_from_length}
use Rattle.clr_io.specs.declared.lines.Line.TheVariants.{Whole, Long}
use Rattle.clr_io.specs.Lines.{IsFeedAt, Reading, has_feed}
use Rattle.clr_io.specs.ReadBuffer.{TakesPiece}
use Rattle.clr_io.proofs.LineReading.{ReadOn, looked_all, looked_front, piece_comes, room_is, room_made, start}
use Rattle.clr_io.proofs.LineAnswers.{line_given, line_short, rest_given}
use Rattle.clr_io.proofs.lines.Lines.read_on.Goals as goal

pub loop-count-init : goal.loop-count-init
loop-count-init g c =
    let lines = c.args.self.now in
    record {
      goes_on = search (rules, common_steps);
      longest = search (rules, common_steps);
      max = search (rules, common_steps);
      taken = search (rules, common_steps);
      on = start lines.longest lines.held lines.held (g.H.Shelf.rest c.args.shelf.now) lines.taken c.requires.no_feed;
      files = search (rules, common_steps);
      later = search (rules, common_steps);
    }

pub loop-count-preserved : goal.loop-count-preserved
loop-count-preserved g c =
    let old = c.args.self.now in
    let inv = c.loop-count.invariant in
    let now = c.loop-count.self in
    let roomy = c.make_room-long.new.self in
    let long = c.make_room-long.result in
    let read = c.read.new.self in
    let rest = g.H.Shelf.rest c.args.shelf.now in
    let rest' = g.H.Shelf.rest c.loop-count.shelf in
    let rest'' = g.H.Shelf.rest c.read.new.shelf in
    let is_long : long ≡ (c.loop-count.long || nat_lt old.longest (length now.held)) = c.make_room-long.ensures.long ∙ ap (λ (n : ℕ). c.loop-count.long || nat_lt n (length now.held)) inv.longest in
    let on : ReadOn old.longest old.held rest old.taken roomy.held roomy.held rest' now.taken long = room_made old.longest old.held rest old.taken now.held rest' now.taken c.loop-count.long long roomy.held inv.on is_long c.make_room-long.ensures.held in
    let sum : read.taken ≡ now.taken + c.in_ok-count.count = c.in_ok-count.ensures.taken.1 ∙ ap (λ (n : ℕ). n + c.in_ok-count.count) c.make_room-long.ensures.same.taken in
    let piece : TakesPiece roomy.held read.held rest' rest'' c.in_ok-count.count = c.in_ok-count.ensures.piece in
    let known : length c.held-known.result.now ≡ length roomy.held = ap length (c.held-known.ensures ∙ ap (λ (v : Reading). v.held) c.self.view_is) in
    let held : c.held.result.now ≡ read.held = c.held.ensures ∙ ap (λ (v : Reading). v.held) c.self-in-loop-count.view_is in
    let none : has_feed (drop (length roomy.held) read.held) ≡ false = subst (λ (n : ℕ). has_feed (drop n read.held) ≡ false) known (subst (λ (l : List ℕ). has_feed (drop (length c.held-known.result.now) l) ≡ false) held c.in_default.ensures) in
    let come = piece_comes old.longest old.held rest old.taken roomy.held rest' now.taken read.held (drop (length roomy.held) read.held) rest'' c.in_ok-count.count read.taken long on piece sum none in
    record {
      goes_on = search (rules, common_steps);
      longest = search (rules, common_steps);
      max = search (rules, common_steps);
      taken = search (rules, common_steps);
      on = subst (λ (l : List ℕ). ReadOn old.longest old.held rest old.taken read.held l rest'' read.taken long) (looked_all roomy.held read.held piece.piece piece.grows) come;
      files = search (rules, common_steps);
      later = search (rules, common_steps);
    }

pub returns-then-count-eq0-clause-answers : goal.returns-then-count-eq0-clause-answers
returns-then-count-eq0-clause-answers g c within =
    let old = c.args.self.now in
    let inv = c.loop-count.invariant in
    let now = c.loop-count.self in
    let roomy = c.make_room-long.new.self in
    let long = c.make_room-long.result in
    let read = c.read.new.self in
    let rest = g.H.Shelf.rest c.args.shelf.now in
    let rest' = g.H.Shelf.rest c.loop-count.shelf in
    let rest'' = g.H.Shelf.rest c.read.new.shelf in
    let is_long : long ≡ (c.loop-count.long || nat_lt old.longest (length now.held)) = c.make_room-long.ensures.long ∙ ap (λ (n : ℕ). c.loop-count.long || nat_lt n (length now.held)) inv.longest in
    let on : ReadOn old.longest old.held rest old.taken roomy.held roomy.held rest' now.taken long = room_made old.longest old.held rest old.taken now.held rest' now.taken c.loop-count.long long roomy.held inv.on is_long c.make_room-long.ensures.held in
    let sum : read.taken ≡ now.taken + c.in_ok-count.count = c.in_ok-count.ensures.taken.1 ∙ ap (λ (n : ℕ). n + c.in_ok-count.count) c.make_room-long.ensures.same.taken in
    let piece : TakesPiece roomy.held read.held rest' rest'' c.in_ok-count.count = c.in_ok-count.ensures.piece in
    let come = piece_comes old.longest old.held rest old.taken roomy.held rest' now.taken read.held [] rest'' c.in_ok-count.count read.taken long on piece sum refl in
    let nothing : piece.piece ≡ [] = nil_from_length piece.piece (piece.size ∙ c.if-count-eq0.true) in
    let same : read.held ≡ roomy.held = piece.grows ∙ ap (λ (l : List ℕ). roomy.held ++ l) nothing ∙ append-nil roomy.held in
    let ended : ReadOn old.longest old.held rest old.taken read.held read.held rest'' read.taken long = subst (λ (l : List ℕ). ReadOn old.longest old.held rest old.taken read.held l rest'' read.taken long) (append-nil roomy.held ∙ sym same) come in
    let fits : length read.held ≤ old.longest = subst (λ (l : List ℕ). length l ≤ old.longest) (sym same) (room_is old.longest now.held c.loop-count.long long roomy.held is_long c.make_room-long.ensures.held) in
    rest_given old.longest old.held rest old.taken read.held rest'' read.taken long c.give_rest.result c.give_rest.new.self.given c.give_rest.new.self.held ended (c.in_ok-count.ensures.end c.if-count-eq0.true) fits c.give_rest.ensures.line c.give_rest.ensures.given c.give_rest.ensures.held

pub returns-in-Some-clause-answers : goal.returns-in-Some-clause-answers
returns-in-Some-clause-answers g c within =
    let old = c.args.self.now in
    let inv = c.loop-count.invariant in
    let now = c.loop-count.self in
    let roomy = c.make_room-long.new.self in
    let long = c.make_room-long.result in
    let read = c.read.new.self in
    let rest = g.H.Shelf.rest c.args.shelf.now in
    let rest' = g.H.Shelf.rest c.loop-count.shelf in
    let rest'' = g.H.Shelf.rest c.read.new.shelf in
    let is_long : long ≡ (c.loop-count.long || nat_lt old.longest (length now.held)) = c.make_room-long.ensures.long ∙ ap (λ (n : ℕ). c.loop-count.long || nat_lt n (length now.held)) inv.longest in
    let on : ReadOn old.longest old.held rest old.taken roomy.held roomy.held rest' now.taken long = room_made old.longest old.held rest old.taken now.held rest' now.taken c.loop-count.long long roomy.held inv.on is_long c.make_room-long.ensures.held in
    let sum : read.taken ≡ now.taken + c.in_ok-count.count = c.in_ok-count.ensures.taken.1 ∙ ap (λ (n : ℕ). n + c.in_ok-count.count) c.make_room-long.ensures.same.taken in
    let piece : TakesPiece roomy.held read.held rest' rest'' c.in_ok-count.count = c.in_ok-count.ensures.piece in
    let known : length c.held-known.result.now ≡ length roomy.held = ap length (c.held-known.ensures ∙ ap (λ (v : Reading). v.held) c.self.view_is) in
    let held : c.held.result.now ≡ read.held = c.held.ensures ∙ ap (λ (v : Reading). v.held) c.self-in-loop-count.view_is in
    let at : IsFeedAt read.held (length roomy.held) c.in-Some.count = subst (λ (n : ℕ). IsFeedAt read.held n c.in-Some.count) known (subst (λ (l : List ℕ). IsFeedAt l (length c.held-known.result.now) c.in-Some.count) held c.in-Some.ensures) in
    let looked = take c.in-Some.count read.held in
    let come = piece_comes old.longest old.held rest old.taken roomy.held rest' now.taken read.held (drop (length roomy.held) looked) rest'' c.in_ok-count.count read.taken long on piece sum at.none in
    let found : ReadOn old.longest old.held rest old.taken read.held looked rest'' read.taken long = subst (λ (l : List ℕ). ReadOn old.longest old.held rest old.taken read.held l rest'' read.taken long) (looked_front roomy.held read.held piece.piece c.in-Some.count piece.grows at.behind) come in
    let same : read.longest ≡ old.longest = c.in_ok-count.ensures.limits.0 ∙ c.make_room-long.ensures.same.longest ∙ inv.longest in
    let line = subst (λ (n : ℕ). c.give.result ≡ (if long || nat_lt n c.in-Some.count then Long else Whole)) same c.give.ensures.line in
    let given = subst (λ (n : ℕ). c.give.new.self.given ≡ (if long || nat_lt n c.in-Some.count then [] else looked)) same c.give.ensures.given in
    line_given old.longest old.held rest old.taken read.held rest'' read.taken long c.in-Some.count c.give.result c.give.new.self.given c.give.new.self.held found at.within at.here line given c.give.ensures.held

pub returns-in-Some-clause-short : goal.returns-in-Some-clause-short
returns-in-Some-clause-short g c =
    let old = c.args.self.now in
    let inv = c.loop-count.invariant in
    let now = c.loop-count.self in
    let roomy = c.make_room-long.new.self in
    let long = c.make_room-long.result in
    let read = c.read.new.self in
    let rest = g.H.Shelf.rest c.args.shelf.now in
    let rest' = g.H.Shelf.rest c.loop-count.shelf in
    let rest'' = g.H.Shelf.rest c.read.new.shelf in
    let is_long : long ≡ (c.loop-count.long || nat_lt old.longest (length now.held)) = c.make_room-long.ensures.long ∙ ap (λ (n : ℕ). c.loop-count.long || nat_lt n (length now.held)) inv.longest in
    let on : ReadOn old.longest old.held rest old.taken roomy.held roomy.held rest' now.taken long = room_made old.longest old.held rest old.taken now.held rest' now.taken c.loop-count.long long roomy.held inv.on is_long c.make_room-long.ensures.held in
    let sum : read.taken ≡ now.taken + c.in_ok-count.count = c.in_ok-count.ensures.taken.1 ∙ ap (λ (n : ℕ). n + c.in_ok-count.count) c.make_room-long.ensures.same.taken in
    let piece : TakesPiece roomy.held read.held rest' rest'' c.in_ok-count.count = c.in_ok-count.ensures.piece in
    let known : length c.held-known.result.now ≡ length roomy.held = ap length (c.held-known.ensures ∙ ap (λ (v : Reading). v.held) c.self.view_is) in
    let held : c.held.result.now ≡ read.held = c.held.ensures ∙ ap (λ (v : Reading). v.held) c.self-in-loop-count.view_is in
    let at : IsFeedAt read.held (length roomy.held) c.in-Some.count = subst (λ (n : ℕ). IsFeedAt read.held n c.in-Some.count) known (subst (λ (l : List ℕ). IsFeedAt l (length c.held-known.result.now) c.in-Some.count) held c.in-Some.ensures) in
    let looked = take c.in-Some.count read.held in
    let come = piece_comes old.longest old.held rest old.taken roomy.held rest' now.taken read.held (drop (length roomy.held) looked) rest'' c.in_ok-count.count read.taken long on piece sum at.none in
    let found : ReadOn old.longest old.held rest old.taken read.held looked rest'' read.taken long = subst (λ (l : List ℕ). ReadOn old.longest old.held rest old.taken read.held l rest'' read.taken long) (looked_front roomy.held read.held piece.piece c.in-Some.count piece.grows at.behind) come in
    let size : length looked ≤ c.in-Some.count = omega (arith, length-take c.in-Some.count read.held) in
    line_short c.give.new.self read.longest c.in-Some.count long c.give.result found.skipped looked c.give.ensures.same.longest size found.none c.give.ensures.line c.give.ensures.given
