use Rattle.std.proofs.Common.{◌≡◌, ◌∙◌, Some, ap, arith, drop, length, sym, List, ℕ}
use Rattle.std.specs.List.{between, position}
use Rattle.std.proofs.lemmas.Slice.{between_to_end}
use Rattle.clr_io.specs.Lines.{is_feed}
use Rattle.clr_io.proofs.LineReading.{feed_absent, feed_behind}
use Rattle.clr_io.proofs.lines.feed_after.Goals as goal

pub returns-in-Some : goal.returns-in-Some
returns-in-Some c =
    let bytes = c.args.bytes.now in
    let behind : between c.args.known (length bytes) bytes ≡ drop c.args.known bytes = between_to_end bytes c.args.known (length bytes) (omega arith) in
    let found : position is_feed (drop c.args.known bytes) ≡ Some c.in-Some.more = ap (λ (l : List ℕ). position is_feed l) (sym behind) ∙ sym c.line_feed.ensures ∙ c.in-Some.is in
    feed_behind bytes c.args.known c.in-Some.more c.requires found

pub returns-in-None : goal.returns-in-None
returns-in-None c =
    let bytes = c.args.bytes.now in
    let behind : between c.args.known (length bytes) bytes ≡ drop c.args.known bytes = between_to_end bytes c.args.known (length bytes) (omega arith) in
    feed_absent (drop c.args.known bytes) (ap (λ (l : List ℕ). position is_feed l) (sym behind) ∙ sym c.line_feed.ensures ∙ c.in-None.is)
