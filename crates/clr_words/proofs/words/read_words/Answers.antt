use Rattle.std.proofs.Common.{◌≡◌, ap, map, List}
use Rattle.std.specs.Prelude.{Err, string_bytes}
use Rattle.clap.specs.Words.{Text}
use Rattle.clr_words.specs.Line.{line_of}
use Rattle.clr_words.proofs.Unasked.{unasked}
use Rattle.clr_words.proofs.words.read_words.Goals as goal

pub returns-clause-answers : goal.returns-clause-answers
returns-clause-answers c =
    let words : List Text = map string_bytes c.args.words.now in
    let line : List Text = map (λ s. s.now) c.deref.result.now in
    let same : line ≡ line_of words = rw c.deref.ensures.value c.in-Ok.ensures in
    unasked words line c.in-Err.error same (λ is. c.in-Err.ensures.faulty (ap Err is))
