use Rattle.std.proofs.Common.{◌≡◌, ◌∙◌}
use Rattle.std.specs.Str.Parse.{ParsesUnsigned, ExplainsUnsignedError, HasUnsignedDigitsIfOk}
use Rattle.clap.specs.Words.{found_of, one_of, one_text, rows_of}
use Rattle.clap.proofs.WalkLemmas.{one_text-rows}
use Rattle.clr_words.proofs.Readings.{number_got}
use Rattle.clr_words.proofs.line.number.Goals as goal

pub returns : goal.returns
returns c =
    let f = found_of c.args.matches.now in
    let name = c.args.name.now in
    let same : one_text f name ≡ one_of name (rows_of f) = one_text-rows f name in
    c.unwrap_or.ensures
    ∙ number_got _ (λ bs r. ParsesUnsigned 64 10 bs r × ExplainsUnsignedError 10 bs r × HasUnsignedDigitsIfOk bs r) (one_of name (rows_of f)) c.get_one.result
    (λ u x g. g.0) (λ t is. c.get_one.ensures.value t (same ∙ is)) c.requires.numeral c.requires.fits
