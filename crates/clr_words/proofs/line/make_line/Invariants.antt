use Rattle.std.proofs.Common.{◌≡◌, map, take}
use Rattle.std.specs.Prelude.{string_bytes}
use Rattle.clr_words.specs.Line.{line_of}
use Rattle.clr_words.proofs.line.make_line.Given as goal

abbrev pub invariant-loop-word : goal.invariant-loop-word
invariant-loop-word l = map (λ s. s.now) l.line.items ≡ line_of (map string_bytes (take l.word-index l.words))
