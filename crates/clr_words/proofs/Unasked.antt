-- Words that ask nothing.
use Rattle.std.proofs.Common.{◌≡◌, refl, List, [], ◌∷◌}
use Rattle.std.specs.Prelude.{Err, None, Option}
use Rattle.clap.specs.Words.{Kinds, Text, fault_of}
use Rattle.clr_words.specs.declared.asked.WordsError.{WordsError}
use Rattle.clr_words.specs.declared.asked.WordsError.TheVariants.{Faulty, Memory}
use Rattle.clr_words.specs.Asked.{Answers, Ask, asked_of, unless_faulty}
use Rattle.clr_words.specs.Line.{clearance, line_of}

none_asked : (kinds : Kinds) (ask : Option Ask) → (kinds ≡ [] → ⊥) → unless_faulty kinds ask ≡ None
none_asked [] ask some = absurd (some refl)
none_asked (k ∷ ks) ask some = refl

-- words with a fault ask nothing
pub unasked : (words line : List Text) (e : WordsError) → line ≡ line_of words → (e ≡ Faulty → fault_of clearance line ≡ [] → ⊥) → Answers (Err e) (asked_of words)
unfolding asked_of
unasked words line Memory same fault = tt
unasked words line Faulty same fault = none_asked _ _ (λ none. fault refl (rw same none))
