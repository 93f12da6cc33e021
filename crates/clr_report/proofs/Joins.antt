-- The pieces of a line as the code appends them.
use Rattle.std.proofs.Common.{◌≡◌, ℕ, List, [], ◌∷◌, ◌++◌, map, sym, ap, ◌∙◌, append_assoc}
use Rattle.std.specs.List.{flat_map}
use Rattle.std.proofs.lemmas.List.{append-nil}
use Rattle.clr_report.specs.Lines.{line, words_joined}

-- words with spaces between are a word and each next one after a space
words_joined-map : (f : ℕ → List ℕ) (word : List ℕ) (xs : List ℕ) → words_joined (word ∷ map f xs) ≡ word ++ flat_map (λ x. 32 ∷ f x) xs
words_joined-map f word [] = sym (append-nil word)
words_joined-map f word (x ∷ xs) = ap (λ t. word ++ 32 ∷ t) (words_joined-map f (f x) xs)

-- a word, then each item's word after a space, then the end of the line
pub listed : (f : ℕ → List ℕ) (word xs : List ℕ) (old a b c : List ℕ) → a ≡ old ++ word → b ≡ a ++ flat_map (λ x. 32 ∷ f x) xs → c ≡ b ++ 10 ∷ [] → c ≡ old ++ line (word ∷ map f xs)
listed f word xs old a b c first next last =
    last ∙ (ap (λ t. t ++ 10 ∷ []) (next ∙ (ap (λ t. t ++ flat_map (λ x. 32 ∷ f x) xs) first ∙ append_assoc old word (flat_map (λ x. 32 ∷ f x) xs)))
    ∙ (append_assoc old (word ++ flat_map (λ x. 32 ∷ f x) xs) (10 ∷ []) ∙ ap (λ t. old ++ (t ++ 10 ∷ [])) (sym (words_joined-map f word xs))))

-- a word and a space, a second word, a third after a space, then the end of the line
pub three_words : (word low high old a b c : List ℕ) → a ≡ old ++ ((word ++ 32 ∷ []) ++ low) → b ≡ a ++ (32 ∷ high) → c ≡ b ++ 10 ∷ [] → c ≡ old ++ line (word ∷ low ∷ high ∷ [])
three_words word low high old a b c first next last =
    last ∙ (ap (λ t. t ++ 10 ∷ []) (next ∙ (ap (λ t. t ++ 32 ∷ high) (first ∙ ap (λ t. old ++ t) (append_assoc word (32 ∷ []) low)) ∙ append_assoc old (word ++ 32 ∷ low) (32 ∷ high)))
    ∙ (append_assoc old ((word ++ 32 ∷ low) ++ 32 ∷ high) (10 ∷ []) ∙ ap (λ t. old ++ (t ++ 10 ∷ [])) (append_assoc word (32 ∷ low) (32 ∷ high))))

-- a word and a space, a second word, then the end of the line
pub two_words : (word next old a b : List ℕ) → a ≡ old ++ ((word ++ 32 ∷ []) ++ next) → b ≡ a ++ 10 ∷ [] → b ≡ old ++ line (word ∷ next ∷ [])
two_words word next old a b first last =
    last ∙ (ap (λ t. t ++ 10 ∷ []) (first ∙ ap (λ t. old ++ t) (append_assoc word (32 ∷ []) next)) ∙ append_assoc old (word ++ 32 ∷ next) (10 ∷ []))

-- a word and a space, a second word, a third after a space, a fourth between spaces, a fifth, then the end of the line
pub five_words : (word low high next last old a b c d : List ℕ) → a ≡ old ++ ((word ++ 32 ∷ []) ++ low) → b ≡ a ++ (32 ∷ high) → c ≡ b ++ ((32 ∷ (next ++ 32 ∷ [])) ++ last) → d ≡ c ++ 10 ∷ [] →
    d ≡ old ++ line (word ∷ low ∷ high ∷ next ∷ last ∷ [])
five_words word low high next last old a b c d p q r s =
    s ∙ (ap (λ t. t ++ 10 ∷ []) (r ∙ ap (λ t. t ++ ((32 ∷ (next ++ 32 ∷ [])) ++ last)) (q ∙ ap (λ t. t ++ (32 ∷ high)) p)) ∙ shape)
  where
    shape : (((old ++ ((word ++ 32 ∷ []) ++ low)) ++ (32 ∷ high)) ++ ((32 ∷ (next ++ 32 ∷ [])) ++ last)) ++ 10 ∷ [] ≡ old ++ line (word ∷ low ∷ high ∷ next ∷ last ∷ [])
    shape = simp append_assoc
