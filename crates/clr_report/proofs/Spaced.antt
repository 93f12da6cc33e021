-- Words of a line that are written one after another.
use Rattle.std.proofs.Common.{◌≡◌, ℕ, List, [], ◌∷◌, ◌++◌, refl, sym, ap, ◌∙◌, append_assoc}
use Rattle.std.proofs.lemmas.List.{append-nil}
use Rattle.clr_report.specs.Lines.{spaced, words_joined}

spaced-append : (xs ys : List (List ℕ)) → spaced (xs ++ ys) ≡ spaced xs ++ spaced ys
unfolding spaced
spaced-append [] ys = refl
spaced-append (x ∷ xs) ys = ap (λ t. 32 ∷ (x ++ t)) (spaced-append xs ys) ∙ sym (append_assoc (32 ∷ x) (spaced xs) (spaced ys))

words_joined-spaced : (word : List ℕ) (words : List (List ℕ)) → words_joined (word ∷ words) ≡ word ++ spaced words
unfolding spaced
words_joined-spaced word [] = sym (append-nil word)
words_joined-spaced word (x ∷ xs) = ap (λ t. word ++ 32 ∷ t) (words_joined-spaced x xs)

-- a space, and then a word
pub word_after : (word old a b : List ℕ) → a ≡ old ++ 32 ∷ [] → b ≡ a ++ word → b ≡ old ++ spaced (word ∷ [])
unfolding spaced
word_after word old a b first next = next ∙ (ap (λ t. t ++ word) first ∙ (append_assoc old (32 ∷ []) word ∙ ap (λ t. old ++ 32 ∷ t) (sym (append-nil word))))

-- words, and then more of them
pub more : (xs ys : List (List ℕ)) (old a b : List ℕ) → a ≡ old ++ spaced xs → b ≡ a ++ spaced ys → b ≡ old ++ spaced (xs ++ ys)
more xs ys old a b first next = next ∙ (ap (λ t. t ++ spaced ys) first ∙ (append_assoc old (spaced xs) (spaced ys) ∙ ap (λ t. old ++ t) (sym (spaced-append xs ys))))

-- the front of a line, and then more words
pub more_joined : (word : List ℕ) (xs ys : List (List ℕ)) (a b : List ℕ) → a ≡ words_joined (word ∷ xs) → b ≡ a ++ spaced ys → b ≡ words_joined (word ∷ (xs ++ ys))
more_joined word xs ys a b first next = more xs ys word a b (first ∙ words_joined-spaced word xs) next ∙ sym (words_joined-spaced word (xs ++ ys))
