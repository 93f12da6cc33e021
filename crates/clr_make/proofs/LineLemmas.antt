-- Lines that are appended one after another.
use Rattle.std.proofs.Common.{◌≡◌, ◌≤◌, ℕ, ◌+◌, ◌-◌, zero, suc, List, [], ◌∷◌, ◌++◌, map, refl, sym, ap, ◌∙◌, arith, append_assoc}
use Rattle.std.specs.List.{flat_map, join_with_byte}
use Rattle.std.proofs.lemmas.List.{append-nil, map-append}
use Rattle.std.proofs.lemmas.Grind.{flat_map-append}
use Rattle.clr_num.specs.Lists.{numbers}
use Rattle.clr_make.specs.Made.{line, lines}

-- numbers with one more at their end
pub numbers-more : (from count : ℕ) → numbers from (suc count) ≡ numbers from count ++ (from + count) ∷ []
numbers-more from zero = let e : from + 0 ≡ from = omega arith in rw e refl
numbers-more from (suc count) =
    let e : suc from + count ≡ from + suc count = omega arith in
    ap (λ t. from ∷ t) (numbers-more (suc from) count ∙ ap (λ k. numbers (suc from) count ++ k ∷ []) e)

pub lines-append : (a b : List (List (List ℕ))) → lines (a ++ b) ≡ lines a ++ lines b
unfolding lines
lines-append a b = flat_map-append line a b

-- the rows of one number more
pub lines-more : (f : ℕ → List (List (List ℕ))) (count : ℕ) → lines (flat_map f (numbers 1 (suc count))) ≡ lines (flat_map f (numbers 1 count)) ++ lines (f (1 + count))
lines-more f count =
    ap (λ ns. lines (flat_map f ns)) (numbers-more 1 count)
    ∙ (ap lines (flat_map-append f (numbers 1 count) ((1 + count) ∷ []) ∙ ap (λ t. flat_map f (numbers 1 count) ++ t) (append-nil (f (1 + count))))
    ∙ lines-append (flat_map f (numbers 1 count)) (f (1 + count)))

-- the same where each number has one row
pub line-more : (f : ℕ → List (List ℕ)) (count : ℕ) → lines (map f (numbers 1 (suc count))) ≡ lines (map f (numbers 1 count)) ++ line (f (1 + count))
unfolding lines
line-more f count =
    ap (λ ns. lines (map f ns)) (numbers-more 1 count)
    ∙ (ap lines (map-append f (numbers 1 count) ((1 + count) ∷ []))
    ∙ (lines-append (map f (numbers 1 count)) (f (1 + count) ∷ []) ∙ ap (λ t. lines (map f (numbers 1 count)) ++ t) (append-nil (line (f (1 + count))))))

-- a row of a text and of numbers, each after a comma
pub joined-numbers : (f : ℕ → List ℕ) (text : List ℕ) (xs : List ℕ) → join_with_byte 44 (text ∷ map f xs) ≡ text ++ flat_map (λ x. 44 ∷ f x) xs
joined-numbers f text [] = sym (append-nil text)
joined-numbers f text (x ∷ xs) = ap (λ t. text ++ 44 ∷ t) (joined-numbers f (f x) xs)

-- a row as its pieces are appended
pub joined-line : (f : ℕ → List ℕ) (text xs old a b c : List ℕ) → a ≡ old ++ text → b ≡ a ++ flat_map (λ x. 44 ∷ f x) xs → c ≡ b ++ 10 ∷ [] → c ≡ old ++ line (text ∷ map f xs)
joined-line f text xs old a b c first next last =
    last ∙ (ap (λ t. t ++ 10 ∷ []) (next ∙ (ap (λ t. t ++ flat_map (λ x. 44 ∷ f x) xs) first ∙ append_assoc old text (flat_map (λ x. 44 ∷ f x) xs)))
    ∙ (append_assoc old (text ++ flat_map (λ x. 44 ∷ f x) xs) (10 ∷ []) ∙ ap (λ t. old ++ (t ++ 10 ∷ [])) (sym (joined-numbers f text xs))))

-- three rows as they are appended
pub three-lines : (x y z : List (List ℕ)) (old a b c : List ℕ) → a ≡ old ++ line x → b ≡ a ++ line y → c ≡ b ++ line z → c ≡ old ++ lines (x ∷ y ∷ z ∷ [])
unfolding lines
three-lines x y z old a b c first next last =
    last ∙ (ap (λ t. t ++ line z) (next ∙ ap (λ t. t ++ line y) first)
    ∙ (append_assoc (old ++ line x) (line y) (line z) ∙ (append_assoc old (line x) (line y ++ line z) ∙ ap (λ t. old ++ (line x ++ (line y ++ t))) (sym (append-nil (line z))))))

-- ---- a loop that appends the rows of one number after another, from 1

pub rows-none : (old : List ℕ) → old ≡ old ++ lines []
unfolding lines
rows-none old = sym (append-nil old)

pub rows-more : (f : ℕ → List (List (List ℕ))) (n : ℕ) (old a b : List ℕ) → 1 ≤ n → a ≡ old ++ lines (flat_map f (numbers 1 (n - 1))) → b ≡ a ++ lines (f n)
    → b ≡ old ++ lines (flat_map f (numbers 1 (n + 1 - 1)))
rows-more f n old a b low before next =
    let here : 1 + (n - 1) ≡ n = omega arith in
    let after : n + 1 - 1 ≡ suc (n - 1) = omega arith in
    rw after (next ∙ (ap (λ t. t ++ lines (f n)) before ∙ (append_assoc old (lines (flat_map f (numbers 1 (n - 1)))) (lines (f n))
    ∙ ap (λ t. old ++ t) (ap (λ k. lines (flat_map f (numbers 1 (n - 1))) ++ lines (f k)) (sym here) ∙ sym (lines-more f (n - 1))))))

-- the same where each number has one row
pub row-more : (f : ℕ → List (List ℕ)) (n : ℕ) (old a b : List ℕ) → 1 ≤ n → a ≡ old ++ lines (map f (numbers 1 (n - 1))) → b ≡ a ++ line (f n)
    → b ≡ old ++ lines (map f (numbers 1 (n + 1 - 1)))
row-more f n old a b low before next =
    let here : 1 + (n - 1) ≡ n = omega arith in
    let after : n + 1 - 1 ≡ suc (n - 1) = omega arith in
    rw after (next ∙ (ap (λ t. t ++ line (f n)) before ∙ (append_assoc old (lines (map f (numbers 1 (n - 1)))) (line (f n))
    ∙ ap (λ t. old ++ t) (ap (λ k. lines (map f (numbers 1 (n - 1))) ++ line (f k)) (sym here) ∙ sym (line-more f (n - 1))))))
