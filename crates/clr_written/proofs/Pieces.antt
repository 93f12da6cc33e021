-- Texts whose pieces hold no separator.
use Rattle.std.proofs.Common.{◌≡◌, ℕ, ◌+◌, ◌-◌, ◌*◌, ◌<◌, ◌≤◌, true, false, cond, ◌==◌, nat_lt, refl, ap, ◌∙◌, arith, suc, List, [], ◌∷◌, ◌++◌, length, map, take, drop, get_or, Some, None, append_assoc, append-nil, length-append, eq-eqb}
use Rattle.std.specs.List.{AllByRecursion, flat_map, list_all}
use Rattle.std.specs.Str.{bytes_eq}
use Rattle.std.proofs.Math.Seq.{drop-append_seam, take-append_seam, get_or-append_seam}
use Rattle.std.proofs.lemmas.Bool.{and_parts, ne_eqb}
use Rattle.std.proofs.lemmas.Slice.Eq.{bytes_eq-Decides}
use Rattle.clr_num.proofs.Fields.{Above, above-append}
use Rattle.clr_cert.specs.Reading.{comma_fields, ended_lines, fields_after, onto_first, pieces_of, unended}

-- ---- pieces

other : (byte separator : ℕ) → separator < byte → (byte == separator) ≡ false
other byte separator h = ne_eqb byte separator (λ e. omega (arith, h, e))

one_piece : (separator : ℕ) (xs : List ℕ) → Above separator xs → pieces_of separator xs ≡ xs ∷ []
one_piece separator [] h = refl
one_piece separator (x ∷ xs) h =
    ap (λ b. cond b ([] ∷ pieces_of separator xs) (onto_first x (pieces_of separator xs))) (other x separator h.0) ∙ ap (onto_first x) (one_piece separator xs h.1)

cut_piece : (separator : ℕ) (xs rest : List ℕ) → Above separator xs → pieces_of separator (xs ++ separator ∷ rest) ≡ xs ∷ pieces_of separator rest
cut_piece separator [] rest h = ap (λ b. cond b ([] ∷ pieces_of separator rest) (onto_first separator (pieces_of separator rest))) (eq-eqb separator separator refl)
cut_piece separator (x ∷ xs) rest h =
    ap (λ b. cond b ([] ∷ pieces_of separator (xs ++ separator ∷ rest)) (onto_first x (pieces_of separator (xs ++ separator ∷ rest)))) (other x separator h.0)
    ∙ ap (onto_first x) (cut_piece separator xs rest h.1)

-- ---- lines

abbrev lines_of : {X : Type 0} → (X → List ℕ) → List X → List ℕ
lines_of f xs = flat_map (λ x. f x ++ 10 ∷ []) xs

line_pieces : {X : Type 0} (f : X → List ℕ) (xs : List X) → AllByRecursion (λ x. Above 10 (f x)) xs → pieces_of 10 (flat_map (λ x. f x ++ 10 ∷ []) xs) ≡ map f xs ++ [] ∷ []
line_pieces f [] h = refl
line_pieces f (x ∷ xs) h =
    ap (pieces_of 10) (append_assoc (f x) (10 ∷ []) (lines_of f xs)) ∙ (cut_piece 10 (f x) (lines_of f xs) h.0 ∙ ap (λ t. f x ∷ t) (line_pieces f xs h.1))

front : {X : Type 0} (xs : List X) (y : X) → take (length (xs ++ y ∷ []) - 1) (xs ++ y ∷ []) ≡ xs
front xs y =
    let size : length (xs ++ y ∷ []) ≡ length xs + 1 = length-append xs (y ∷ []) in
    let less : length (xs ++ y ∷ []) - 1 ≡ length xs = omega (arith, size) in
    ap (λ n. take n (xs ++ y ∷ [])) less ∙ take-append_seam xs (y ∷ [])

last : {X : Type 0} (xs : List X) (y d : X) → get_or (xs ++ y ∷ []) (length (xs ++ y ∷ []) - 1) d ≡ y
last xs y d =
    let size : length (xs ++ y ∷ []) ≡ length xs + 1 = length-append xs (y ∷ []) in
    let less : length (xs ++ y ∷ []) - 1 ≡ length xs = omega (arith, size) in
    ap (λ n. get_or (xs ++ y ∷ []) n d) less ∙ get_or-append_seam xs y [] d

-- the lines of a text of lines, and that nothing stands after the last
pub lines_back : {X : Type 0} (f : X → List ℕ) (xs : List X) → AllByRecursion (λ x. Above 10 (f x)) xs → ended_lines (flat_map (λ x. f x ++ 10 ∷ []) xs) ≡ map f xs
lines_back f xs h = ap (λ (t : List (List ℕ)). take (length t - 1) t) (line_pieces f xs h) ∙ front (map f xs) []

pub none_left : {X : Type 0} (f : X → List ℕ) (xs : List X) → AllByRecursion (λ x. Above 10 (f x)) xs → unended (flat_map (λ x. f x ++ 10 ∷ []) xs) ≡ []
none_left f xs h = ap (λ (t : List (List ℕ)). get_or t (length t - 1) []) (line_pieces f xs h) ∙ last (map f xs) [] []

-- ---- fields

abbrev fields_of : {X : Type 0} → (X → List ℕ) → List X → List ℕ
fields_of g xs = flat_map (λ x. 44 ∷ g x) xs

field_pieces : {X : Type 0} (g : X → List ℕ) (x : X) (xs : List X) → AllByRecursion (λ y. Above 44 (g y)) (x ∷ xs) → pieces_of 44 (g x ++ fields_of g xs) ≡ g x ∷ map g xs
field_pieces g x [] h = ap (pieces_of 44) (append-nil (g x)) ∙ one_piece 44 (g x) h.0
field_pieces g x (y ∷ ys) h = cut_piece 44 (g x) (g y ++ fields_of g ys) h.0 ∙ ap (λ t. g x ∷ t) (field_pieces g y ys h.1)

pub fields_back : {X : Type 0} (g : X → List ℕ) (xs : List X) → AllByRecursion (λ y. Above 44 (g y)) xs → comma_fields (flat_map (λ x. 44 ∷ g x) xs) ≡ Some (map g xs)
fields_back g [] h = refl
fields_back g (x ∷ xs) h = ap Some (field_pieces g x xs h)

-- fields stand above a byte where each does
pub above-fields : {X : Type 0} (c : ℕ) (g : X → List ℕ) (xs : List X) → c < 44 → AllByRecursion (λ y. Above c (g y)) xs → Above c (flat_map (λ x. 44 ∷ g x) xs)
above-fields c g [] low h = tt
above-fields c g (x ∷ xs) low h = (low, above-append c (g x) (fields_of g xs) h.0 (above-fields c g xs low h.1))

-- how long they are
pub length-fields : {X : Type 0} (g : X → List ℕ) (most : ℕ) (xs : List X) → AllByRecursion (λ y. length (g y) ≤ most) xs → length (flat_map (λ x. 44 ∷ g x) xs) ≤ length xs * suc most
length-fields g most [] h = omega arith
length-fields g most (x ∷ xs) h =
    let size : length (g x ++ fields_of g xs) ≡ length (g x) + length (fields_of g xs) = length-append (g x) (fields_of g xs) in
    let rest : length (fields_of g xs) ≤ length xs * suc most = length-fields g most xs h.1 in
    let one : length (g x) ≤ most = h.0 in
    total (length (g x ++ fields_of g xs)) (length (g x)) (length (fields_of g xs)) (length xs) most size rest one
  where
    total : (all a b n most : ℕ) → all ≡ a + b → b ≤ n * suc most → a ≤ most → suc all ≤ suc n * suc most
    total all a b n most p q r = omega arith

-- ---- what comes after a key

pub after_key : (key rest : List ℕ) → fields_after key (key ++ rest) ≡ comma_fields rest
after_key key rest =
    ap (λ t. cond (bytes_eq t key) (comma_fields (drop (length key) (key ++ rest))) None) (take-append_seam key rest)
    ∙ (ap (λ b. cond b (comma_fields (drop (length key) (key ++ rest))) None) ((bytes_eq-Decides key key).1 refl) ∙ ap comma_fields (drop-append_seam key rest))

-- ---- bytes of a word

pub above_by : (c : ℕ) (xs : List ℕ) → list_all (λ x. nat_lt c x) xs ≡ true → Above c xs
above_by c [] h = tt
above_by c (x ∷ xs) h = let parts = and_parts (nat_lt c x) (list_all (λ y. nat_lt c y) xs) h in (less x parts.0, above_by c xs parts.1)
  where
    less : (y : ℕ) → nat_lt c y ≡ true → c < y
    less y e = grind arith
