-- A text that grows field by field.
use Rattle.std.proofs.Common.{◌≡◌, ℕ, ◌+◌, ◌<◌, List, [], ◌∷◌, ◌++◌, length, map, take, get_or, sym, ap, ◌∙◌, arith, suc, append_assoc, append-nil, ℤ, decimal}
use Rattle.std.proofs.lemmas.List.{flat_map_more, take_more}
use Rattle.std.specs.Fmt.{signed_decimal}
use Rattle.std.specs.List.{flat_map}
use Rattle.clr_num.specs.Lists.{numbers}
use Rattle.clr_cert.specs.Lines.{joint_numbers, number_fields, two_values}
use Rattle.clr_rules.proofs.GridLemmas.{map-numbers_more}

more : {X : Type 0} (g : X → List ℕ) (f : ℕ → X) (from n : ℕ) (old so_far now : List ℕ) (x : X) → so_far ≡ old ++ flat_map g (map f (numbers from n)) → now ≡ so_far ++ g x → x ≡ f (from + n) →
    now ≡ old ++ flat_map g (map f (numbers from (suc n)))
more g f from n old so_far now x before is item =
    is
    ∙ (ap (λ t. t ++ g x) before
    ∙ (flat_map_more g old (map f (numbers from n)) x
    ∙ (ap (λ t. old ++ flat_map g (map f (numbers from n) ++ t ∷ [])) item ∙ ap (λ t. old ++ flat_map g t) (sym (map-numbers_more f from n)))))

-- one field more, for the items 0, 1, ..
pub more_from_0 : {X : Type 0} (g : X → List ℕ) (f : ℕ → X) (n : ℕ) (old so_far now : List ℕ) (x : X) → so_far ≡ old ++ flat_map g (map f (numbers 0 n)) → now ≡ so_far ++ g x → x ≡ f n →
    now ≡ old ++ flat_map g (map f (numbers 0 (n + 1)))
more_from_0 g f n old so_far now x before is item =
    more g f 0 n old so_far now x before is (item ∙ ap f (plain n)) ∙ ap (λ k. old ++ flat_map g (map f (numbers 0 k))) (next n)
  where
    plain : (k : ℕ) → k ≡ 0 + k
    plain k = omega arith

    next : (k : ℕ) → suc k ≡ k + 1
    next k = omega arith

-- and for the items 1, 2, ..
pub more_from_1 : {X : Type 0} (g : X → List ℕ) (f : ℕ → X) (n : ℕ) (old so_far now : List ℕ) (x : X) → so_far ≡ old ++ flat_map g (map f (numbers 1 n)) → now ≡ so_far ++ g x → x ≡ f (n + 1) →
    now ≡ old ++ flat_map g (map f (numbers 1 (n + 1)))
more_from_1 g f n old so_far now x before is item =
    more g f 1 n old so_far now x before is (item ∙ ap f (swap n)) ∙ ap (λ k. old ++ flat_map g (map f (numbers 1 k))) (next n)
  where
    swap : (k : ℕ) → k + 1 ≡ 1 + k
    swap k = omega arith

    next : (k : ℕ) → suc k ≡ k + 1
    next k = omega arith

-- and for those of a list
pub more_of : (g : ℕ → List ℕ) (list : List ℕ) (i : ℕ) (old so_far now : List ℕ) → i < length list → so_far ≡ old ++ flat_map g (take i list) → now ≡ so_far ++ g (get_or list i 0) → now ≡ old ++ flat_map g (take (i + 1) list)
more_of g list i old so_far now low before is =
    is ∙ (ap (λ t. t ++ g (get_or list i 0)) before ∙ (flat_map_more g old (take i list) (get_or list i 0) ∙ ap (λ t. old ++ flat_map g t) (sym (take_more list i 0 low))))

-- three pieces, one after another
pub three : (a b c d e f g : List ℕ) → e ≡ a ++ b → f ≡ e ++ c → g ≡ f ++ d → g ≡ a ++ (b ++ (c ++ d))
three a b c d e f g p q r = r ∙ (ap (λ t. t ++ d) (q ∙ ap (λ t. t ++ c) p) ∙ (append_assoc (a ++ b) c d ∙ append_assoc a b (c ++ d)))

-- ---- the numbers of all stores

pub joint_text : (old one two last : List ℕ) (rung : ℕ) (low top : ℤ) (answer : ℕ × ℤ × ℤ) → one ≡ old ++ 44 ∷ decimal rung → two ≡ one ++ 44 ∷ signed_decimal low → last ≡ two ++ 44 ∷ signed_decimal top →
    rung ≡ answer.0 → low ≡ answer.1 → top ≡ answer.2 → last ≡ old ++ number_fields (joint_numbers answer)
joint_text old one two last rung low top answer p q r a b c =
    pieces old (44 ∷ decimal answer.0) (44 ∷ signed_decimal answer.1) (44 ∷ signed_decimal answer.2) one two last
    (p ∙ ap (λ n. old ++ 44 ∷ decimal n) a) (q ∙ ap (λ n. one ++ 44 ∷ signed_decimal n) b) (r ∙ ap (λ n. two ++ 44 ∷ signed_decimal n) c)
  where
    pieces : (a b c d e f g : List ℕ) → e ≡ a ++ b → f ≡ e ++ c → g ≡ f ++ d → g ≡ a ++ (b ++ (c ++ (d ++ [])))
    pieces a b c d e f g p q r = three a b c d e f g p q r ∙ ap (λ t. a ++ (b ++ (c ++ t))) (sym (append-nil d))

pub values_text : (old one two : List ℕ) (low top : ℤ) (answer : ℕ × ℤ × ℤ) → one ≡ old ++ 44 ∷ signed_decimal low → two ≡ one ++ 44 ∷ signed_decimal top → low ≡ answer.1 → top ≡ answer.2 → two ≡ old ++ number_fields (two_values answer)
values_text old one two low top answer p q a b =
    pieces old (44 ∷ signed_decimal answer.1) (44 ∷ signed_decimal answer.2) one two (p ∙ ap (λ n. old ++ 44 ∷ signed_decimal n) a) (q ∙ ap (λ n. one ++ 44 ∷ signed_decimal n) b)
  where
    pieces : (a b c e f : List ℕ) → e ≡ a ++ b → f ≡ e ++ c → f ≡ a ++ (b ++ (c ++ []))
    pieces a b c e f p q = q ∙ (ap (λ t. t ++ c) p ∙ (append_assoc a b c ∙ ap (λ t. a ++ (b ++ t)) (sym (append-nil c))))
