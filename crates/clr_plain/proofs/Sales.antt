-- What a store sells along a path, one week after another.
use Rattle.std.proofs.Common.{◌≡◌, ℕ, zero, suc, ◌+◌, ◌-◌, ◌*◌, ◌==◌, ◌<◌, ◌≤◌, Bool, true, false, cond, not, ℤ, pos, ◌+ℤ◌, List, [], ◌∷◌, get_or, length, map, take, drop, sum, refl, add_assoc, sym, ap, ap₂, ◌∙◌, arith, add-one, mul-le-mul_right}
use Rattle.std.proofs.lemmas.List.{get_or-drop, get_or-take}
use Rattle.std.proofs.lemmas.List.Sums.{sum_by_more}
use lib.ListN.{length-map}
use mir.Val.{bool_byte}
use Rattle.clr_num.specs.Sums.{sum_of}
use Rattle.clr_average.proofs.Sums.{sum_of_more}
use Rattle.clr_rules.specs.Rules.{price, rung_at}
use Rattle.clr_season.specs.Season.{Season}
use Rattle.clr_model.specs.Revenue.{markdowns_after, of_store, sold}
use Rattle.clr_plain.specs.Plain.{asked_of, outcome_of, weeks_of}

-- ---- the number of markdown weeks

-- the rung before a week: the path's, after rung 1
before_is : (path : List ℕ) (k : ℕ) → rung_at path k ≡ get_or (1 ∷ path) k 1
before_is path zero = refl
before_is path (suc k) = refl

markdowns_more : (before k : ℕ) (path : List ℕ) → k < length path → markdowns_after before (take (suc k) path) ≡ markdowns_after before (take k path) + cond (get_or path k 1 == get_or (before ∷ path) k 1) 0 1
markdowns_more before k [] lt = absurd (omega arith)
markdowns_more before zero (rung ∷ path) lt = omega arith
markdowns_more before (suc k) (rung ∷ path) lt =
    ap (λ n. cond (rung == before) 0 1 + n) (markdowns_more rung k path (omega arith)) ∙ sym (add_assoc (cond (rung == before) 0 1) (markdowns_after rung (take k path)) (cond (get_or path k 1 == get_or (rung ∷ path) k 1) 0 1))

byte_is : (same : Bool) → bool_byte (not same) ≡ cond same 0 1
byte_is true = refl
byte_is false = refl

pub byte_small : (same : Bool) → bool_byte same ≤ 1
byte_small true = omega arith
byte_small false = omega arith

pub markdowns_next : (k count more rung before : ℕ) (path : List ℕ) → k < length path → count ≡ markdowns_after 1 (take k path) → rung ≡ get_or path k 1 → before ≡ rung_at path k → more ≡ bool_byte (not (rung == before)) →
    count + more ≡ markdowns_after 1 (take (k + 1) path)
markdowns_next k count more rung before path lt so_far is last here =
    ap₂ ◌+◌ so_far (here ∙ (byte_is (rung == before) ∙ ap₂ (λ r b. cond (r == b) 0 1) is (last ∙ before_is path k))) ∙ (sym (markdowns_more 1 k path lt) ∙ ap (λ n. markdowns_after 1 (take n path)) (sym (add-one k)))

pub any_default : (xs : List ℕ) (i a b : ℕ) → i < length xs → get_or xs i a ≡ get_or xs i b
any_default [] i a b lt = absurd (omega arith)
any_default (x ∷ xs) zero a b lt = refl
any_default (x ∷ xs) (suc i) a b lt = any_default xs i a b (omega arith)

-- ---- what is asked for

length-weeks : (stores weeks : ℕ) (asked : List ℕ) → length (weeks_of stores weeks asked) ≡ weeks
length-weeks stores zero asked = refl
length-weeks stores (suc weeks) asked = ap suc (length-weeks stores weeks (drop stores asked))

week_at : (stores weeks i k : ℕ) (asked : List ℕ) → i < stores → k < weeks → get_or (map (λ week. of_store week (suc i)) (weeks_of stores weeks asked)) k 0 ≡ get_or asked (k * stores + i) 0
week_at stores zero i k asked p q = absurd (omega arith)
week_at stores (suc weeks) i zero asked p q = let e : 0 * stores + i ≡ i = omega arith in get_or-take stores asked i 0 p ∙ ap (λ n. get_or asked n 0) (sym e)
week_at stores (suc weeks) i (suc k) asked p q =
    let e : stores + (k * stores + i) ≡ suc k * stores + i = omega arith in
    week_at stores weeks i k (drop stores asked) p (omega arith) ∙ (get_or-drop stores asked (k * stores + i) 0 ∙ ap (λ n. get_or asked n 0) e)

module _ (season : Season) (path : List ℕ) (store : ℕ) (asked : List ℕ) (low : 1 ≤ store) (high : store ≤ length season.stores) where
  asked_at : (k : ℕ) → k < length path → get_or (asked_of season path store asked) k 0 ≡ get_or asked (k * length season.stores + (store - 1)) 0
  asked_at k lt =
      let name : store ≡ suc (store - 1) = omega arith in
      ap (λ s. get_or (asked_of season path s asked) k 0) name ∙ week_at (length season.stores) (length path) (store - 1) k asked (omega arith) lt

  -- one week more
  pub sum_next : (k demand here : ℕ) → k < length path → demand ≡ sum (take k (asked_of season path store asked)) → here ≡ get_or asked (k * length season.stores + (store - 1)) 0 → demand + here ≡ sum (take (k + 1) (asked_of season path store asked))
  sum_next k demand here lt so_far is =
      let size : length (asked_of season path store asked) ≡ length path = length-map (outcome_of season path asked) (λ week. of_store week store) ∙ length-weeks (length season.stores) (length path) asked in
      ap₂ ◌+◌ so_far (is ∙ sym (asked_at k lt)) ∙ sym (sum_by_more (λ x. x) (asked_of season path store asked) k 0 (omega (arith, lt, size)))

-- the cents of one week more
pub cents_next : (k cents gain : ℕ) (f : ℕ → ℤ) → pos cents ≡ sum_of k f → pos gain ≡ f k → pos (cents + gain) ≡ sum_of (k + 1) f
cents_next k cents gain f so_far here = ap₂ ◌+ℤ◌ so_far here ∙ (sym (sum_of_more k f) ∙ ap (λ n. sum_of n f) (sym (add-one k)))

pub cents_range : (cents sold price more : ℕ) → cents ≤ 10000000 * sold → price ≤ 10000000 → cents + price * more ≤ 10000000 * (sold + more)
cents_range cents sold price more a b = let part : price * more ≤ 10000000 * more = mul-le-mul_right more b in omega arith
