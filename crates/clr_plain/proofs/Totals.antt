-- Sums of revenue, and of chance times revenue, at the widths of the code.
use Rattle.std.proofs.Common.{◌≡◌, ◌⊎◌, inl, inr, ℕ, zero, suc, ◌+◌, ◌-◌, ◌*◌, ◌^◌, ◌<◌, ◌≤◌, ℤ, pos, neg_ℤ, ◌+ℤ◌, ◌-ℤ◌, ◌*ℤ◌, ◌≤ℤ◌, List, [], ◌∷◌, ◌++◌, get_or, length, take, refl, sym, ap, ap₂, ◌∙◌, subst, arith, add-one, mul_comm, mul-le-mul, to_z, of_z, SFits, take_at, set, length-set}
use Rattle.std.proofs.lemmas.Bool.{cases_lt}
use Rattle.std.proofs.lemmas.Int.{ints, to_z-of_z}
use Rattle.std.proofs.lemmas.List.{get_or-take, length-take-le, take_more_set}
use Rattle.std.proofs.Math.ListN.{get_or-append}
use Rattle.std.proofs.Math.Seq.{get_or-append_seam}
use mir.Syntax.{w64, w128}
use Rattle.clr_num.specs.Lists.{numbers}
use Rattle.clr_num.specs.Sums.{sum_of, sum_over}
use Rattle.clr_average.specs.Average.{IsWithin}
use Rattle.clr_average.proofs.Ring.{linear, mul_add, scale_le}
use Rattle.clr_average.proofs.Reading.{within_128}
use Rattle.clr_average.proofs.Sums.{sum_of_more, sum_over-numbers_more}
use Rattle.clr_average.proofs.Within.{within_64, within_more, within_product, within_sum}
use Rattle.clr_season.specs.Season.{Season}
use Rattle.clr_plain.specs.Plain.{IsBounded, flat_chance, flat_part, sum_after}
use Rattle.clr_plain.proofs.Outcomes.{front_le, mass-pos, no_place, place_more, sum_over-natural}
use Rattle.clr_plain.proofs.Sales.{cents_range}

-- ---- one store's revenue

read_whole : (n : ℕ) → n < 2 ^ 63 → to_z w64 n ≡ pos n
read_whole n lt = omega (arith, ints)

pub costs_small : (cost weeks path : ℕ) → cost ≤ 10000000 → weeks ≤ path → path ≤ 52 → cost * weeks ≤ 10000000000
costs_small cost weeks path a b few = let few : weeks ≤ 52 = omega arith in let part : cost * weeks ≤ 10000000 * 52 = mul-le-mul a few in omega arith

pub gross_small : (cents sold salvage left stock : ℕ) → cents ≤ 10000000 * sold → salvage ≤ 10000000 → sold + left ≡ stock → stock ≤ 2000 → cents + salvage * left ≤ 20000000000
gross_small cents sold salvage left stock a b all few = let part : cents + salvage * left ≤ 10000000 * (sold + left) = cents_range cents sold salvage left a b in omega arith

module _ (gross costs : ℕ) (a : gross ≤ 20000000000) (b : costs ≤ 10000000000) where
  small : IsWithin 100000000000 (pos gross -ℤ pos costs)
  small = record { low = omega (arith, linear); high = omega (arith, linear) }

  reads : (to_z w64 gross -ℤ to_z w64 costs) ≡ (pos gross -ℤ pos costs)
  reads = ap₂ ◌-ℤ◌ (read_whole gross (omega arith)) (read_whole costs (omega arith))

  whole_fits : SFits w64 (pos gross -ℤ pos costs)
  whole_fits = within_64 (pos gross -ℤ pos costs) 100000000000 (omega arith) small

  pub net_fits : SFits w64 (to_z w64 gross -ℤ to_z w64 costs)
  net_fits = subst (SFits w64) (sym reads) whole_fits

  pub net_read : to_z w64 (of_z w64 (to_z w64 gross -ℤ to_z w64 costs)) ≡ (pos gross -ℤ pos costs)
  net_read = ap (λ z. to_z w64 (of_z w64 z)) reads ∙ to_z-of_z w64 (pos gross -ℤ pos costs) whole_fits

  pub net_small : IsWithin 100000000000 (to_z w64 (of_z w64 (to_z w64 gross -ℤ to_z w64 costs)))
  net_small = subst (IsWithin 100000000000) (sym net_read) small

-- ---- one store more

module _ (i : ℕ) (before value : ℤ) (f : ℕ → ℤ) (few : i < 64) (so_far : before ≡ sum_of i f) (size : IsWithin (i * 100000000000) before) (value_is : value ≡ f i) (value_size : IsWithin 100000000000 value) where
  stores_size : IsWithin ((i + 1) * 100000000000) (before +ℤ value)
  stores_size = within_more (i * 100000000000 + 100000000000) ((i + 1) * 100000000000) (before +ℤ value) (within_sum (i * 100000000000) 100000000000 before value size value_size) (omega arith)

  pub store_fits : SFits w64 (before +ℤ value)
  store_fits = within_64 (before +ℤ value) ((i + 1) * 100000000000) (omega arith) stores_size

  pub store_read : to_z w64 (of_z w64 (before +ℤ to_z w64 (of_z w64 value))) ≡ before +ℤ value
  store_read = ap (λ x. to_z w64 (of_z w64 (before +ℤ x))) (to_z-of_z w64 value (within_64 value 100000000000 (omega arith) value_size)) ∙ to_z-of_z w64 (before +ℤ value) store_fits

  pub store_sum : to_z w64 (of_z w64 (before +ℤ to_z w64 (of_z w64 value))) ≡ sum_of (i + 1) f
  store_sum = store_read ∙ (ap₂ ◌+ℤ◌ so_far value_is ∙ (sym (sum_of_more i f) ∙ ap (λ n. sum_of n f) (sym (add-one i))))

  pub store_size : IsWithin ((i + 1) * 100000000000) (to_z w64 (of_z w64 (before +ℤ to_z w64 (of_z w64 value))))
  store_size = subst (IsWithin ((i + 1) * 100000000000)) (sym store_read) stores_size

-- ---- numbers bounded by a mass

pub bounded_part : (c : ℕ) (revenue : ℤ) → IsWithin 10000000000000 revenue → IsBounded (pos c) (pos c *ℤ revenue)
bounded_part c revenue h =
    let size : IsWithin (c * 10000000000000) (pos c *ℤ revenue) = within_product c 10000000000000 revenue h in
    let low : neg_ℤ (pos (c * 10000000000000)) ≤ℤ (pos c *ℤ revenue) = size.low in
    let high : (pos c *ℤ revenue) ≤ℤ pos (c * 10000000000000) = size.high in
    let turned : pos (c * 10000000000000) ≡ pos 10000000000000 *ℤ pos c = ap pos (mul_comm c 10000000000000) in
    record { low = omega (arith, linear); high = omega (arith, linear) }

bounded_sum : (m n a b : ℤ) → IsBounded m a → IsBounded n b → IsBounded (m +ℤ n) (a +ℤ b)
bounded_sum m n a b h k =
    let split : pos 10000000000000 *ℤ (m +ℤ n) ≡ pos 10000000000000 *ℤ m +ℤ pos 10000000000000 *ℤ n = mul_add (pos 10000000000000) m n in
    let low : (pos 0 -ℤ pos 10000000000000 *ℤ m) ≤ℤ a = h.low in
    let high : a ≤ℤ (pos 10000000000000 *ℤ m) = h.high in
    let below : (pos 0 -ℤ pos 10000000000000 *ℤ n) ≤ℤ b = k.low in
    let top : b ≤ℤ (pos 10000000000000 *ℤ n) = k.high in
    record { low = omega (arith, linear); high = omega (arith, linear) }

bounded_fits : (mass value : ℤ) → IsBounded mass value → mass ≤ℤ pos (10 ^ 18) → SFits w128 value
bounded_fits mass value h small =
    let most : (pos 10000000000000 *ℤ mass) ≤ℤ pos (10000000000000 * 10 ^ 18) = scale_le 10000000000000 mass (pos (10 ^ 18)) small in
    let low : (pos 0 -ℤ pos 10000000000000 *ℤ mass) ≤ℤ value = h.low in
    let high : value ≤ℤ (pos 10000000000000 *ℤ mass) = h.high in
    within_128 value (record { low = omega (arith, linear); high = omega (arith, linear) })

-- ---- one place of the list of demands

-- the list with this demand at this place, and before it as it was
pub record IsNext (season : Season) (old : List ℕ) (place : ℕ) (asked : List ℕ) (d : ℕ) : Type 0 where
  pub size : length asked ≡ length old
  pub begun : take (place + 1) asked ≡ take place old ++ d ∷ []
  pub held : d ≤ season.top

pub next_is : (season : Season) (old before : List ℕ) (place d : ℕ) → place < length old → length before ≡ length old → take place before ≡ take place old → d ≤ season.top → IsNext season old place (set before place d) d
next_is season old before place d inside size begun held = record {
  size = length-set before place d ∙ size;
  begun = take_more_set before place d (omega (arith, inside, size)) ∙ ap (λ l. l ++ d ∷ []) begun;
  held = held;
}

module _ (season : Season) (path old : List ℕ) (place : ℕ) (inside : place < length old) where
  abbrev rest : ℕ
  rest = length old - (place + 1)

  abbrev pub part_at : ℕ → ℤ
  part_at d = sum_after season (flat_part season path) rest (take place old ++ d ∷ [])

  abbrev pub mass_at : ℕ → ℤ
  mass_at d = sum_after season (flat_chance season path) rest (take place old ++ d ∷ [])

  pub all_at : (f : List ℕ → ℤ) → sum_over (numbers 0 (suc season.top)) (λ d. sum_after season f rest (take place old ++ d ∷ [])) ≡ sum_after season f (length old - place) (take place old)
  all_at f = let next : suc rest ≡ length old - place = omega arith in sym (place_more season f rest (take place old)) ∙ ap (λ n. sum_after season f n (take place old)) next

  module _ (asked : List ℕ) (d : ℕ) (is : IsNext season old place asked d) where
    -- the sum that the rest of the places gives
    pub after_is : (f : List ℕ → ℤ) → sum_after season f (length asked - (place + 1)) (take (place + 1) asked) ≡ sum_after season f rest (take place old ++ d ∷ [])
    after_is f = ap₂ (λ n l. sum_after season f (n - (place + 1)) l) is.size is.begun

    pub each_more : ((i : ℕ) → i < place → get_or old i 0 ≤ season.top) → (i : ℕ) → i < place + 1 → get_or asked i 0 ≤ season.top
    each_more earlier i lt = subst (λ n. n ≤ season.top) (sym there) (go (cases_lt i place))
      where
        long : length (take place old) ≡ place
        long = length-take-le place old (omega arith)

        there : get_or asked i 0 ≡ get_or (take place old ++ d ∷ []) i 0
        there = sym (get_or-take (place + 1) asked i 0 lt) ∙ ap (λ l. get_or l i 0) is.begun

        go : (i < place) ⊎ (place ≤ i) → get_or (take place old ++ d ∷ []) i 0 ≤ season.top
        go (inl less) = subst (λ n. n ≤ season.top) (sym (get_or-append (take place old) (d ∷ []) 0 i (omega (arith, less, long)) ∙ get_or-take place old i 0 less)) (earlier i less)
        go (inr more) = let last : length (take place old) ≡ i = omega (arith, more, lt, long) in subst (λ n. get_or (take place old ++ d ∷ []) n 0 ≤ season.top) last (subst (λ n. n ≤ season.top) (sym (get_or-append_seam (take place old) d [] 0)) is.held)

    mass_to : (n : ℕ) → n ≤ suc season.top → sum_over (numbers 0 n) mass_at ≤ℤ sum_after season (flat_chance season path) (length old - place) (take place old)
    mass_to n le =
        let whole : n + (suc season.top - n) ≡ suc season.top = omega arith in
        subst (λ t. sum_over (numbers 0 n) mass_at ≤ℤ t) (ap (λ k. sum_over (numbers 0 k) mass_at) whole ∙ all_at (flat_chance season path)) (front_le mass_at n (suc season.top - n) (λ x. mass-pos season path rest (take place old ++ x ∷ [])))

    none : (n : ℕ) → 0 + n ≡ n
    none n = omega arith

    -- the mass of the rest of the places
    pub mass_small : sum_after season (flat_chance season path) (length old - place) (take place old) ≤ℤ pos (10 ^ 18) → sum_after season (flat_chance season path) (length asked - (place + 1)) (take (place + 1) asked) ≤ℤ pos (10 ^ 18)
    mass_small small =
        let here : sum_after season (flat_chance season path) (length asked - (place + 1)) (take (place + 1) asked) ≡ mass_at d = after_is (flat_chance season path) in
        let part : sum_over (numbers 0 (suc d)) mass_at ≤ℤ sum_after season (flat_chance season path) (length old - place) (take place old) = mass_to (suc d) (omega (arith, is.held)) in
        let all : sum_over (numbers 0 (suc d)) mass_at ≡ sum_over (numbers 0 d) mass_at +ℤ mass_at (0 + d) = sum_over-numbers_more 0 d mass_at in
        let same : mass_at (0 + d) ≡ mass_at d = ap mass_at (none d) in
        let earlier = sums_natural d in
        let natural : sum_over (numbers 0 d) mass_at ≡ pos earlier.0 = earlier.1 in
        omega (arith, linear)
      where
        sums_natural : (n : ℕ) → (k : ℕ) × (sum_over (numbers 0 n) mass_at ≡ pos k)
        sums_natural n = sum_over-natural (numbers 0 n) mass_at (λ x. mass-pos season path rest (take place old ++ x ∷ []))

    module _ (total value : ℤ) (mass : sum_after season (flat_chance season path) (length old - place) (take place old) ≤ℤ pos (10 ^ 18))
        (so_far : total ≡ sum_over (numbers 0 d) part_at) (bound : IsBounded (sum_over (numbers 0 d) mass_at) total)
        (value_is : value ≡ sum_after season (flat_part season path) (length asked - (place + 1)) (take (place + 1) asked))
        (value_bound : IsBounded (sum_after season (flat_chance season path) (length asked - (place + 1)) (take (place + 1) asked)) value) where
      mass_next : sum_over (numbers 0 d) mass_at +ℤ mass_at d ≡ sum_over (numbers 0 (d + 1)) mass_at
      mass_next = ap (λ n. sum_over (numbers 0 d) mass_at +ℤ mass_at n) (sym (none d)) ∙ sym (sum_over-numbers_more 0 d mass_at) ∙ ap (λ n. sum_over (numbers 0 n) mass_at) (sym (add-one d))

      pub next_bound : IsBounded (sum_over (numbers 0 (d + 1)) mass_at) (total +ℤ value)
      next_bound = subst (λ m. IsBounded m (total +ℤ value)) mass_next (bounded_sum (sum_over (numbers 0 d) mass_at) (mass_at d) total value bound (subst (λ m. IsBounded m value) (after_is (flat_chance season path)) value_bound))

      pub next_fits : SFits w128 (total +ℤ value)
      next_fits =
          let part : sum_over (numbers 0 (d + 1)) mass_at ≤ℤ sum_after season (flat_chance season path) (length old - place) (take place old) = mass_to (d + 1) (omega (arith, is.held)) in
          bounded_fits (sum_over (numbers 0 (d + 1)) mass_at) (total +ℤ value) next_bound (omega (arith, linear))

      pub next_value : total +ℤ value ≡ sum_over (numbers 0 (d + 1)) part_at
      next_value = ap₂ ◌+ℤ◌ so_far (value_is ∙ after_is (flat_part season path)) ∙ (ap (λ n. sum_over (numbers 0 d) part_at +ℤ part_at n) (sym (none d)) ∙ sym (sum_over-numbers_more 0 d part_at) ∙ ap (λ n. sum_over (numbers 0 n) part_at) (sym (add-one d)))

-- what the rest of the places leaves as it was
pub begun_still : (old asked new : List ℕ) (place d : ℕ) → place < length old → take (place + 1) asked ≡ take place old ++ d ∷ [] → take (place + 1) new ≡ take (place + 1) asked → take place new ≡ take place old
begun_still old asked new place d inside begun same =
    shorter place new ∙ (ap (λ n. take place (take n new)) (sym (add-one place)) ∙ (ap (take place) (same ∙ begun) ∙ take_at (take place old) (d ∷ []) place (length-take-le place old (omega arith))))
  where
    shorter : (p : ℕ) (l : List ℕ) → take p l ≡ take p (take (suc p) l)
    shorter zero l = refl
    shorter (suc p) [] = refl
    shorter (suc p) (x ∷ l) = ap (λ t. x ∷ t) (shorter p l)

-- ---- the last place

module _ (season : Season) (path asked : List ℕ) (place chance : ℕ) (revenue result : ℤ) (last : place ≡ length asked) (chance_is : pos chance ≡ flat_chance season path asked) (part_is : pos chance *ℤ revenue ≡ flat_part season path asked)
    (size : IsWithin 10000000000000 revenue) (result_is : result ≡ pos chance *ℤ revenue) where
  whole_at : (f : List ℕ → ℤ) → sum_after season f (length asked - place) (take place asked) ≡ f asked
  whole_at f = ap (λ p. sum_after season f (length asked - p) (take p asked)) last ∙ no_place season f asked

  pub last_value : result ≡ sum_after season (flat_part season path) (length asked - place) (take place asked)
  last_value = result_is ∙ (part_is ∙ sym (whole_at (flat_part season path)))

  pub last_bound : IsBounded (sum_after season (flat_chance season path) (length asked - place) (take place asked)) result
  last_bound = subst (λ m. IsBounded m result) (chance_is ∙ sym (whole_at (flat_chance season path))) (subst (IsBounded (pos chance)) (sym result_is) (bounded_part chance revenue size))
