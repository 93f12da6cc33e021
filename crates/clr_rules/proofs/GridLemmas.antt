-- All summaries in range, and the place of each among them.
use Rattle.std.proofs.Common.{◌≡◌, ℕ, ◌+◌, ◌-◌, ◌*◌, ◌<◌, ◌≤◌, refl, sym, ap, ap₂, ◌∙◌, subst, arith, suc, zero, List, [], ◌∷◌, ◌++◌, length, map, get_or, append_assoc, append-nil, length-append, ◌⊎◌, inl, inr, Some, slice_get}
use Rattle.std.proofs.lemmas.Bool.{cases_lt}
use Rattle.std.proofs.lemmas.List.{get_or_append_left, get_or-append-add, length-map}
use Rattle.std.proofs.lemmas.Option.{slice_get-get_or}
use Rattle.std.specs.List.{flat_map}
use Rattle.clr_rules.specs.declared.season_rules.Summary.{Summary}
use Rattle.clr_num.specs.Lists.{numbers}
use Rattle.clr_rules.specs.LiveSummaries.{all_summaries, place_in, IsHeld}

pub length-numbers : (from n : ℕ) → length (numbers from n) ≡ n
length-numbers from zero = refl
length-numbers from (suc n) = ap suc (length-numbers (suc from) n)

pub get_or-numbers : (from n i d : ℕ) → i < n → get_or (numbers from n) i d ≡ from + i
get_or-numbers from zero i d h = absurd (omega arith)
get_or-numbers from (suc n) zero d h = omega arith
get_or-numbers from (suc n) (suc i) d h = get_or-numbers (suc from) n i d (omega arith) ∙ shift from i
  where
    shift : (a b : ℕ) → suc a + b ≡ a + suc b
    shift a b = omega arith

pub get_or-mapped : {Y : Type 0} (f : ℕ → Y) (from n i : ℕ) (d : Y) → i < n → get_or (map f (numbers from n)) i d ≡ f (from + i)
get_or-mapped f from zero i d h = absurd (omega arith)
get_or-mapped f from (suc n) zero d h = ap f (here from)
  where
    here : (a : ℕ) → a ≡ a + 0
    here a = omega arith
get_or-mapped f from (suc n) (suc i) d h = get_or-mapped f (suc from) n i d (omega arith) ∙ ap f (shift from i)
  where
    shift : (a b : ℕ) → suc a + b ≡ a + suc b
    shift a b = omega arith

pub map-numbers_more : {Y : Type 0} (f : ℕ → Y) (from n : ℕ) → map f (numbers from (suc n)) ≡ map f (numbers from n) ++ f (from + n) ∷ []
map-numbers_more f from zero = ap (λ k. f k ∷ []) (here from)
  where
    here : (a : ℕ) → a ≡ a + 0
    here a = omega arith
map-numbers_more f from (suc n) = ap (λ t. f from ∷ t) (map-numbers_more f (suc from) n ∙ ap (λ k. map f (numbers (suc from) n) ++ f k ∷ []) (shift from n))
  where
    shift : (a b : ℕ) → suc a + b ≡ a + suc b
    shift a b = omega arith

pub flat_map-numbers_more : {Y : Type 0} (f : ℕ → List Y) (from n : ℕ) → flat_map f (numbers from (suc n)) ≡ flat_map f (numbers from n) ++ f (from + n)
flat_map-numbers_more f from zero = append-nil (f from) ∙ ap f (here from)
  where
    here : (a : ℕ) → a ≡ a + 0
    here a = omega arith
flat_map-numbers_more f from (suc n) =
    ap (λ t. f from ++ t) (flat_map-numbers_more f (suc from) n ∙ ap (λ k. flat_map f (numbers (suc from) n) ++ f k) (shift from n))
    ∙ sym (append_assoc (f from) (flat_map f (numbers (suc from) n)) (f (from + suc n)))
  where
    shift : (a b : ℕ) → suc a + b ≡ a + suc b
    shift a b = omega arith

-- ---- blocks of one width

pub length-blocks : {Y : Type 0} (f : ℕ → List Y) (w : ℕ) → ((x : ℕ) → length (f x) ≡ w) → (from n : ℕ) → length (flat_map f (numbers from n)) ≡ n * w
length-blocks f w wide from zero = omega arith
length-blocks f w wide from (suc n) = total (length (f from)) (length (flat_map f (numbers (suc from) n))) (length-append (f from) (flat_map f (numbers (suc from) n))) (wide from) (length-blocks f w wide (suc from) n)
  where
    total : (a b : ℕ) → length (f from ++ flat_map f (numbers (suc from) n)) ≡ a + b → a ≡ w → b ≡ n * w → length (f from ++ flat_map f (numbers (suc from) n)) ≡ suc n * w
    total a b p q r = omega arith

pub get_or-blocks : {Y : Type 0} (f : ℕ → List Y) (w : ℕ) → ((x : ℕ) → length (f x) ≡ w) → (from n i j : ℕ) (d : Y) → i < n → j < w → get_or (flat_map f (numbers from n)) (i * w + j) d ≡ get_or (f (from + i)) j d
get_or-blocks f w wide from zero i j d h g = absurd (omega arith)
get_or-blocks f w wide from (suc n) zero j d h g =
    let wide_here = wide from in
    let place : 0 * w + j ≡ j = omega arith in
    let here : from ≡ from + 0 = omega arith in
    ap (λ k. get_or (f from ++ flat_map f (numbers (suc from) n)) k d) place
    ∙ (get_or_append_left (f from) (flat_map f (numbers (suc from) n)) d j (omega arith) ∙ ap (λ k. get_or (f k) j d) here)
get_or-blocks f w wide from (suc n) (suc i) j d h g =
    let wide_here = wide from in
    let place : suc i * w + j ≡ length (f from) + (i * w + j) = omega arith in
    let here : suc from + i ≡ from + suc i = omega arith in
    ap (λ k. get_or (f from ++ flat_map f (numbers (suc from) n)) k d) place
    ∙ (get_or-append-add (f from) (flat_map f (numbers (suc from) n)) (i * w + j) d
    ∙ (get_or-blocks f w wide (suc from) n i j d (omega arith) g ∙ ap (λ k. get_or (f k) j d) here))

-- a place is that of a block, and one in it
pub split_place : (n w k : ℕ) → k < n * w → (i : ℕ) × (j : ℕ) × (i < n) × (j < w) × (k ≡ i * w + j)
split_place zero w k h = absurd (none h)
  where
    none : k < 0 * w → ⊥
    none h = omega arith
split_place (suc n) w k h = go (cases_lt k w) (split_place n w (k - w))
  where
    go : (k < w) ⊎ (w ≤ k) → (k - w < n * w → (i : ℕ) × (j : ℕ) × (i < n) × (j < w) × (k - w ≡ i * w + j)) → (i : ℕ) × (j : ℕ) × (i < suc n) × (j < w) × (k ≡ i * w + j)
    go (inl less) next = (0, k, omega arith, less, omega arith)
    go (inr more) next = let (i, j, low, wide, is) = next (omega arith) in (suc i, j, omega arith, wide, omega arith)

-- ---- the summaries

abbrev pub triple : ℕ → ℕ → ℕ → Summary
triple last count age = record { last = last; count = count; age = age }

abbrev pub by_age : ℕ → ℕ → ℕ → List Summary
by_age ages last count = map (λ age. triple last count age) (numbers 1 ages)

abbrev pub by_count : ℕ → ℕ → ℕ → List Summary
by_count counts ages last = flat_map (λ count. by_age ages last count) (numbers 0 counts)

wide_age : (ages last count : ℕ) → length (by_age ages last count) ≡ ages
wide_age ages last count = length-map (numbers 1 ages) (λ age. triple last count age) ∙ length-numbers 1 ages

wide_count : (counts ages last : ℕ) → length (by_count counts ages last) ≡ counts * ages
wide_count counts ages last = length-blocks (λ count. by_age ages last count) ages (λ count. wide_age ages last count) 0 counts

pub length-all : (rungs counts ages : ℕ) → length (all_summaries rungs counts ages) ≡ (rungs * counts) * ages
length-all rungs counts ages = length-blocks (λ last. by_count counts ages last) (counts * ages) (λ last. wide_count counts ages last) 1 rungs ∙ regroup rungs counts ages
  where
    regroup : (a b c : ℕ) → a * (b * c) ≡ (a * b) * c
    regroup a b c = omega arith

pub get_or-all : (rungs counts ages i j k : ℕ) (d : Summary) → i < rungs → j < counts → k < ages → get_or (all_summaries rungs counts ages) ((i * counts + j) * ages + k) d ≡ triple (suc i) j (suc k)
get_or-all rungs counts ages i j k d low mid high =
    ap (λ n. get_or (all_summaries rungs counts ages) n d) (regroup i j k counts ages)
    ∙ (get_or-blocks (λ last. by_count counts ages last) (counts * ages) (λ last. wide_count counts ages last) 1 rungs i (j * ages + k) d low (inside j k counts ages mid high)
    ∙ (get_or-blocks (λ count. by_age ages (1 + i) count) ages (λ count. wide_age ages (1 + i) count) 0 counts j k d mid high
    ∙ (get_or-mapped (λ age. triple (1 + i) (0 + j) age) 1 ages k d high
    ∙ same)))
  where
    regroup : (i j k c a : ℕ) → (i * c + j) * a + k ≡ i * (c * a) + (j * a + k)
    regroup i j k c a = omega arith

    inside : (j k c a : ℕ) → j < c → k < a → j * a + k < c * a
    inside j k zero a p q = absurd (omega arith)
    inside zero k (suc c) a p q = omega arith
    inside (suc j) k (suc c) a p q = let h = inside j k c a (omega arith) q in omega arith

    one : (n : ℕ) → 1 + n ≡ suc n
    one n = omega arith

    none : (n : ℕ) → 0 + n ≡ n
    none n = omega arith

    same : triple (1 + i) (0 + j) (1 + k) ≡ triple (suc i) j (suc k)
    same = λ x. triple (one i x) (none j x) (one k x)

-- a summary in range stands at its place
pub at_place : (rungs counts ages : ℕ) (s d : Summary) → IsHeld rungs counts ages s → get_or (all_summaries rungs counts ages) (place_in counts ages s) d ≡ s
at_place rungs counts ages s d h =
    get_or-all rungs counts ages (s.last - 1) s.count (s.age - 1) d (below s.last rungs h.low h.high) h.count (below s.age ages h.young h.old)
    ∙ (λ x. triple (back s.last h.low x) s.count (back s.age h.young x))
  where
    back : (n : ℕ) → 1 ≤ n → suc (n - 1) ≡ n
    back n p = omega arith

    below : (n m : ℕ) → 1 ≤ n → n ≤ m → n - 1 < m
    below n m p q = omega arith

-- each place is that of a summary in range
pub of_place : (rungs counts ages k : ℕ) → k < (rungs * counts) * ages → (s : Summary) × (IsHeld rungs counts ages s) × (place_in counts ages s ≡ k)
of_place rungs counts ages k h =
    let (row, age, row_low, age_low, is) = split_place (rungs * counts) ages k h in
    let (last, count, last_low, count_low, row_is) = split_place rungs counts row row_low in (
      triple (suc last) count (suc age),
      record { low = omega arith; high = omega arith; count = count_low; young = omega arith; old = omega arith },
      ap₂ (λ m n. (m * counts + count) * ages + n) (back last) (back age) ∙ (ap (λ m. m * ages + age) (sym row_is) ∙ sym is),
    )
  where
    back : (n : ℕ) → suc n - 1 ≡ n
    back n = omega arith

pub place-in_range : (rungs counts ages : ℕ) (s : Summary) → IsHeld rungs counts ages s → place_in counts ages s < (rungs * counts) * ages
place-in_range rungs counts ages s h = wide (s.last - 1) s.count (s.age - 1) rungs counts ages (omega arith) h.count (omega arith)
  where
    inside : (j k c a : ℕ) → j < c → k < a → j * a + k < c * a
    inside j k zero a p q = absurd (omega arith)
    inside zero k (suc c) a p q = omega arith
    inside (suc j) k (suc c) a p q = let h = inside j k c a (omega arith) q in omega arith

    wide : (i j k r c a : ℕ) → i < r → j < c → k < a → (i * c + j) * a + k < (r * c) * a
    wide i j k r c a p q t = inside (i * c + j) k (r * c) a (inside i j r c p q) t

pub get-place : (rungs counts ages : ℕ) (s : Summary) → IsHeld rungs counts ages s → slice_get (all_summaries rungs counts ages) (place_in counts ages s) ≡ Some s
get-place rungs counts ages s h =
    let long : length (all_summaries rungs counts ages) ≡ (rungs * counts) * ages = length-all rungs counts ages in
    let low : place_in counts ages s < (rungs * counts) * ages = place-in_range rungs counts ages s h in
    slice_get-get_or (all_summaries rungs counts ages) (place_in counts ages s) s (subst (λ n. place_in counts ages s < n) (sym long) low)
    ∙ ap (λ t. Some t) (at_place rungs counts ages s s h)

-- ---- the list under way

more_age : (ages last count : ℕ) → by_age (ages + 1) last count ≡ by_age ages last count ++ triple last count (ages + 1) ∷ []
more_age ages last count =
    ap (λ n. map (λ age. triple last count age) (numbers 1 n)) (next ages)
    ∙ (map-numbers_more (λ age. triple last count age) 1 ages ∙ ap (λ n. by_age ages last count ++ triple last count n ∷ []) (flip ages))
  where
    next : (n : ℕ) → n + 1 ≡ suc n
    next n = omega arith

    flip : (n : ℕ) → 1 + n ≡ n + 1
    flip n = omega arith

pub grow_age : (items base grown : List Summary) (last count age : ℕ) → items ≡ base ++ by_age age (suc last) count → grown ≡ items ++ triple (last + 1) count (age + 1) ∷ [] → grown ≡ base ++ by_age (age + 1) (suc last) count
grow_age items base grown last count age so_far pushed =
    pushed ∙ (ap₂ (λ xs n. xs ++ triple n count (age + 1) ∷ []) so_far (next last)
    ∙ (append_assoc base (by_age age (suc last) count) (triple (suc last) count (age + 1) ∷ []) ∙ ap (λ t. base ++ t) (sym (more_age age (suc last) count))))
  where
    next : (n : ℕ) → n + 1 ≡ suc n
    next n = omega arith

pub grow_count : (items base : List Summary) (ages last count age : ℕ) → items ≡ base ++ flat_map (λ count. by_age ages (suc last) count) (numbers 0 count) ++ by_age age (suc last) count → age ≡ ages →
    items ≡ base ++ flat_map (λ count. by_age ages (suc last) count) (numbers 0 (count + 1))
grow_count items base ages last count age so_far end =
    so_far ∙ (ap (λ n. base ++ flat_map (λ count. by_age ages (suc last) count) (numbers 0 count) ++ by_age n (suc last) count) end ∙ (append_assoc base (flat_map (λ count. by_age ages (suc last) count) (numbers 0 count)) (by_age ages (suc last) count)
    ∙ ap (λ t. base ++ t) (sym (ap (λ n. flat_map (λ count. by_age ages (suc last) count) (numbers 0 n)) (next count) ∙ (flat_map-numbers_more (λ count. by_age ages (suc last) count) 0 count ∙ ap (λ n. flat_map (λ count. by_age ages (suc last) count) (numbers 0 count) ++ by_age ages (suc last) n) (none count))))))
  where
    next : (n : ℕ) → n + 1 ≡ suc n
    next n = omega arith

    none : (n : ℕ) → 0 + n ≡ n
    none n = omega arith

pub grow_last : (items : List Summary) (counts ages last count : ℕ) → items ≡ flat_map (λ last. by_count counts ages last) (numbers 1 last) ++ flat_map (λ count. by_age ages (suc last) count) (numbers 0 count) → count ≡ counts →
    items ≡ flat_map (λ last. by_count counts ages last) (numbers 1 (last + 1))
grow_last items counts ages last count so_far end =
    so_far ∙ (ap (λ n. flat_map (λ last. by_count counts ages last) (numbers 1 last) ++ flat_map (λ count. by_age ages (suc last) count) (numbers 0 n)) end ∙ sym (ap (λ n. flat_map (λ last. by_count counts ages last) (numbers 1 n)) (next last)
    ∙ (flat_map-numbers_more (λ last. by_count counts ages last) 1 last ∙ ap (λ n. flat_map (λ last. by_count counts ages last) (numbers 1 last) ++ by_count counts ages n) (one last))))
  where
    next : (n : ℕ) → n + 1 ≡ suc n
    next n = omega arith

    one : (n : ℕ) → 1 + n ≡ suc n
    one n = omega arith

-- a count that has come to its end
pub to_end : (n m : ℕ) → n ≤ m → m ≤ n → n ≡ m
to_end n m p q = omega arith
