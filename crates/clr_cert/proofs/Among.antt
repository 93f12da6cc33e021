-- Which places are among a season's, and the first place in a list that passes a test.
use Rattle.std.proofs.Common.{◌≡◌, ℕ, ◌+◌, ◌-◌, ◌<◌, ◌≤◌, Bool, true, false, not, cond, ◌==◌, ◌&&◌, refl, sym, ap, ap₂, ◌∙◌, subst, arith, suc, zero, List, [], ◌∷◌, ◌++◌, length, map, slice_get, Some, IsTrue, eqb→eq, eq-eqb, nat_lt}
use Rattle.std.specs.Bool.{passes}
use Rattle.std.specs.List.{flat_map, position_or_len}
use Rattle.std.proofs.lemmas.Bool.{and_parts, and_from}
use Rattle.std.proofs.lemmas.Option.{slice_get_within}
use Rattle.clr_num.specs.Lists.{numbers}
use Rattle.clr_rules.specs.declared.season_rules.Summary.{Summary}
use Rattle.clr_rules.specs.LiveSummaries.{live_summaries, same_summary}
use Rattle.clr_rules.proofs.LiveLists.{same_is, same_self}
use Rattle.clr_season.specs.Season.{Season}
use Rattle.clr_model.specs.Fits.{fits, stock_lists}
use Rattle.clr_cert.specs.declared.place.Place.{Place}
use Rattle.clr_cert.specs.declared.place.Place.TheVariants.{Head, Lengths, Path, Mult, Low, High, Value, Joint, Revenue, Bound, Exact, End}
use Rattle.clr_cert.specs.Places.{countdown, has_lengths, high_places, low_places, mult_places, places, rung_numbers, store_numbers, value_places, week_numbers, week_places}
use Rattle.clr_cert.specs.Reading.{row_of, same_place}

-- ---- items of a list

-- an item stands in a list
pub record Among {X : Type 0} (xs : List X) (x : X) : Type 0 where
  pub at : ℕ
  pub here : slice_get xs at ≡ Some x

pub among_head : {X : Type 0} (x : X) (xs : List X) → Among (x ∷ xs) x
among_head x xs = record { at = 0; here = refl }

pub among_tail : {X : Type 0} (y : X) (xs : List X) (x : X) → Among xs x → Among (y ∷ xs) x
among_tail y xs x h = record { at = suc h.at; here = h.here }

pub among_left : {X : Type 0} (xs ys : List X) (x : X) → Among xs x → Among (xs ++ ys) x
among_left {X = X} xs ys x h = go xs h.at h.here
  where
    go : (xs : List X) (k : ℕ) → slice_get xs k ≡ Some x → Among (xs ++ ys) x
    go [] k e = cc
    go (y ∷ xs) zero e = record { at = 0; here = e }
    go (y ∷ xs) (suc k) e = among_tail y (xs ++ ys) x (go xs k e)

pub among_right : {X : Type 0} (xs ys : List X) (x : X) → Among ys x → Among (xs ++ ys) x
among_right [] ys x h = h
among_right (y ∷ xs) ys x h = among_tail y (xs ++ ys) x (among_right xs ys x h)

pub among_map : {X Y : Type 0} (f : X → Y) (xs : List X) (x : X) → Among xs x → Among (map f xs) (f x)
among_map {X = X} f xs x h = go xs h.at h.here
  where
    go : (xs : List X) (k : ℕ) → slice_get xs k ≡ Some x → Among (map f xs) (f x)
    go [] k e = cc
    go (y ∷ xs) zero e = let same : y ≡ x = cc in record { at = 0; here = ap (λ z. Some (f z)) same }
    go (y ∷ xs) (suc k) e = among_tail (f y) (map f xs) (f x) (go xs k e)

pub among_flat_map : {X Y : Type 0} (f : X → List Y) (xs : List X) (x : X) (y : Y) → Among xs x → Among (f x) y → Among (flat_map f xs) y
among_flat_map {X = X} f xs x y h in_it = go xs h.at h.here
  where
    go : (xs : List X) (k : ℕ) → slice_get xs k ≡ Some x → Among (flat_map f xs) y
    go [] k e = cc
    go (z ∷ xs) zero e = let same : x ≡ z = cc in among_left (f z) (flat_map f xs) y (subst (λ t. Among (f t) y) same in_it)
    go (z ∷ xs) (suc k) e = among_right (f z) (flat_map f xs) y (go xs k e)

pub among_numbers : (from count n : ℕ) → from ≤ n → n < from + count → Among (numbers from count) n
among_numbers from count n low high = go from count (n - from) (omega arith) (omega arith)
  where
    go : (from count k : ℕ) → k < count → n ≡ from + k → Among (numbers from count) n
    go from zero k less e = absurd (omega arith)
    go from (suc count) zero less e = record { at = 0; here = let same : from ≡ n = omega arith in ap Some same }
    go from (suc count) (suc k) less e = among_tail from (numbers (suc from) count) n (go (suc from) count k (omega arith) (omega arith))

pub among_countdown : (most n : ℕ) → n ≤ most → Among (countdown most) n
among_countdown zero n h = record { at = 0; here = let same : 0 ≡ n = omega arith in ap Some same }
among_countdown (suc most) n h = go (n == suc most) refl (among_countdown most n)
  where
    go : (b : Bool) → (n == suc most) ≡ b → (n ≤ most → Among (countdown most) n) → Among (countdown (suc most)) n
    go true e later = record { at = 0; here = ap Some (sym (eqb→eq n (suc most) (passes _ e))) }
    go false e later = among_tail (suc most) (countdown most) n (later (less e))
      where
        less : (n == suc most) ≡ false → n ≤ most
        less e = grind arith

-- ---- the places of a season

module _ (season : Season) where
  in_front : (place : Place) → Among (Path ∷ (mult_places season ++ (flat_map (week_places season) (countdown season.rules.weeks) ++ (Revenue ∷ Bound ∷ cond (fits season) (Exact ∷ []) [])))) place → Among (places season) place
  unfolding places
  in_front place h = among_tail Head _ place (among_right (cond (has_lengths season) (Lengths ∷ []) []) _ place h)

  pub path_place : Among (places season) Path
  path_place = in_front Path (among_head Path _)

  pub mult_place : (week rung : ℕ) → 1 ≤ week → week ≤ season.rules.weeks → 1 ≤ rung → rung ≤ length season.rules.prices → Among (places season) (Mult week rung)
  mult_place week rung a b c d =
      in_front (Mult week rung) (among_tail Path _ (Mult week rung) (among_left (mult_places season) _ (Mult week rung)
      (among_flat_map (λ w. map (λ r. Mult w r) (rung_numbers season)) (week_numbers season) week (Mult week rung) (among_numbers 1 season.rules.weeks week a (omega arith))
      (among_map (λ r. Mult week r) (rung_numbers season) rung (among_numbers 1 (length season.rules.prices) rung c (omega arith))))))

  in_week : (done : ℕ) (place : Place) → done ≤ season.rules.weeks → Among (week_places season done) place → Among (places season) place
  in_week done place early h =
      in_front place (among_tail Path _ place (among_right (mult_places season) _ place (among_left (flat_map (week_places season) (countdown season.rules.weeks)) _ place
      (among_flat_map (week_places season) (countdown season.rules.weeks) done place (among_countdown season.rules.weeks done early) h))))

  pub low_place : (done store : ℕ) → done ≤ season.rules.weeks → 1 ≤ store → store ≤ length season.stores → Among (places season) (Low done store)
  low_place done store early a b =
      in_week done (Low done store) early (among_left (low_places season done) _ (Low done store)
      (among_map (λ s. Low done s) (store_numbers season) store (among_numbers 1 (length season.stores) store a (omega arith))))

  pub high_place : (done store : ℕ) → done ≤ season.rules.weeks → 1 ≤ store → store ≤ length season.stores → Among (places season) (High done store)
  high_place done store early a b =
      in_week done (High done store) early (among_right (low_places season done) _ (High done store) (among_left (high_places season done) _ (High done store)
      (among_map (λ s. High done s) (store_numbers season) store (among_numbers 1 (length season.stores) store a (omega arith)))))

  pub value_place : (done store : ℕ) (s : Summary) → done ≤ season.rules.weeks → 1 ≤ store → store ≤ length season.stores → Among (live_summaries season.rules done) s → Among (places season) (Value done store s)
  value_place done store s early a b live =
      in_week done (Value done store s) early (among_right (low_places season done) _ (Value done store s) (among_right (high_places season done) _ (Value done store s) (among_left (value_places season done) _ (Value done store s)
      (among_flat_map (λ n. map (λ t. Value done n t) (live_summaries season.rules done)) (store_numbers season) store (Value done store s) (among_numbers 1 (length season.stores) store a (omega arith))
      (among_map (λ t. Value done store t) (live_summaries season.rules done) s live)))))

  pub joint_place : (done : ℕ) (s : Summary) (index : ℕ) → IsTrue (fits season) → done ≤ season.rules.weeks → Among (live_summaries season.rules done) s → index < stock_lists season.stores → Among (places season) (Joint done s index)
  joint_place done s index fit early live less =
      in_week done (Joint done s index) early (among_right (low_places season done) _ (Joint done s index) (among_right (high_places season done) _ (Joint done s index) (among_right (value_places season done) _ (Joint done s index)
      (subst (λ b. Among (cond b (flat_map (λ t. map (λ i. Joint done t i) (numbers 0 (stock_lists season.stores))) (live_summaries season.rules done)) []) (Joint done s index)) (sym fit)
      (among_flat_map (λ t. map (λ i. Joint done t i) (numbers 0 (stock_lists season.stores))) (live_summaries season.rules done) s (Joint done s index) live
      (among_map (λ i. Joint done s i) (numbers 0 (stock_lists season.stores)) index (among_numbers 0 (stock_lists season.stores) index (omega arith) (omega arith))))))))

  in_end : (place : Place) → Among (Revenue ∷ Bound ∷ cond (fits season) (Exact ∷ []) []) place → Among (places season) place
  in_end place h = in_front place (among_tail Path _ place (among_right (mult_places season) _ place (among_right (flat_map (week_places season) (countdown season.rules.weeks)) _ place h)))

  pub revenue_place : Among (places season) Revenue
  revenue_place = in_end Revenue (among_head Revenue _)

  pub bound_place : Among (places season) Bound
  bound_place = in_end Bound (among_tail Revenue _ Bound (among_head Bound _))

  pub exact_place : IsTrue (fits season) → Among (places season) Exact
  exact_place fit = in_end Exact (among_tail Revenue _ Exact (among_tail Bound _ Exact (subst (λ b. Among (cond b (Exact ∷ []) []) Exact) (sym fit) (among_head Exact []))))

-- ---- the first that passes

pub record FirstPassing {X : Type 0} (test : X → Bool) (xs : List X) : Type 0 where
  pub item : X
  pub here : slice_get xs (position_or_len test xs) ≡ Some item
  pub passing : test item ≡ true

pub first_passing : {X : Type 0} (test : X → Bool) (xs : List X) (x : X) → Among xs x → test x ≡ true → FirstPassing test xs
first_passing {X = X} test xs x h good = go xs h.at h.here
  where
    go : (xs : List X) (k : ℕ) → slice_get xs k ≡ Some x → FirstPassing test xs
    go [] k e = cc
    go (y ∷ xs) k e = by_test (test y) refl k e (λ i. go xs i)
      where
        by_test : (b : Bool) → test y ≡ b → (k : ℕ) → slice_get (y ∷ xs) k ≡ Some x → ((i : ℕ) → slice_get xs i ≡ Some x → FirstPassing test xs) → FirstPassing test (y ∷ xs)
        by_test true is k e later = record { item = y; here = ap (λ b. slice_get (y ∷ xs) (cond (not b) (1 + position_or_len test xs) 0)) is; passing = is }
        by_test false is zero e later = let same : y ≡ x = cc in let clash : true ≡ false = sym good ∙ (ap test (sym same) ∙ is) in cc
        by_test false is (suc k) e later =
            let rest : FirstPassing test xs = later k e in
            let more : 1 + position_or_len test xs ≡ suc (position_or_len test xs) = omega arith in
            record { item = rest.item; here = ap (λ b. slice_get (y ∷ xs) (cond (not b) (1 + position_or_len test xs) 0)) is ∙ (ap (slice_get (y ∷ xs)) more ∙ rest.here); passing = rest.passing }

same_numbers : (a b : ℕ) → (a == b) ≡ true → a ≡ b
same_numbers a b h = eqb→eq a b (passes _ h)

-- places that pass the test are one
pub same_place_is : (p q : Place) → same_place p q ≡ true → p ≡ q
same_place_is Head Head h = refl
same_place_is Lengths Lengths h = refl
same_place_is Path Path h = refl
same_place_is (Mult w r) (Mult w' r') h = let parts = and_parts (w == w') (r == r') h in ap₂ (λ a b. Mult a b) (same_numbers w w' parts.0) (same_numbers r r' parts.1)
same_place_is (Low d s) (Low d' s') h = let parts = and_parts (d == d') (s == s') h in ap₂ (λ a b. Low a b) (same_numbers d d' parts.0) (same_numbers s s' parts.1)
same_place_is (High d s) (High d' s') h = let parts = and_parts (d == d') (s == s') h in ap₂ (λ a b. High a b) (same_numbers d d' parts.0) (same_numbers s s' parts.1)
same_place_is (Value d n s) (Value d' n' s') h =
    let one = and_parts (d == d') ((n == n') && same_summary s s') h in
    let two = and_parts (n == n') (same_summary s s') one.1 in
    ap₂ (λ a b. Value a b s) (same_numbers d d' one.0) (same_numbers n n' two.0) ∙ ap (λ t. Value d' n' t) (same_is s s' two.1)
same_place_is (Joint d s i) (Joint d' s' i') h =
    let one = and_parts (d == d') (same_summary s s' && (i == i')) h in
    let two = and_parts (same_summary s s') (i == i') one.1 in
    ap₂ (λ a b. Joint a s b) (same_numbers d d' one.0) (same_numbers i i' two.1) ∙ ap (λ t. Joint d' t i') (same_is s s' two.0)
same_place_is Revenue Revenue h = refl
same_place_is Bound Bound h = refl
same_place_is Exact Exact h = refl
same_place_is End End h = refl
same_place_is _ _ h = cc

same_number : (a : ℕ) → (a == a) ≡ true
same_number a = eq-eqb a a refl

pub same_place_self : (p : Place) → same_place p p ≡ true
same_place_self Head = refl
same_place_self Lengths = refl
same_place_self Path = refl
same_place_self (Mult w r) = and_from _ _ (same_number w) (same_number r)
same_place_self (Low d s) = and_from _ _ (same_number d) (same_number s)
same_place_self (High d s) = and_from _ _ (same_number d) (same_number s)
same_place_self (Value d n s) = and_from _ _ (same_number d) (and_from _ _ (same_number n) (same_self s))
same_place_self (Joint d s i) = and_from _ _ (same_number d) (and_from _ _ (same_self s) (same_number i))
same_place_self Revenue = refl
same_place_self Bound = refl
same_place_self Exact = refl
same_place_self End = refl

-- a place whose row is found is among the season's
pub among_found : (season : Season) (place : Place) → position_or_len (same_place place) (places season) < length (places season) → Among (places season) place
among_found season place h = go (places season) h
  where
    go : (xs : List Place) → position_or_len (same_place place) xs < length xs → Among xs place
    go [] h = absurd (none h)
      where
        none : zero < zero → ⊥
        none h = omega arith
    go (x ∷ xs) h = by (same_place place x) refl (go xs)
      where
        by : (b : Bool) → same_place place x ≡ b → (position_or_len (same_place place) xs < length xs → Among xs place) → Among (x ∷ xs) place
        by true e later = record { at = 0; here = ap Some (sym (same_place_is place x e)) }
        by false e later = among_tail x xs place (later (less (subst (λ b. cond (not b) (1 + position_or_len (same_place place) xs) 0 < suc (length xs)) e h)))
          where
            less : 1 + position_or_len (same_place place) xs < suc (length xs) → position_or_len (same_place place) xs < length xs
            less h = omega arith

-- ---- the row of a place

-- the line of a place is the first that has it
pub row_is : (season : Season) (place : Place) → Among (places season) place → slice_get (places season) (row_of season place) ≡ Some place
row_is season place h =
    let first : FirstPassing (same_place place) (places season) = first_passing (same_place place) (places season) place h (same_place_self place) in
    first.here ∙ ap Some (sym (same_place_is place first.item first.passing))

pub row_inside : (season : Season) (place : Place) → Among (places season) place → nat_lt (row_of season place) (length (places season)) ≡ true
row_inside season place h = let less : row_of season place < length (places season) = slice_get_within (places season) (row_of season place) place (row_is season place h) in grind arith
