-- Each place of a season's certificate has one line, and lines of an earlier stage come first.
use Rattle.std.proofs.Common.{◌≡◌, ℕ, ◌+◌, ◌-◌, ◌<◌, ◌≤◌, Bool, true, false, cond, ◌==◌, refl, sym, ap, ◌∙◌, subst, subst₂, arith, suc, zero, List, [], ◌∷◌, ◌++◌, length, map, get_or, slice_get, Some, None, Option, length-append, nat_lt, ◌⊎◌, inl, inr}
use Rattle.std.specs.List.{AllByRecursion, filter, flat_map}
use Rattle.std.proofs.lemmas.Option.{get_or_from_slice_get, slice_get_within, slice_get-get_or}
use Rattle.clr_num.specs.Lists.{numbers}
use Rattle.clr_rules.specs.declared.season_rules.Summary.{Summary}
use Rattle.clr_rules.specs.LiveSummaries.{is_live_summary, live_summaries, summaries}
use Rattle.clr_rules.specs.Rules.{Rulebook}
use Rattle.clr_rules.proofs.Sweeps.{one_place}
use Rattle.clr_season.specs.Season.{Season, IsSeason}
use Rattle.clr_model.specs.Fits.{fits, stock_lists}
use Rattle.clr_cert.specs.declared.place.Place.{Place}
use Rattle.clr_cert.specs.declared.place.Place.TheVariants.{Head, Lengths, Path, Mult, Low, High, Value, Joint, Revenue, Bound, Exact, End}
use Rattle.clr_cert.specs.Places.{countdown, has_lengths, high_places, joint_places, low_places, mult_places, places, rung_numbers, store_numbers, value_places, walk, week_numbers, week_places}
use Rattle.clr_cert.specs.Steps.{after_joint, after_value, after_week, first_live, joint_or_after, value_or_after}
use Rattle.clr_cert.specs.Reading.{row_of}
use Rattle.clr_cert.proofs.Walking.{IsNext, walk_next}
use Rattle.clr_check.specs.Standing.{is_end}
use Rattle.clr_cert.proofs.Among.{Among, row_is}

-- ---- lists without repetition

-- an item stands at one place alone
abbrev pub Once : {X : Type 0} → List X → Type 0
Once {X} xs = (i j : ℕ) (x : X) → slice_get xs i ≡ Some x → slice_get xs j ≡ Some x → i ≡ j

-- where an item that a filter keeps stood before
kept_at : {X : Type 0} (test : X → Bool) (xs : List X) (k : ℕ) (x : X) → slice_get (filter test xs) k ≡ Some x → (i : ℕ) × (slice_get xs i ≡ Some x)
kept_at test [] k x h = cc
kept_at {X = X} test (y ∷ xs) k x h = go (test y) refl k h (λ n. kept_at test xs n x)
  where
    go : (b : Bool) → test y ≡ b → (k : ℕ) → slice_get (cond (test y) (y ∷ filter test xs) (filter test xs)) k ≡ Some x → ((n : ℕ) → slice_get (filter test xs) n ≡ Some x → (i : ℕ) × (slice_get xs i ≡ Some x)) → (i : ℕ) × (slice_get (y ∷ xs) i ≡ Some x)
    go true e zero h later = (0, sym (ap (λ b. slice_get (cond b (y ∷ filter test xs) (filter test xs)) zero) e) ∙ h)
    go true e (suc k) h later = let rest = later k (sym (ap (λ b. slice_get (cond b (y ∷ filter test xs) (filter test xs)) (suc k)) e) ∙ h) in (suc rest.0, rest.1)
    go false e k h later = let rest = later k (sym (ap (λ b. slice_get (cond b (y ∷ filter test xs) (filter test xs)) k) e) ∙ h) in (suc rest.0, rest.1)

once_tail : {X : Type 0} (y : X) (xs : List X) → Once (y ∷ xs) → Once xs
once_tail y xs once i j x p q = let e : suc i ≡ suc j = once (suc i) (suc j) x p q in omega arith

once_filter : {X : Type 0} (test : X → Bool) (xs : List X) → Once xs → Once (filter test xs)
once_filter test [] once i j x p q = cc
once_filter {X = X} test (y ∷ xs) once i j x p q = go (test y) refl i j p q (once_filter test xs (once_tail y xs once))
  where
    clash : (k : ℕ) → slice_get (filter test xs) k ≡ Some x → y ≡ x → ⊥
    clash k h same =
        let at = kept_at test xs k x h in
        let e : 0 ≡ suc at.0 = once 0 (suc at.0) x (ap Some same) at.1 in omega arith

    here : y ≡ y → slice_get (y ∷ filter test xs) zero ≡ Some x → y ≡ x
    here _ h = cc

    by_index : (i j : ℕ) → slice_get (y ∷ filter test xs) i ≡ Some x → slice_get (y ∷ filter test xs) j ≡ Some x → Once (filter test xs) → i ≡ j
    by_index zero zero p q later = refl
    by_index zero (suc j) p q later = absurd (clash j q (here refl p))
    by_index (suc i) zero p q later = absurd (clash i p (here refl q))
    by_index (suc i) (suc j) p q later = ap suc (later i j x p q)

    go : (b : Bool) → test y ≡ b → (i j : ℕ) → slice_get (cond (test y) (y ∷ filter test xs) (filter test xs)) i ≡ Some x → slice_get (cond (test y) (y ∷ filter test xs) (filter test xs)) j ≡ Some x → Once (filter test xs) → i ≡ j
    go true e i j p q later = by_index i j (sym (ap (λ b. slice_get (cond b (y ∷ filter test xs) (filter test xs)) i) e) ∙ p) (sym (ap (λ b. slice_get (cond b (y ∷ filter test xs) (filter test xs)) j) e) ∙ q) later
    go false e i j p q later = later i j x (sym (ap (λ b. slice_get (cond b (y ∷ filter test xs) (filter test xs)) i) e) ∙ p) (sym (ap (λ b. slice_get (cond b (y ∷ filter test xs) (filter test xs)) j) e) ∙ q)

pub live_once : (rules : Rulebook) (done : ℕ) → Once (live_summaries rules done)
live_once rules done = once_filter (is_live_summary rules done) (summaries rules) (λ i j s p q. (one_place rules i s p).1 ∙ sym (one_place rules j s q).1)

-- ---- what comes next is one

one_next : (season : Season) (x y z : Place) → IsNext season x y → IsNext season x z → y ≡ z
one_next season Head y z p q = p.after ∙ sym q.after
one_next season Lengths y z p q = p.after ∙ sym q.after
one_next season Path y z p q = p.after ∙ sym q.after
one_next season (Mult week rung) y z p q = p.after ∙ sym q.after
one_next season (Low done store) y z p q = p.after ∙ sym q.after
one_next season (High done store) y z p q = p.after ∙ sym q.after
one_next season (Value done store s) y z p q =
    let at : p.after.at ≡ q.after.at = live_once season.rules done p.after.at q.after.at s p.after.here q.after.here in
    p.after.next ∙ (ap (λ n. after_value season done store (slice_get (live_summaries season.rules done) (suc n))) at ∙ sym q.after.next)
one_next season (Joint done s index) y z p q =
    let at : p.after.at ≡ q.after.at = live_once season.rules done p.after.at q.after.at s p.after.here q.after.here in
    p.after.next ∙ (ap (λ n. after_joint season done s index (slice_get (live_summaries season.rules done) (suc n))) at ∙ sym q.after.next)
one_next season Revenue y z p q = p.after ∙ sym q.after
one_next season Bound y z p q = p.after ∙ sym q.after
one_next season Exact y z p q = p.after ∙ sym q.after
one_next season End y z p q = p.after ∙ sym q.after

-- ---- no place of a line is the end

all_append : {X : Type 0} (P : X → Type 0) (xs ys : List X) → AllByRecursion P xs → AllByRecursion P ys → AllByRecursion P (xs ++ ys)
all_append P [] ys p q = q
all_append P (x ∷ xs) ys p q = (p.0, all_append P xs ys p.1 q)

all_map : {X Y : Type 0} (P : Y → Type 0) (f : X → Y) (xs : List X) → ((x : X) → P (f x)) → AllByRecursion P (map f xs)
all_map P f [] h = tt
all_map P f (x ∷ xs) h = (h x, all_map P f xs h)

all_flat_map : {X Y : Type 0} (P : Y → Type 0) (f : X → List Y) (xs : List X) → ((x : X) → AllByRecursion P (f x)) → AllByRecursion P (flat_map f xs)
all_flat_map P f [] h = tt
all_flat_map P f (x ∷ xs) h = all_append P (f x) (flat_map f xs) (h x) (all_flat_map P f xs h)

abbrev Goes : Place → Type 0
Goes place = is_end place ≡ false

week_goes : (season : Season) (done : ℕ) → AllByRecursion Goes (week_places season done)
week_goes season done =
    all_append Goes (low_places season done) _ (all_map Goes (λ s. Low done s) (store_numbers season) (λ s. refl))
    (all_append Goes (high_places season done) _ (all_map Goes (λ s. High done s) (store_numbers season) (λ s. refl))
    (all_append Goes (value_places season done) (joint_places season done)
    (all_flat_map Goes (λ n. map (λ t. Value done n t) (live_summaries season.rules done)) (store_numbers season) (λ n. all_map Goes (λ t. Value done n t) (live_summaries season.rules done) (λ t. refl)))
    (joints (fits season))))
  where
    joints : (b : Bool) → AllByRecursion Goes (cond b (flat_map (λ t. map (λ i. Joint done t i) (numbers 0 (stock_lists season.stores))) (live_summaries season.rules done)) [])
    joints true = all_flat_map Goes (λ t. map (λ i. Joint done t i) (numbers 0 (stock_lists season.stores))) (live_summaries season.rules done) (λ t. all_map Goes (λ i. Joint done t i) (numbers 0 (stock_lists season.stores)) (λ i. refl))
    joints false = tt

all_go : (season : Season) → AllByRecursion Goes (places season)
unfolding places
all_go season = (
  refl,
  all_append Goes (cond (has_lengths season) (Lengths ∷ []) []) _ (heads (has_lengths season)) (
    refl,
    all_append Goes (mult_places season) _
        (all_flat_map Goes (λ w. map (λ r. Mult w r) (rung_numbers season)) (week_numbers season) (λ w. all_map Goes (λ r. Mult w r) (rung_numbers season) (λ r. refl)))
        (all_append Goes (flat_map (week_places season) (countdown season.rules.weeks)) _ (all_flat_map Goes (week_places season) (countdown season.rules.weeks) (week_goes season)) (refl, (refl, lasts (fits season)))),
  ),
)
  where
    heads : (b : Bool) → AllByRecursion Goes (cond b (Lengths ∷ []) [])
    heads true = (refl, tt)
    heads false = tt

    lasts : (b : Bool) → AllByRecursion Goes (cond b (Exact ∷ []) [])
    lasts true = (refl, tt)
    lasts false = tt

-- ---- one line for each place

append_left : {X : Type 0} (xs ys : List X) (k : ℕ) (x : X) → slice_get xs k ≡ Some x → slice_get (xs ++ ys) k ≡ Some x
append_left [] ys k x h = cc
append_left (y ∷ xs) ys zero x h = h
append_left (y ∷ xs) ys (suc k) x h = append_left xs ys k x h

append_end : {X : Type 0} (xs : List X) (y : X) → slice_get (xs ++ y ∷ []) (length xs) ≡ Some y
append_end [] y = refl
append_end (x ∷ xs) y = append_end xs y

pub walk_place : (season : Season) (row : ℕ) (place : Place) → slice_get (places season) row ≡ Some place → slice_get (walk season) row ≡ Some place
walk_place season row place h = append_left (places season) (End ∷ []) row place h

pub walk_end : (season : Season) → slice_get (walk season) (length (places season)) ≡ Some End
walk_end season = append_end (places season) End

pub goes_at : (season : Season) (row : ℕ) (place : Place) → slice_get (places season) row ≡ Some place → is_end place ≡ false
goes_at season row place h = go (places season) row (all_go season) h
  where
    go : (xs : List Place) (k : ℕ) → AllByRecursion Goes xs → slice_get xs k ≡ Some place → is_end place ≡ false
    go [] k all h = cc
    go (x ∷ xs) zero all h = let same : x ≡ place = cc in subst Goes same all.0
    go (x ∷ xs) (suc k) all h = go xs k all.1 h

pub length_walk : (season : Season) → length (walk season) ≡ suc (length (places season))
length_walk season = let e : length (walk season) ≡ length (places season) + length (End ∷ []) = length-append (places season) (End ∷ []) in omega (arith, e)

-- two rows with one place go on alike
alike : (season : Season) (i j k : ℕ) → IsSeason season → i ≤ j → get_or (walk season) i End ≡ get_or (walk season) j End → j + k ≤ length (places season) → get_or (walk season) (i + k) End ≡ get_or (walk season) (j + k) End
alike season i j zero ok le same less = let a : i + 0 ≡ i = omega arith in let b : j + 0 ≡ j = omega arith in ap (λ n. get_or (walk season) n End) a ∙ (same ∙ ap (λ n. get_or (walk season) n End) (sym b))
alike season i j (suc k) ok le same less =
    let before : get_or (walk season) (i + k) End ≡ get_or (walk season) (j + k) End = alike season i j k ok le same (omega arith) in
    let size : length (walk season) ≡ suc (length (places season)) = length_walk season in
    let p : IsNext season (get_or (walk season) (i + k) End) (get_or (walk season) (i + k + 1) End) = walk_next season (get_or (walk season) (i + k) End) (i + k) ok (slice_get-get_or (walk season) (i + k) End (omega arith)) in
    let q : IsNext season (get_or (walk season) (j + k) End) (get_or (walk season) (j + k + 1) End) = walk_next season (get_or (walk season) (j + k) End) (j + k) ok (slice_get-get_or (walk season) (j + k) End (omega arith)) in
    let a : i + suc k ≡ i + k + 1 = omega arith in
    let b : j + suc k ≡ j + k + 1 = omega arith in
    ap (λ n. get_or (walk season) n End) a ∙ (one_next season (get_or (walk season) (i + k) End) _ _ p (subst (λ x. IsNext season x (get_or (walk season) (j + k + 1) End)) (sym before) q) ∙ ap (λ n. get_or (walk season) n End) (sym b))

no_two : (season : Season) (i j : ℕ) (place : Place) → IsSeason season → i < j → slice_get (places season) i ≡ Some place → slice_get (places season) j ≡ Some place → ⊥
no_two season i j place ok less p q =
    let inside : j < length (places season) = slice_get_within (places season) j place q in
    let k : ℕ = length (places season) - j in
    let both : get_or (walk season) i End ≡ get_or (walk season) j End = get_or_from_slice_get (walk season) i place End (walk_place season i place p) ∙ sym (get_or_from_slice_get (walk season) j place End (walk_place season j place q)) in
    let on : get_or (walk season) (i + k) End ≡ get_or (walk season) (j + k) End = alike season i j k ok (omega arith) both (omega arith) in
    let at : j + k ≡ length (places season) = omega arith in
    let there : get_or (walk season) (j + k) End ≡ End = ap (λ n. get_or (walk season) n End) at ∙ get_or_from_slice_get (walk season) (length (places season)) End End (walk_end season) in
    let here : slice_get (places season) (i + k) ≡ Some (get_or (places season) (i + k) End) = slice_get-get_or (places season) (i + k) End (omega arith) in
    let goes : is_end (get_or (places season) (i + k) End) ≡ false = goes_at season (i + k) (get_or (places season) (i + k) End) here in
    let same : get_or (walk season) (i + k) End ≡ get_or (places season) (i + k) End = get_or_from_slice_get (walk season) (i + k) (get_or (places season) (i + k) End) End (walk_place season (i + k) _ here) in
    let clash : true ≡ false = sym (ap is_end (sym same ∙ (on ∙ there))) ∙ goes in cc

pub row_at : (season : Season) (row : ℕ) (place : Place) → IsSeason season → slice_get (places season) row ≡ Some place → row_of season place ≡ row
row_at season row place ok h =
    let there : slice_get (places season) (row_of season place) ≡ Some place = row_is season place (record { at = row; here = h }) in
    equal (row_of season place) row (λ l. no_two season (row_of season place) row place ok l there h) (λ l. no_two season row (row_of season place) place ok l h there)
  where
    equal : (a b : ℕ) → (a < b → ⊥) → (b < a → ⊥) → a ≡ b
    equal a b p q = grind arith

-- ---- stages

-- how far on a line stands: the head, the path, the multipliers, the values week by week from the last, the totals
abbrev pub stage : Season → Place → ℕ
stage season Head = 0
stage season Lengths = 1
stage season Path = 2
stage season (Mult week rung) = 3
stage season (Low done store) = 4 + (season.rules.weeks - done)
stage season (High done store) = 4 + (season.rules.weeks - done)
stage season (Value done store s) = 4 + (season.rules.weeks - done)
stage season (Joint done s index) = 4 + (season.rules.weeks - done)
stage season Revenue = 5 + season.rules.weeks
stage season Bound = 6 + season.rules.weeks
stage season Exact = 7 + season.rules.weeks
stage season End = 8 + season.rules.weeks

by_bool : (P : Place → Type 0) (b : Bool) (x y : Place) → P x → P y → P (cond b x y)
by_bool P true x y p q = p
by_bool P false x y p q = q

abbrev AtLeastAt : Season → ℕ → Place → Type 0
AtLeastAt season n y = n ≤ stage season y

week_rises : (season : Season) (done n : ℕ) → done ≤ season.rules.weeks → n ≤ 4 + (season.rules.weeks - done) → AtLeastAt season n (after_week done)
week_rises season done n early h = by_bool (AtLeastAt season n) (done == 0) Revenue (Low (done - 1) 1) (omega arith) (omega arith)

joint_rises : (season : Season) (done n : ℕ) (next : Option Summary) → done ≤ season.rules.weeks → n ≤ 4 + (season.rules.weeks - done) → AtLeastAt season n (joint_or_after season done next)
joint_rises season done n None early h = week_rises season done n early h
joint_rises season done n (Some s) early h = by_bool (AtLeastAt season n) (fits season) (Joint done s 0) (after_week done) h (week_rises season done n early h)

value_rises : (season : Season) (done store n : ℕ) (next : Option Summary) → done ≤ season.rules.weeks → n ≤ 4 + (season.rules.weeks - done) → AtLeastAt season n (value_or_after season done store next)
value_rises season done store n None early h = joint_rises season done n (first_live season done) early h
value_rises season done store n (Some s) early h = h

after_value_rises : (season : Season) (done store n : ℕ) (next : Option Summary) → done ≤ season.rules.weeks → n ≤ 4 + (season.rules.weeks - done) → AtLeastAt season n (after_value season done store next)
after_value_rises season done store n (Some s) early h = h
after_value_rises season done store n None early h =
    by_bool (AtLeastAt season n) (nat_lt store (length season.stores)) (value_or_after season done (store + 1) (first_live season done)) (joint_or_after season done (first_live season done))
    (value_rises season done (store + 1) n (first_live season done) early h) (joint_rises season done n (first_live season done) early h)

pub next_rises : (season : Season) (x y : Place) → IsNext season x y → stage season x ≤ stage season y
next_rises season Head y h = omega arith
next_rises season Lengths y h = rw h.after (omega arith)
next_rises season Path y h = rw h.after (omega arith)
next_rises season (Mult week rung) y h =
    rw h.after (by_bool (AtLeastAt season 3) (nat_lt rung (length season.rules.prices)) (Mult week (rung + 1)) _ (omega arith)
    (by_bool (AtLeastAt season 3) (nat_lt week season.rules.weeks) (Mult (week + 1) 1) (Low season.rules.weeks 1) (omega arith) (omega arith)))
next_rises season (Low done store) y h =
    rw h.after (by_bool (AtLeastAt season (4 + (season.rules.weeks - done))) (nat_lt store (length season.stores)) (Low done (store + 1)) (High done 1) (omega arith) (omega arith))
next_rises season (High done store) y h =
    rw h.after (by_bool (AtLeastAt season (4 + (season.rules.weeks - done))) (nat_lt store (length season.stores)) (High done (store + 1)) _ (omega arith)
    (value_rises season done 1 (4 + (season.rules.weeks - done)) (first_live season done) h.within.early (omega arith)))
next_rises season (Value done store s) y h =
    rw h.after.next (after_value_rises season done store (4 + (season.rules.weeks - done)) (slice_get (live_summaries season.rules done) (suc h.after.at)) h.within.0.early (omega arith))
next_rises season (Joint done s index) y h =
    rw h.after.next (by_bool (AtLeastAt season (4 + (season.rules.weeks - done))) (nat_lt (index + 1) (stock_lists season.stores)) (Joint done s (index + 1)) _ (omega arith)
    (joint_rises season done (4 + (season.rules.weeks - done)) (slice_get (live_summaries season.rules done) (suc h.after.at)) h.within.early (omega arith)))
next_rises season Revenue y h = rw h.after (omega arith)
next_rises season Bound y h = rw h.after (by_bool (AtLeastAt season (6 + season.rules.weeks)) (fits season) Exact End (omega arith) (omega arith))
next_rises season Exact y h = rw h.after (omega arith)
next_rises season End y h = rw h.after (omega arith)

pub rises : (season : Season) (i k : ℕ) → IsSeason season → i + k ≤ length (places season) → stage season (get_or (walk season) i End) ≤ stage season (get_or (walk season) (i + k) End)
rises season i zero ok less = let a : i + 0 ≡ i = omega arith in rw a (omega arith)
rises season i (suc k) ok less =
    let size : length (walk season) ≡ suc (length (places season)) = length_walk season in
    let before : stage season (get_or (walk season) i End) ≤ stage season (get_or (walk season) (i + k) End) = rises season i k ok (omega arith) in
    let step : stage season (get_or (walk season) (i + k) End) ≤ stage season (get_or (walk season) (i + k + 1) End) = next_rises season _ _ (walk_next season (get_or (walk season) (i + k) End) (i + k) ok (slice_get-get_or (walk season) (i + k) End (omega arith))) in
    let a : i + suc k ≡ i + k + 1 = omega arith in
    rw a (chain before step)
  where
    chain : {a b c : ℕ} → a ≤ b → b ≤ c → a ≤ c
    chain p q = omega arith

-- lines of an earlier stage have come before this row
pub come_before : (season : Season) (row : ℕ) (place other : Place) → IsSeason season → slice_get (walk season) row ≡ Some place → Among (places season) other → stage season other < stage season place → row_of season other < row
come_before season row place other ok here among less =
    let there : slice_get (places season) (row_of season other) ≡ Some other = row_is season other among in
    let size : length (walk season) ≡ suc (length (places season)) = length_walk season in
    let inside : row < length (walk season) = slice_get_within (walk season) row place here in
    let within : row_of season other < length (places season) = slice_get_within (places season) (row_of season other) other there in
    let is_place : get_or (walk season) row End ≡ place = get_or_from_slice_get (walk season) row place End here in
    let is_other : get_or (walk season) (row_of season other) End ≡ other = get_or_from_slice_get (walk season) (row_of season other) other End (walk_place season (row_of season other) other there) in
    by_order (row_of season other) row is_place is_other within less
  where
    by_order : (a b : ℕ) → get_or (walk season) b End ≡ place → get_or (walk season) a End ≡ other → a < length (places season) → stage season other < stage season place → a < b
    by_order a b p q within less = elim (lt_or a b) [ inl l ↦ l | inr g ↦ absurd (past g) ]
      where
        lt_or : (a b : ℕ) → (a < b) ⊎ (b ≤ a)
        lt_or a b = grind arith

        past : b ≤ a → ⊥
        past g =
            let up : stage season (get_or (walk season) b End) ≤ stage season (get_or (walk season) (b + (a - b)) End) = rises season b (a - b) ok (omega arith) in
            let e : b + (a - b) ≡ a = omega arith in
            let up_to : stage season (get_or (walk season) b End) ≤ stage season (get_or (walk season) a End) = subst (λ n. stage season (get_or (walk season) b End) ≤ stage season (get_or (walk season) n End)) e up in
            let turned : stage season place ≤ stage season other = subst₂ (λ x y. stage season x ≤ stage season y) p q up_to in
            omega (arith, turned, less)
