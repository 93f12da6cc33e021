-- Each place of a certificate's walk is followed by the one that comes next.
use Rattle.std.proofs.Common.{◌≡◌, ℕ, ◌+◌, ◌-◌, ◌<◌, ◌≤◌, Bool, true, false, nat_lt, List, [], ◌∷◌, ◌++◌, length, map, get_or, refl, sym, ap, ◌∙◌, subst, arith, suc, zero, cond, Option, Some, None, slice_get, IsTrue, add-one, ◌⊎◌, inl, inr}
use Rattle.std.proofs.lemmas.Bool.{ne_eqb, cases_lt}
use Rattle.std.proofs.lemmas.List.{get_or_past}
use Rattle.std.proofs.lemmas.Option.{slice_get-get_or}
use Rattle.std.specs.List.{flat_map}
use Rattle.clr_num.specs.Lists.{numbers}
use Rattle.clr_stock.specs.Stock.{Store}
use Rattle.clr_rules.specs.declared.season_rules.Summary.{Summary}
use Rattle.clr_rules.specs.LiveSummaries.{live_summaries, live_pairs, at_week, IsIn, IsAmong}
use Rattle.clr_rules.proofs.LiveLaw.{live_pairs_lem, week_is}
use Rattle.clr_rules.specs.Rules.{IsLiveSummary}
use Rattle.clr_season.specs.Season.{Season, IsSeason}
use Rattle.clr_model.specs.Fits.{fits, stock_lists}
use Rattle.clr_cert.specs.declared.place.Place.{Place}
use Rattle.clr_cert.specs.declared.place.Place.TheVariants.{Head, Lengths, Path, Mult, Low, High, Value, Joint, Revenue, Bound, Exact, End}
use Rattle.clr_cert.specs.Places.{countdown, store_numbers, rung_numbers, mult_places, low_places, high_places, value_places, joint_places, week_places, has_lengths, places, walk, IsReached, IsPlaceOf, IsWeekRung, IsWeekStore}
use Rattle.clr_cert.specs.Steps.{first_live, after_head, after_mult, after_low, after_high, after_week, after_value, after_joint, after_bound, joint_or_after, value_or_after}

-- ---- what comes next

-- a summary stands at a place among the live ones, and this is what its line is followed by
pub record FollowsLive (season : Season) (done : ℕ) (s : Summary) (after : Option Summary → Place) (y : Place) : Type 0 where
  pub at : ℕ
  pub here : slice_get (live_summaries season.rules done) at ≡ Some s
  pub next : y ≡ after (slice_get (live_summaries season.rules done) (suc at))

abbrev pub IsAfter : Season → Place → Place → Type 0
IsAfter season Head y = y ≡ after_head season
IsAfter season Lengths y = y ≡ Path
IsAfter season Path y = y ≡ Mult 1 1
IsAfter season (Mult week rung) y = y ≡ after_mult season week rung
IsAfter season (Low done store) y = y ≡ after_low (length season.stores) done store
IsAfter season (High done store) y = y ≡ after_high season done store
IsAfter season (Value done store s) y = FollowsLive season done s (after_value season done store) y
IsAfter season (Joint done s index) y = FollowsLive season done s (after_joint season done s index) y
IsAfter season Revenue y = y ≡ Bound
IsAfter season Bound y = y ≡ after_bound season
IsAfter season Exact y = y ≡ End
IsAfter season End y = y ≡ End

-- a place of the season, and the one that comes next
pub record IsNext (season : Season) (x y : Place) : Type 0 where
  pub within : IsPlaceOf season x
  pub after : IsAfter season x y

-- ---- chains of places

-- the first of some places, or what comes after them
abbrev pub first : List Place → Place → Place
first [] z = z
first (x ∷ xs) z = x

-- each of them is followed by the next, and the last by z
abbrev pub Chain : Season → List Place → Place → Type 0
Chain season [] z = Unit {0}
Chain season (x ∷ xs) z = IsNext season x (first xs z) × Chain season xs z

first-append : (xs ys : List Place) (z : Place) → first (xs ++ ys) z ≡ first xs (first ys z)
first-append [] ys z = refl
first-append (x ∷ xs) ys z = refl

chain-append : (season : Season) (xs ys : List Place) (z : Place) → Chain season xs (first ys z) → Chain season ys z → Chain season (xs ++ ys) z
chain-append season [] ys z p q = q
chain-append season (x ∷ xs) ys z p q = (subst (λ y. IsNext season x y) (sym (first-append xs ys z)) p.0, chain-append season xs ys z p.1 q)

pub chain_at : (season : Season) (xs : List Place) (z x : Place) (row : ℕ) → Chain season xs z → slice_get xs row ≡ Some x → IsNext season x (get_or xs (suc row) z)
chain_at season [] z x row c e = absurd (no e)
  where
    no : None ≡ Some x → ⊥
    no e = cc
chain_at season (y ∷ []) z x zero c e = let same : y ≡ x = cc in subst (λ t. IsNext season t z) same c.0
chain_at season (y ∷ w ∷ ys) z x zero c e = let same : y ≡ x = cc in subst (λ t. IsNext season t w) same c.0
chain_at season (y ∷ ys) z x (suc row) c e = chain_at season ys z x row c.1 e

-- places by number
chain_numbers : (season : Season) (g : ℕ → Place) (z : Place) (from count : ℕ) →
    ((n : ℕ) → from ≤ n → suc n < from + count → IsNext season (g n) (g (suc n))) →
    ((n : ℕ) → from ≤ n → suc n ≡ from + count → IsNext season (g n) z) → Chain season (map g (numbers from count)) z
chain_numbers season g z from zero inner last = tt
chain_numbers season g z from (suc zero) inner last = (last from (omega arith) (omega arith), tt)
chain_numbers season g z from (suc (suc count)) inner last = (
  inner from (omega arith) (omega arith),
  chain_numbers season g z (suc from) (suc count) (λ n a b. inner n (omega arith) (omega arith)) (λ n a b. last n (omega arith) (omega arith)),
)

-- places by the items of a list
chain_items : {X : Type 0} (season : Season) (g : X → Place) (z : Place) (list : List X) →
    ((k : ℕ) (x y : X) → slice_get list k ≡ Some x → slice_get list (suc k) ≡ Some y → IsNext season (g x) (g y)) →
    ((k : ℕ) (x : X) → slice_get list k ≡ Some x → slice_get list (suc k) ≡ None → IsNext season (g x) z) → Chain season (map g list) z
chain_items season g z [] inner last = tt
chain_items season g z (x ∷ []) inner last = (last 0 x refl refl, tt)
chain_items season g z (x ∷ y ∷ list) inner last = (inner 0 x y refl refl, chain_items season g z (y ∷ list) (λ k. inner (suc k)) (λ k. last (suc k)))

-- blocks of places by number, none of them empty
first_blocks : (f : ℕ → List Place) (head : ℕ → Place) (z : Place) (from count : ℕ) → ((n : ℕ) (y : Place) → first (f n) y ≡ head n) → first (flat_map f (numbers from (suc count))) z ≡ head from
first_blocks f head z from count starts = first-append (f from) (flat_map f (numbers (suc from) count)) z ∙ starts from (first (flat_map f (numbers (suc from) count)) z)

chain_blocks : (season : Season) (f : ℕ → List Place) (head : ℕ → Place) (z : Place) (from count : ℕ) → ((n : ℕ) (y : Place) → first (f n) y ≡ head n) →
    ((n : ℕ) → from ≤ n → suc n < from + count → Chain season (f n) (head (suc n))) →
    ((n : ℕ) → from ≤ n → suc n ≡ from + count → Chain season (f n) z) → Chain season (flat_map f (numbers from count)) z
chain_blocks season f head z from zero starts inner last = tt
chain_blocks season f head z from (suc zero) starts inner last = chain-append season (f from) [] z (last from (omega arith) (omega arith)) tt
chain_blocks season f head z from (suc (suc count)) starts inner last =
    chain-append season (f from) (flat_map f (numbers (suc from) (suc count))) z
    (subst (λ y. Chain season (f from) y) (sym (first_blocks f head z (suc from) count starts)) (inner from (omega arith) (omega arith)))
    (chain_blocks season f head z (suc from) (suc count) starts (λ n a b. inner n (omega arith) (omega arith)) (λ n a b. last n (omega arith) (omega arith)))

-- blocks of places by the items of a list, none of them empty
chain_item_blocks : {X : Type 0} (season : Season) (f : X → List Place) (head : X → Place) (z : Place) (list : List X) → ((x : X) (y : Place) → first (f x) y ≡ head x) →
    ((k : ℕ) (x y : X) → slice_get list k ≡ Some x → slice_get list (suc k) ≡ Some y → Chain season (f x) (head y)) →
    ((k : ℕ) (x : X) → slice_get list k ≡ Some x → slice_get list (suc k) ≡ None → Chain season (f x) z) → Chain season (flat_map f list) z
chain_item_blocks season f head z [] starts inner last = tt
chain_item_blocks season f head z (x ∷ []) starts inner last = chain-append season (f x) [] z (last 0 x refl refl) tt
chain_item_blocks season f head z (x ∷ y ∷ list) starts inner last =
    chain-append season (f x) (flat_map f (y ∷ list)) z
    (subst (λ t. Chain season (f x) t) (sym (first-append (f y) (flat_map f list) z ∙ starts y (first (flat_map f list) z))) (inner 0 x y refl refl))
    (chain_item_blocks season f head z (y ∷ list) starts (λ k. inner (suc k)) (λ k. last (suc k)))

-- ---- tests of numbers

is_less : (a b : ℕ) → a < b → nat_lt a b ≡ true
is_less a b h = grind arith

not_less : (a b : ℕ) → b ≤ a → nat_lt a b ≡ false
not_less a b h = grind arith

-- a number of at least one more
suc_of : (n : ℕ) → 1 ≤ n → n ≡ suc (n - 1)
suc_of n h = omega arith

-- the first of places by number, of which there is one
first_numbers : (g : ℕ → Place) (from count : ℕ) (z : Place) → 1 ≤ count → first (map g (numbers from count)) z ≡ g from
first_numbers g from zero z h = absurd (omega arith)
first_numbers g from (suc count) z h = refl

mult_last : (season : Season) (week rung : ℕ) → length season.rules.prices ≤ rung → week < season.rules.weeks → Mult (suc week) 1 ≡ after_mult season week rung
mult_last season week rung past early =
    sym (ap (λ b. cond b (Mult week (rung + 1)) (cond (nat_lt week season.rules.weeks) (Mult (week + 1) 1) (Low season.rules.weeks 1))) (not_less rung (length season.rules.prices) past)
    ∙ (ap (λ b. cond b (Mult (week + 1) 1) (Low season.rules.weeks 1)) (is_less week season.rules.weeks early) ∙ ap (λ w. Mult w 1) (add-one week)))

mult_end : (season : Season) (week rung : ℕ) → length season.rules.prices ≤ rung → season.rules.weeks ≤ week → Low season.rules.weeks 1 ≡ after_mult season week rung
mult_end season week rung past late =
    sym (ap (λ b. cond b (Mult week (rung + 1)) (cond (nat_lt week season.rules.weeks) (Mult (week + 1) 1) (Low season.rules.weeks 1))) (not_less rung (length season.rules.prices) past)
    ∙ ap (λ b. cond b (Mult (week + 1) 1) (Low season.rules.weeks 1)) (not_less week season.rules.weeks late))

mult_more : (season : Season) (week rung : ℕ) → rung < length season.rules.prices → Mult week (suc rung) ≡ after_mult season week rung
mult_more season week rung early =
    sym (ap (λ b. cond b (Mult week (rung + 1)) (cond (nat_lt week season.rules.weeks) (Mult (week + 1) 1) (Low season.rules.weeks 1))) (is_less rung (length season.rules.prices) early) ∙ ap (λ r. Mult week r) (add-one rung))

week_rung : (season : Season) (week rung : ℕ) → 1 ≤ week → week ≤ season.rules.weeks → 1 ≤ rung → rung ≤ length season.rules.prices → IsWeekRung season week rung
week_rung season week rung a b c d = record { first_week = a; last_week = b; first_rung = c; last_rung = d }

week_store : (season : Season) (done store : ℕ) → done ≤ season.rules.weeks → 1 ≤ store → store ≤ length season.stores → IsWeekStore season done store
week_store season done store a b c = record { early = a; first = b; last = c }

mult_chain : (season : Season) → 1 ≤ length season.rules.prices → Chain season (mult_places season) (Low season.rules.weeks 1)
mult_chain season some =
    chain_blocks season (λ week. map (λ rung. Mult week rung) (rung_numbers season)) (λ week. Mult week 1) (Low season.rules.weeks 1) 1 season.rules.weeks
    (λ week y. first_numbers (λ rung. Mult week rung) 1 (length season.rules.prices) y some)
    (λ week low early.
    chain_numbers season (λ rung. Mult week rung) (Mult (suc week) 1) 1 (length season.rules.prices)
    (λ rung a b. record { within = week_rung season week rung low (omega arith) a (omega arith); after = mult_more season week rung (omega arith) })
    (λ rung a b. record { within = week_rung season week rung low (omega arith) a (omega arith); after = mult_last season week rung (omega arith) (omega arith) }))
    (λ week low late.
    chain_numbers season (λ rung. Mult week rung) (Low season.rules.weeks 1) 1 (length season.rules.prices)
    (λ rung a b. record { within = week_rung season week rung low (omega arith) a (omega arith); after = mult_more season week rung (omega arith) })
    (λ rung a b. record { within = week_rung season week rung low (omega arith) a (omega arith); after = mult_end season week rung (omega arith) (omega arith) }))

-- ---- the values after so many weeks

low_chain : (season : Season) (done : ℕ) → done ≤ season.rules.weeks → Chain season (low_places season done) (High done 1)
low_chain season done early =
    chain_numbers season (λ store. Low done store) (High done 1) 1 (length season.stores)
    (λ store a b. record {
      within = week_store season done store early a (omega arith);
      after = sym (ap (λ t. cond t (Low done (store + 1)) (High done 1)) (is_less store (length season.stores) (omega arith)) ∙ ap (λ n. Low done n) (add-one store));
    })
    (λ store a b. record {
      within = week_store season done store early a (omega arith);
      after = sym (ap (λ t. cond t (Low done (store + 1)) (High done 1)) (not_less store (length season.stores) (omega arith)));
    })

high_chain : (season : Season) (done : ℕ) → done ≤ season.rules.weeks → Chain season (high_places season done) (value_or_after season done 1 (first_live season done))
high_chain season done early =
    chain_numbers season (λ store. High done store) (value_or_after season done 1 (first_live season done)) 1 (length season.stores)
    (λ store a b. record {
      within = week_store season done store early a (omega arith);
      after = sym (ap (λ t. cond t (High done (store + 1)) (value_or_after season done 1 (first_live season done))) (is_less store (length season.stores) (omega arith)) ∙ ap (λ n. High done n) (add-one store));
    })
    (λ store a b. record {
      within = week_store season done store early a (omega arith);
      after = sym (ap (λ t. cond t (High done (store + 1)) (value_or_after season done 1 (first_live season done))) (not_less store (length season.stores) (omega arith)));
    })

-- of a list of summaries, places for each store and summary
abbrev by_store : ℕ → List Summary → ℕ → List Place
by_store done list store = map (λ s. Value done store s) list

no_values : (done from count : ℕ) → flat_map (λ store. map (λ s. Value done store s) []) (numbers from count) ≡ []
no_values done from zero = refl
no_values done from (suc count) = no_values done (suc from) count

-- ---- all lists of stocks

pub some_stocks : (stores : List Store) → 1 ≤ stock_lists stores
some_stocks [] = omega arith
some_stocks (store ∷ stores) = let rest = some_stocks stores in omega arith

-- ---- the values of all stores

abbrev joint_blocks : Season → ℕ → List Summary → List Place
joint_blocks season done list = flat_map (λ s. map (λ index. Joint done s index) (numbers 0 (stock_lists season.stores))) list

joint_step : (season : Season) (done k : ℕ) (s : Summary) (next : Option Summary) → done ≤ season.rules.weeks → IsTrue (fits season) → slice_get (live_summaries season.rules done) k ≡ Some s →
    slice_get (live_summaries season.rules done) (suc k) ≡ next → Chain season (map (λ index. Joint done s index) (numbers 0 (stock_lists season.stores))) (joint_or_after season done next)
joint_step season done k s next early fit here then =
    chain_numbers season (λ index. Joint done s index) (joint_or_after season done next) 0 (stock_lists season.stores)
    (λ index a b. record {
      within = record { fit = fit; early = early; live = (k, here); within = omega arith };
      after = record {
        at = k;
        here = here;
        next = sym (ap (λ t. cond t (Joint done s (index + 1)) (joint_or_after season done (slice_get (live_summaries season.rules done) (suc k)))) (is_less (index + 1) (stock_lists season.stores) (omega arith)) ∙ ap (λ n. Joint done s n) (add-one index));
      };
    })
    (λ index a b. record {
      within = record { fit = fit; early = early; live = (k, here); within = omega arith };
      after = record {
        at = k;
        here = here;
        next = sym (ap (λ t. cond t (Joint done s (index + 1)) (joint_or_after season done (slice_get (live_summaries season.rules done) (suc k)))) (not_less (index + 1) (stock_lists season.stores) (omega arith)) ∙ ap (joint_or_after season done) then);
      };
    })

fit_joint : (season : Season) (done : ℕ) (s : Summary) → IsTrue (fits season) → Joint done s 0 ≡ joint_or_after season done (Some s)
fit_joint season done s fit = sym (ap (λ b. cond b (Joint done s 0) (after_week done)) fit)

joint_fit_chain : (season : Season) (done : ℕ) → done ≤ season.rules.weeks → IsTrue (fits season) → Chain season (joint_blocks season done (live_summaries season.rules done)) (after_week done)
joint_fit_chain season done early fit =
    chain_item_blocks season (λ s. map (λ index. Joint done s index) (numbers 0 (stock_lists season.stores))) (λ s. Joint done s 0) (after_week done) (live_summaries season.rules done)
    (λ s y. first_numbers (λ index. Joint done s index) 0 (stock_lists season.stores) y (some_stocks season.stores))
    (λ k s t here then. subst (λ y. Chain season (map (λ index. Joint done s index) (numbers 0 (stock_lists season.stores))) y) (sym (fit_joint season done t fit)) (joint_step season done k s (Some t) early fit here then))
    (λ k s here then. joint_step season done k s None early fit here then)

first_joint_blocks : (season : Season) (done : ℕ) (list : List Summary) → IsTrue (fits season) → first (joint_blocks season done list) (after_week done) ≡ joint_or_after season done (slice_get list 0)
first_joint_blocks season done [] fit = refl
first_joint_blocks season done (s ∷ list) fit =
    first-append (map (λ index. Joint done s index) (numbers 0 (stock_lists season.stores))) (joint_blocks season done list) (after_week done)
    ∙ (first_numbers (λ index. Joint done s index) 0 (stock_lists season.stores) (first (joint_blocks season done list) (after_week done)) (some_stocks season.stores) ∙ fit_joint season done s fit)

-- the places of all stores' values, and what the first of them is
record JointStart (season : Season) (done : ℕ) : Type 0 where
  chain : Chain season (joint_places season done) (after_week done)
  start : first (joint_places season done) (after_week done) ≡ joint_or_after season done (first_live season done)

no_joint : (season : Season) (done : ℕ) (next : Option Summary) → fits season ≡ false → after_week done ≡ joint_or_after season done next
no_joint season done None none = refl
no_joint season done (Some s) none = sym (ap (λ b. cond b (Joint done s 0) (after_week done)) none)

joint_start : (season : Season) (done : ℕ) → done ≤ season.rules.weeks → JointStart season done
joint_start season done early = by_fit (fits season) refl
  where
    by_fit : (b : Bool) → fits season ≡ b → JointStart season done
    by_fit true e =
        let same : joint_places season done ≡ joint_blocks season done (live_summaries season.rules done) = ap (λ b. cond b (joint_blocks season done (live_summaries season.rules done)) []) e in
        record {
          chain = subst (λ t. Chain season t (after_week done)) (sym same) (joint_fit_chain season done early e);
          start = ap (λ t. first t (after_week done)) same ∙ first_joint_blocks season done (live_summaries season.rules done) e;
        }
    by_fit false e =
        let same : joint_places season done ≡ [] = ap (λ b. cond b (joint_blocks season done (live_summaries season.rules done)) []) e in
        record {
          chain = subst (λ t. Chain season t (after_week done)) (sym same) tt;
          start = ap (λ t. first t (after_week done)) same ∙ no_joint season done (first_live season done) e;
        }

-- ---- the stores' values

store_step : (season : Season) (done store : ℕ) (z : Place) → IsWeekStore season done store → after_value season done store None ≡ z → Chain season (by_store done (live_summaries season.rules done) store) z
store_step season done store z of last =
    chain_items season (λ s. Value done store s) z (live_summaries season.rules done)
    (λ k s t here then. record { within = (of, (k, here)); after = record { at = k; here = here; next = sym (ap (after_value season done store) then) } })
    (λ k s here then. record { within = (of, (k, here)); after = record { at = k; here = here; next = sym last ∙ sym (ap (after_value season done store) then) } })

pub value_more : (season : Season) (done store : ℕ) → store < length season.stores → after_value season done store None ≡ value_or_after season done (store + 1) (first_live season done)
value_more season done store early = ap (λ b. cond b (value_or_after season done (store + 1) (first_live season done)) (joint_or_after season done (first_live season done))) (is_less store (length season.stores) early)

pub value_end : (season : Season) (done store : ℕ) → length season.stores ≤ store → after_value season done store None ≡ joint_or_after season done (first_live season done)
value_end season done store past = ap (λ b. cond b (value_or_after season done (store + 1) (first_live season done)) (joint_or_after season done (first_live season done))) (not_less store (length season.stores) past)

record ValueStart (season : Season) (done : ℕ) : Type 0 where
  chain : Chain season (value_places season done) (joint_or_after season done (first_live season done))
  start : first (value_places season done) (joint_or_after season done (first_live season done)) ≡ value_or_after season done 1 (first_live season done)

value_start : (season : Season) (done : ℕ) → 1 ≤ length season.stores → done ≤ season.rules.weeks → ValueStart season done
value_start season done some early = by_live (live_summaries season.rules done) refl
  where
    by_live : (list : List Summary) → live_summaries season.rules done ≡ list → ValueStart season done
    by_live [] e =
        let none : value_places season done ≡ [] = ap (λ list. flat_map (by_store done list) (store_numbers season)) e ∙ no_values done 1 (length season.stores) in
        record {
          chain = subst (λ t. Chain season t (joint_or_after season done (first_live season done))) (sym none) tt;
          start = ap (λ t. first t (joint_or_after season done (first_live season done))) none ∙ sym (ap (λ (list : List Summary). value_or_after season done 1 (slice_get list 0)) e);
        }
    by_live (s ∷ list) e =
        let starts : (store : ℕ) (y : Place) → first (by_store done (live_summaries season.rules done) store) y ≡ Value done store s = λ store y. ap (λ (list : List Summary). first (by_store done list store) y) e in
        let heads : (store : ℕ) → value_or_after season done store (first_live season done) ≡ Value done store s = λ store. ap (λ (list : List Summary). value_or_after season done store (slice_get list 0)) e in
        record {
          chain =
              chain_blocks season (by_store done (live_summaries season.rules done)) (λ store. Value done store s) (joint_or_after season done (first_live season done)) 1 (length season.stores) starts
              (λ store a b. store_step season done store (Value done (suc store) s) (week_store season done store early a (omega arith)) (value_more season done store (omega arith) ∙ (heads (store + 1) ∙ ap (λ n. Value done n s) (add-one store))))
              (λ store a b. store_step season done store (joint_or_after season done (first_live season done)) (week_store season done store early a (omega arith)) (value_end season done store (omega arith)));
          start = first_of (length season.stores) some starts ∙ sym (heads 1);
        }
      where
        first_of : (count : ℕ) → 1 ≤ count → ((store : ℕ) (y : Place) → first (by_store done (live_summaries season.rules done) store) y ≡ Value done store s) →
            first (flat_map (by_store done (live_summaries season.rules done)) (numbers 1 count)) (joint_or_after season done (first_live season done)) ≡ Value done 1 s
        first_of zero h starts = absurd (omega arith)
        first_of (suc count) h starts = first_blocks (by_store done (live_summaries season.rules done)) (λ store. Value done store s) (joint_or_after season done (first_live season done)) 1 count starts

-- ---- all values after so many weeks, and back to the start

week_chain : (season : Season) (done : ℕ) → 1 ≤ length season.stores → done ≤ season.rules.weeks → Chain season (week_places season done) (after_week done)
week_chain season done some early =
    let joint = joint_start season done early in
    let value = value_start season done some early in
    let after_values : first (value_places season done ++ joint_places season done) (after_week done) ≡ value_or_after season done 1 (first_live season done) =
    first-append (value_places season done) (joint_places season done) (after_week done) ∙ (ap (first (value_places season done)) joint.start ∙ value.start) in
    let after_highs : first (high_places season done ++ (value_places season done ++ joint_places season done)) (after_week done) ≡ High done 1 =
    first-append (high_places season done) (value_places season done ++ joint_places season done) (after_week done)
    ∙ first_numbers (λ store. High done store) 1 (length season.stores) (first (value_places season done ++ joint_places season done) (after_week done)) some in
    chain-append season (low_places season done) (high_places season done ++ (value_places season done ++ joint_places season done)) (after_week done)
    (subst (λ y. Chain season (low_places season done) y) (sym after_highs) (low_chain season done early))
    (chain-append season (high_places season done) (value_places season done ++ joint_places season done) (after_week done)
    (subst (λ y. Chain season (high_places season done) y) (sym after_values) (high_chain season done early))
    (chain-append season (value_places season done) (joint_places season done) (after_week done)
    (subst (λ y. Chain season (value_places season done) y) (sym joint.start) value.chain)
    joint.chain))

first_week : (season : Season) (done : ℕ) (z : Place) → 1 ≤ length season.stores → first (week_places season done) z ≡ Low done 1
first_week season done z some =
    first-append (low_places season done) (high_places season done ++ (value_places season done ++ joint_places season done)) z
    ∙ first_numbers (λ store. Low done store) 1 (length season.stores) (first (high_places season done ++ (value_places season done ++ joint_places season done)) z) some

first_weeks : (season : Season) (done : ℕ) (z : Place) → 1 ≤ length season.stores → first (flat_map (week_places season) (countdown done)) z ≡ Low done 1
first_weeks season zero z some = first-append (week_places season 0) [] z ∙ first_week season 0 z some
first_weeks season (suc done) z some =
    first-append (week_places season (suc done)) (flat_map (week_places season) (countdown done)) z ∙ first_week season (suc done) (first (flat_map (week_places season) (countdown done)) z) some

weeks_chain : (season : Season) (done : ℕ) → 1 ≤ length season.stores → done ≤ season.rules.weeks → Chain season (flat_map (week_places season) (countdown done)) Revenue
weeks_chain season zero some early = chain-append season (week_places season 0) [] Revenue (week_chain season 0 some early) tt
weeks_chain season (suc done) some early =
    let less : suc done - 1 ≡ done = omega arith in
    let next : after_week (suc done) ≡ first (flat_map (week_places season) (countdown done)) Revenue =
    ap (λ b. cond b Revenue (Low (suc done - 1) 1)) (ne_eqb (suc done) 0 (λ e. omega arith)) ∙ (ap (λ n. Low n 1) less ∙ sym (first_weeks season done Revenue some)) in
    chain-append season (week_places season (suc done)) (flat_map (week_places season) (countdown done)) Revenue
    (subst (λ y. Chain season (week_places season (suc done)) y) next (week_chain season (suc done) some early))
    (weeks_chain season done some (omega arith))

-- ---- all places

exact_chain : (season : Season) → Chain season (Bound ∷ cond (fits season) (Exact ∷ []) []) End
exact_chain season = by_fit (fits season) refl
  where
    by_fit : (b : Bool) → fits season ≡ b → Chain season (Bound ∷ cond b (Exact ∷ []) []) End
    by_fit true e = (record { within = tt; after = sym (ap (λ b. cond b Exact End) e) }, (record { within = e; after = refl }, tt))
    by_fit false e = (record { within = tt; after = sym (ap (λ b. cond b Exact End) e) }, tt)

tail_chain : (season : Season) → IsSeason season → Chain season (mult_places season ++ (flat_map (week_places season) (countdown season.rules.weeks) ++ (Revenue ∷ Bound ∷ cond (fits season) (Exact ∷ []) []))) End
tail_chain season is =
    let ladder = is.rules.ladder.some in
    let after_mults : first (flat_map (week_places season) (countdown season.rules.weeks) ++ (Revenue ∷ Bound ∷ cond (fits season) (Exact ∷ []) [])) End ≡ Low season.rules.weeks 1 =
    first-append (flat_map (week_places season) (countdown season.rules.weeks)) (Revenue ∷ Bound ∷ cond (fits season) (Exact ∷ []) []) End ∙ first_weeks season season.rules.weeks Revenue is.some in
    chain-append season (mult_places season) (flat_map (week_places season) (countdown season.rules.weeks) ++ (Revenue ∷ Bound ∷ cond (fits season) (Exact ∷ []) [])) End
    (subst (λ y. Chain season (mult_places season) y) (sym after_mults) (mult_chain season ladder))
    (chain-append season (flat_map (week_places season) (countdown season.rules.weeks)) (Revenue ∷ Bound ∷ cond (fits season) (Exact ∷ []) []) End (weeks_chain season season.rules.weeks is.some (omega arith))
    (record { within = tt; after = refl }, exact_chain season))

first_mult : (season : Season) (rest : List Place) (z : Place) → IsSeason season → first (mult_places season ++ rest) z ≡ Mult 1 1
first_mult season rest z is = first-append (mult_places season) rest z ∙ by_weeks season.rules.weeks is.rules.first_week is.rules.ladder.some
  where
    by_weeks : (count : ℕ) → 1 ≤ count → 1 ≤ length season.rules.prices → first (flat_map (λ week. map (λ rung. Mult week rung) (rung_numbers season)) (numbers 1 count)) (first rest z) ≡ Mult 1 1
    by_weeks zero h some = absurd (omega arith)
    by_weeks (suc count) h some = first_blocks (λ week. map (λ rung. Mult week rung) (rung_numbers season)) (λ week. Mult week 1) (first rest z) 1 count (λ week y. first_numbers (λ rung. Mult week rung) 1 (length season.rules.prices) y some)

path_chain : (season : Season) → IsSeason season → Chain season (Path ∷ (mult_places season ++ (flat_map (week_places season) (countdown season.rules.weeks) ++ (Revenue ∷ Bound ∷ cond (fits season) (Exact ∷ []) [])))) End
path_chain season is = (path_next (first_mult season (flat_map (week_places season) (countdown season.rules.weeks) ++ (Revenue ∷ Bound ∷ cond (fits season) (Exact ∷ []) [])) End is), tail_chain season is)
  where
    path_next : {y : Place} → y ≡ Mult 1 1 → IsNext season Path y
    path_next e = record { within = tt; after = e }

places_chain : (season : Season) → IsSeason season → Chain season (places season) End
unfolding places
places_chain season is = by_lengths (has_lengths season) refl
  where
    by_lengths : (b : Bool) → has_lengths season ≡ b →
        Chain season (Head ∷ (cond b (Lengths ∷ []) [] ++ (Path ∷ (mult_places season ++ (flat_map (week_places season) (countdown season.rules.weeks) ++ (Revenue ∷ Bound ∷ cond (fits season) (Exact ∷ []) [])))))) End
    by_lengths true e = (record { within = tt; after = sym (ap (λ b. cond b Lengths Path) e) }, (record { within = tt; after = refl }, path_chain season is))
    by_lengths false e = (record { within = tt; after = sym (ap (λ b. cond b Lengths Path) e) }, path_chain season is)

pub walk_chain : (season : Season) → IsSeason season → Chain season (walk season) End
walk_chain season is = chain-append season (places season) (End ∷ []) End (places_chain season is) (record { within = tt; after = refl }, tt)

-- what stands after a place of the walk
pub walk_next : (season : Season) (place : Place) (row : ℕ) → IsSeason season → slice_get (walk season) row ≡ Some place → IsNext season place (get_or (walk season) (row + 1) End)
walk_next season place row is here = subst (λ n. IsNext season place (get_or (walk season) n End)) (sym (add-one row)) (chain_at season (walk season) End place row (walk_chain season is) here)

-- ---- the code's cases

-- the summaries that a `Live` of the season has after so many weeks
pub live_at : (season : Season) (live : List (ℕ × Summary)) (done : ℕ) → live ≡ live_pairs season.rules → done ≤ season.rules.weeks → at_week done live ≡ live_summaries season.rules done
live_at season live done of early = ap (at_week done) of ∙ week_is season.rules done early

pub among_live : (season : Season) (live : List (ℕ × Summary)) (done : ℕ) (s : Summary) → live ≡ live_pairs season.rules → done ≤ season.rules.weeks → IsIn (live_summaries season.rules done) s → IsAmong live done s
among_live season live done s of early h = subst (λ list. IsIn list s) (sym (live_at season live done of early)) h

pub first_is : (season : Season) (live : List (ℕ × Summary)) (done : ℕ) (first : Option Summary) → live ≡ live_pairs season.rules → done ≤ season.rules.weeks → first ≡ slice_get (at_week done live) 0 → first ≡ first_live season done
first_is season live done first of early is = is ∙ ap (λ (list : List Summary). slice_get list 0) (live_at season live done of early)

-- what `Live::after` gives
pub after_is : (season : Season) (live : List (ℕ × Summary)) (done k : ℕ) (s : Summary) (after : Option Summary) → live ≡ live_pairs season.rules → done ≤ season.rules.weeks → slice_get (live_summaries season.rules done) k ≡ Some s →
    ((k : ℕ) → slice_get (at_week done live) k ≡ Some s → after ≡ slice_get (at_week done live) (k + 1)) → after ≡ slice_get (live_summaries season.rules done) (k + 1)
after_is season live done k s after of early here is =
    let same = live_at season live done of early in
    is k (ap (λ (list : List Summary). slice_get list k) same ∙ here) ∙ ap (λ (list : List Summary). slice_get list (k + 1)) same

-- the numbers of a place that is reached are the season's
pub reached_of : (season : Season) (self place : Place) → IsSeason season → IsReached season self → self ≡ place → IsPlaceOf season place
reached_of season self place is (row, here) same = (walk_next season place row is (here ∙ ap Some same)).within

-- what stands after it
pub next_at : (season : Season) (self place : Place) (row : ℕ) → IsSeason season → slice_get (walk season) row ≡ Some self → self ≡ place → IsAfter season place (get_or (walk season) (row + 1) End)
next_at season self place row is here same = (walk_next season place row is (here ∙ ap Some same)).after

pub joint_past : (season : Season) (done : ℕ) (s : Summary) (index : ℕ) (next : Option Summary) → stock_lists season.stores ≤ index + 1 → after_joint season done s index next ≡ joint_or_after season done next
joint_past season done s index next past = ap (λ t. cond t (Joint done s (index + 1)) (joint_or_after season done next)) (not_less (index + 1) (stock_lists season.stores) past)

-- a result that is right wherever the summary stands
pub next_live : {season : Season} {done : ℕ} {s : Summary} {after : Option Summary → Place} {y : Place} → FollowsLive season done s after y → (result : Place) →
    ((k : ℕ) → slice_get (live_summaries season.rules done) k ≡ Some s → result ≡ after (slice_get (live_summaries season.rules done) (k + 1))) → result ≡ y
next_live {season} {done} {s} {after} h result is = is h.at h.here ∙ (ap (λ n. after (slice_get (live_summaries season.rules done) n)) (add-one h.at) ∙ sym h.next)

-- nothing comes after the last place, and the end stays
pub end_at : (season : Season) (self : Place) (row : ℕ) → IsSeason season → slice_get (walk season) row ≡ Some self → (self ≡ Exact) ⊎ (self ≡ End) → get_or (walk season) (row + 1) End ≡ End
end_at season self row is here (inl e) = next_at season self Exact row is here e
end_at season self row is here (inr e) = next_at season self End row is here e

-- a summary among the live ones is that of a live prefix
pub is_live_in : (season : Season) (done : ℕ) (s : Summary) → IsSeason season → done ≤ season.rules.weeks → IsIn (live_summaries season.rules done) s → IsLiveSummary season.rules done s
is_live_in season done s is early h = (((live_pairs_lem season.rules is.rules).pairs done s).0 (subst (λ list. IsIn list s) (sym (week_is season.rules done early)) h)).1

-- what stands at a row of the walk, or after its end, is reached
pub next_reached : (season : Season) (row : ℕ) (next : Place) → next ≡ get_or (walk season) (row + 1) End → IsReached season next
next_reached season row next is = by_size (cases_lt (row + 1) (length (walk season)))
  where
    end_of : (xs : List Place) → slice_get (xs ++ End ∷ []) (length xs) ≡ Some End
    end_of [] = refl
    end_of (x ∷ xs) = end_of xs

    by_size : (row + 1 < length (walk season)) ⊎ (length (walk season) ≤ row + 1) → IsReached season next
    by_size (inl within) = (row + 1, slice_get-get_or (walk season) (row + 1) End within ∙ ap Some (sym is))
    by_size (inr past) = (length (places season), end_of (places season) ∙ ap Some (sym (is ∙ get_or_past (walk season) (row + 1) End past)))

-- the walk reaches the head
pub head_reached : (season : Season) → IsReached season Head
unfolding places
head_reached season = (0, refl)
