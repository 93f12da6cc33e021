-- An accepted certificate's path obeys, and its numbers enclose what the path earns.
use Rattle.std.proofs.Common.{◌≡◌, ℕ, ◌<◌, ◌≤◌, true, false, cond, ◌==◌, refl, sym, ap, ◌∙◌, subst, subst₂, arith, suc, zero, List, [], ◌∷◌, length, map, get_or, take, IsTrue, ℤ, pos, ◌*ℤ◌, eq-eqb}
use Rattle.std.proofs.lemmas.Bool.{and_parts}
use lib.ListN.{length-map}
use Rattle.clr_num.specs.Direction.{AtLeast, AtMost}
use Rattle.clr_num.specs.Lists.{numbers}
use Rattle.clr_stock.specs.Stock.{Store, no_store}
use Rattle.clr_rules.specs.Rules.{IsPath, is_live, obeys}
use Rattle.clr_rules.proofs.LiveLemmas.{live-whole}
use Rattle.clr_season.specs.Season.{Season, IsSeason, store_at}
use Rattle.clr_model.specs.Expected.{Encloses}
use Rattle.clr_model.specs.PathNumbers.{LeansAlong, opening_sum}
use Rattle.clr_model.specs.PathValue.{IsStock}
use Rattle.clr_model.specs.Policies.{const_tree}
use Rattle.clr_model.specs.Revenue.{full_stocks, of_store}
use Rattle.clr_model.proofs.PathNumbers.{path_numbers_enclose_lem}
use Rattle.clr_model.proofs.Sums.{All-map, sum_of-same}
use Rattle.clr_cert.specs.declared.no.NoKind.TheVariants as kind
use Rattle.clr_cert.specs.declared.place.Place.TheVariants.{Path, Low, High, Revenue}
use Rattle.clr_cert.specs.Accepts.{Accepts, claims_in}
use Rattle.clr_cert.specs.Conditions.{Condition, at_least, at_most, conditions, end_worth, opening_total, path_condition, path_entry, path_of, path_sum}
use Rattle.clr_cert.specs.Entries.{CertEntries}
use Rattle.clr_cert.specs.Lines.{full_stock, stocks_of}
use Rattle.clr_cert.specs.Places.{week_numbers}
use Rattle.clr_cert.specs.Reading.{ended_lines, entries_in, told}
use Rattle.clr_cert.proofs.Among.{Among, among_numbers, high_place, low_place, path_place, revenue_place}
use Rattle.clr_check.proofs.Told.{All-among, at_most_is, equal_is, holds_at}

-- ---- stocks

pub length-numbers : (from count : ℕ) → length (numbers from count) ≡ count
length-numbers from zero = refl
length-numbers from (suc count) = ap suc (length-numbers (suc from) count)

get_or-units : (stores : List Store) (i : ℕ) → get_or (map (λ store. store.units) stores) i 0 ≡ (get_or stores i no_store).units
get_or-units [] i = refl
get_or-units (store ∷ stores) zero = refl
get_or-units (store ∷ stores) (suc i) = get_or-units stores i

-- the opening stock of a store
pub full_is : (season : Season) (store : ℕ) → of_store (full_stocks season) store ≡ (store_at season store).units
full_is season zero = refl
full_is season (suc i) = get_or-units season.stores i

pub stock_among : (season : Season) (store stock : ℕ) → IsStock season store stock → Among (stocks_of season store) stock
stock_among season store stock h =
    let held : stock ≤ (store_at season store).units = subst (λ n. stock ≤ n) (full_is season store) h.held in
    among_numbers 0 (suc (store_at season store).units) stock (omega arith) (omega arith)

-- ---- the path

whole_take : (xs : List ℕ) (n : ℕ) → length xs ≡ n → take n xs ≡ xs
whole_take [] zero h = refl
whole_take [] (suc n) h = refl
whole_take (x ∷ xs) zero h = absurd (no h)
  where
    no : suc (length xs) ≡ 0 → ⊥
    no h = omega arith
whole_take (x ∷ xs) (suc n) h = ap (λ t. x ∷ t) (whole_take xs n (less h))
  where
    less : suc (length xs) ≡ suc n → length xs ≡ n
    less h = omega arith

pub path-length : (season : Season) (entries : CertEntries) → length (path_of season entries) ≡ season.rules.weeks
path-length season entries = length-map (week_numbers season) entries.rung ∙ length-numbers 1 season.rules.weeks

module _ (season : Season) (bytes : List ℕ) (ok : IsSeason season) (accepted : Accepts season bytes) where
  entries : CertEntries
  entries = entries_in season (ended_lines bytes)

  path : List ℕ
  path = path_of season entries

  pub path_obeys : IsTrue (obeys season.rules (path_of season (entries_in season (ended_lines bytes))))
  unfolding conditions
  path_obeys =
      let the_path : List ℕ = path_of season (entries_in season (ended_lines bytes)) in
      let all = All-map (λ c. IsTrue c.holds) (path_condition season the_path) (week_numbers season) (holds_at season bytes Path accepted (path_place season)).conditions in
      let last : is_live season.rules (take season.rules.weeks the_path) ≡ true = All-among (λ week. is_live season.rules (take week the_path) ≡ true) (week_numbers season) season.rules.weeks all (among_numbers 1 season.rules.weeks season.rules.weeks ok.rules.first_week (omega arith)) in
      let long : length the_path ≡ season.rules.weeks = path-length season (entries_in season (ended_lines bytes)) in
      live-whole season.rules the_path (ap (is_live season.rules) (sym (whole_take the_path season.rules.weeks long)) ∙ last) long

  pub path_is : IsPath season.rules (path_of season (entries_in season (ended_lines bytes)))
  path_is = record {
    weeks = path-length season (entries_in season (ended_lines bytes));
    rungs = (and_parts _ _ (and_parts _ _ path_obeys).1).0;
  }

-- ---- its numbers

-- a test on what a condition compares, before a week and at the end
module _ (compare : ℤ → ℤ → Condition) (leans : ℤ → ℤ → Type 0) (holding : (a b : ℤ) → IsTrue (compare a b).holds → leans a b) (season : Season) (path : List ℕ) (table : ℕ → ℕ → ℕ → ℤ) where
  pub entry_end : (done store stock : ℕ) → done ≡ season.rules.weeks → IsTrue (path_entry compare season path table done store stock).holds → leans (table done store stock) (end_worth season store stock)
  entry_end done store stock last h =
      holding _ _ (subst (λ b. IsTrue (cond b (compare (table done store stock) (end_worth season store stock)) (compare (table done store stock *ℤ pos season.base) (path_sum season path table done store stock))).holds) (eq-eqb done season.rules.weeks last) h)

  pub entry_week : (done store stock : ℕ) → done < season.rules.weeks → IsTrue (path_entry compare season path table done store stock).holds → leans (table done store stock *ℤ pos season.base) (path_sum season path table done store stock)
  entry_week done store stock early h =
      let other : (done == season.rules.weeks) ≡ false = grind arith in
      holding _ _ (subst (λ b. IsTrue (cond b (compare (table done store stock) (end_worth season store stock)) (compare (table done store stock *ℤ pos season.base) (path_sum season path table done store stock))).holds) other h)

-- numbers of which each entry holds lean along the path
leans_along : (compare : ℤ → ℤ → Condition) (leans : ℤ → ℤ → Type 0) → ((a b : ℤ) → IsTrue (compare a b).holds → leans a b) → (season : Season) (path : List ℕ) (table : ℕ → ℕ → ℕ → ℤ) →
    ((done store stock : ℕ) → done ≤ season.rules.weeks → IsStock season store stock → IsTrue (path_entry compare season path table done store stock).holds) →
    LeansAlong leans season path (λ store done stock. table done store stock)
leans_along compare leans holding season path table each = record {
  week = λ store done stock held early. entry_week compare leans holding season path table done store stock early (each done store stock (omega arith) held);
  end = λ store stock held. entry_end compare leans holding season path table season.rules.weeks store stock refl (each season.rules.weeks store stock (omega arith) held);
}

opening_is : (season : Season) (table : ℕ → ℕ → ℕ → ℤ) → opening_total season table ≡ opening_sum season (λ store done stock. table done store stock)
opening_is season table = sum_of-same (length season.stores) (λ i. table 0 (suc i) (full_stock season (suc i))) (λ i. table 0 (suc i) (of_store (full_stocks season) (suc i))) (λ i p. ap (table 0 (suc i)) (sym (full_is season (suc i))))

pub path_encloses : (season : Season) (bytes : List ℕ) → IsSeason season → Accepts season bytes →
    Encloses season (claims_in season (ended_lines bytes)).low (claims_in season (ended_lines bytes)).high (const_tree (claims_in season (ended_lines bytes)).path)
unfolding conditions
path_encloses season bytes ok accepted =
    let entries : CertEntries = entries_in season (ended_lines bytes) in
    let path : List ℕ = path_of season entries in
    let totals = (holds_at season bytes Revenue accepted (revenue_place season)).conditions in
    subst₂ (λ low high. Encloses season low high (const_tree path))
    (sym (equal_is (told season (ended_lines bytes) Revenue 0) (opening_total season entries.low) totals.0 ∙ opening_is season entries.low))
    (sym (equal_is (told season (ended_lines bytes) Revenue 1) (opening_total season entries.high) totals.1.0 ∙ opening_is season entries.high))
    (path_numbers_enclose_lem season path (λ store done stock. entries.low done store stock) (λ store done stock. entries.high done store stock) ok (path_is season bytes ok accepted)
    (leans_along (at_most kind.Low) AtMost at_most_is season path entries.low
    (λ done store stock early held. All-among (λ x. IsTrue (path_entry (at_most kind.Low) season path entries.low done store x).holds) _ stock
    (All-map (λ c. IsTrue c.holds) (path_entry (at_most kind.Low) season path entries.low done store) (stocks_of season store) (holds_at season bytes (Low done store) accepted (low_place season done store early held.first held.last)).conditions)
    (stock_among season store stock held)))
    (leans_along (at_least kind.High) AtLeast (λ a b. at_most_is b a) season path entries.high
    (λ done store stock early held. All-among (λ x. IsTrue (path_entry (at_least kind.High) season path entries.high done store x).holds) _ stock
    (All-map (λ c. IsTrue c.holds) (path_entry (at_least kind.High) season path entries.high done store) (stocks_of season store) (holds_at season bytes (High done store) accepted (high_place season done store early held.first held.last)).conditions)
    (stock_among season store stock held))))
