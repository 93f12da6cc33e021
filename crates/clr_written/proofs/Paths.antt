-- A plan's path, multipliers and path values meet the conditions of their lines.
use Rattle.std.proofs.Common.{◌≡◌, ℕ, ◌+◌, ◌-◌, ◌<◌, ◌≤◌, min, Bool, true, false, cond, ◌==◌, refl, sym, ap, ap₂, ◌∙◌, subst, subst₂, arith, suc, zero, List, [], ◌∷◌, length, map, get_or, take, drop, IsTrue, ℤ, pos, ◌+ℤ◌, ◌*ℤ◌, eqb→eq, le_trans}
use Rattle.std.specs.Bool.{passes}
use Rattle.std.specs.List.{AllByRecursion}
use Rattle.std.proofs.lemmas.List.{drop_more, take-append-drop}
use Rattle.clr_num.specs.Direction.{IsDirection}
use Rattle.clr_num.specs.Lists.{numbers}
use Rattle.clr_average.proofs.Sums.{sum_over-same}
use Rattle.clr_rules.specs.Rules.{is_live, obeys, rung_at}
use Rattle.clr_rules.proofs.LiveLemmas.{live_from, obeys-length}
use Rattle.clr_season.specs.Season.{Season, IsSeason, demands, store_at, weight}
use Rattle.clr_model.specs.PathValue.{path_value, path_value_at, weighed}
use Rattle.clr_model.specs.Revenue.{earn, left, sum_stores}
use Rattle.clr_model.specs.StoreValue.{Multipliers, SumToZero}
use Rattle.clr_model.proofs.Sums.{sum_of-same}
use Rattle.clr_model.proofs.JointNumbers.{All-map_in}
use Rattle.clr_cert.specs.Conditions.{Condition, end_worth, mult_condition, path_condition, path_entry, path_of, path_sum}
use Rattle.clr_cert.specs.Entries.{CertEntries, IsCell}
use Rattle.clr_cert.specs.Lines.{stocks_of}
use Rattle.clr_cert.specs.Places.{IsWeekRung, IsWeekStore, week_numbers}
use Rattle.clr_cert.specs.Planned.{AreEntriesOf}
use Rattle.clr_written.proofs.Alls.{All-numbers, before_end, held_below, is_equal}

-- ---- the path

map-numbers : (f : ℕ → ℕ) (from : ℕ) (xs : List ℕ) (d : ℕ) → ((k : ℕ) → k < length xs → f (from + k) ≡ get_or xs k d) → map f (numbers from (length xs)) ≡ xs
map-numbers f from [] d h = refl
map-numbers f from (x ∷ xs) d h =
    let here : from ≡ from + 0 = omega arith in
    ap₂ (λ y ys. y ∷ ys) (ap f here ∙ h 0 (omega arith)) (map-numbers f (suc from) xs d (λ k less. let e : suc from + k ≡ from + suc k = omega arith in ap f e ∙ h (suc k) (omega arith)))

module _ (season : Season) (path : List ℕ) (m : Multipliers) (entries : CertEntries) (obey : IsTrue (obeys season.rules path)) (of : AreEntriesOf season path m entries) where
  pub path_is : path_of season entries ≡ path
  path_is =
      let long : length path ≡ season.rules.weeks = obeys-length season.rules path obey in
      ap (λ n. map entries.rung (numbers 1 n)) (sym long)
      ∙ map-numbers entries.rung 1 path 1 (λ k less. let e : 1 + k ≡ suc k = omega arith in ap entries.rung e ∙ of.rungs (suc k) (omega arith) (omega (arith, long, less)))

  pub path_holds : AllByRecursion (λ c. IsTrue c.holds) (map (path_condition season (path_of season entries)) (week_numbers season))
  path_holds =
      All-map_in (λ c. IsTrue c.holds) (path_condition season (path_of season entries)) (week_numbers season)
      (All-numbers (λ week. IsTrue (path_condition season (path_of season entries) week).holds) 1 season.rules.weeks
      (λ week low high. subst (λ p. IsTrue (is_live season.rules (take week p))) (sym path_is) (live_from season.rules (take week path) (drop week path) (ap (obeys season.rules) (take-append-drop week path) ∙ obey))))

  pub mult_holds : (week rung : ℕ) → SumToZero season m → IsWeekRung season week rung → IsTrue (mult_condition season entries week rung).holds
  mult_holds week rung sums place =
      is_equal (sum_stores season (λ store. entries.mult store week rung)) (pos 0)
      (sum_of-same (length season.stores) (λ i. entries.mult (suc i) week rung) (λ i. m (suc i) week rung)
      (λ i less. of.mults (suc i) week rung (record { first_store = omega arith; last_store = less; first_week = place.first_week; last_week = place.last_week; first_rung = place.first_rung; last_rung = place.last_rung }))
      ∙ sums week rung place.first_week place.last_week place.first_rung place.last_rung)

-- ---- its values

-- values that agree up to a stock have one sum
pub weighed_same : (season : Season) (store done before rung stock : ℕ) (f g : ℕ → ℤ) → ((rest : ℕ) → rest ≤ stock → f rest ≡ g rest) → weighed season store done before rung stock f ≡ weighed season store done before rung stock g
weighed_same season store done before rung stock f g same =
    sum_over-same (demands season) (λ demand. pos (weight season store (suc done) rung demand) *ℤ (earn season store before rung stock demand +ℤ f (left stock demand))) (λ demand. pos (weight season store (suc done) rung demand) *ℤ (earn season store before rung stock demand +ℤ g (left stock demand)))
    (λ demand. ap (λ v. pos (weight season store (suc done) rung demand) *ℤ (earn season store before rung stock demand +ℤ v)) (same (left stock demand) (less stock demand)))
  where
    less : (a b : ℕ) → a - min a b ≤ a
    less a b = omega arith

all_dropped : (xs : List ℕ) (n : ℕ) → length xs ≤ n → drop n xs ≡ []
all_dropped [] zero h = refl
all_dropped [] (suc n) h = refl
all_dropped (x ∷ xs) zero h = absurd (omega arith)
all_dropped (x ∷ xs) (suc n) h = all_dropped xs n (omega arith)

-- one week of a path's value
value_step : (div : ℤ → ℕ → ℤ) (season : Season) (store : ℕ) (path : List ℕ) (done stock : ℕ) → done < length path →
    path_value_at div season store path done stock ≡ div (weighed season store done (rung_at path done) (rung_at path (suc done)) stock (path_value_at div season store path (suc done))) season.base
value_step div season store path done stock less =
    let next : done + 1 ≡ suc done = omega arith in
    ap (λ rest. path_value div season store done (rung_at path done) rest stock) (drop_more path done 1 less ∙ ap (λ n. get_or path done 1 ∷ drop n path) next)

module _ (compare : ℤ → ℤ → Condition) (leans : ℤ → ℤ → Type 0) (div : ℤ → ℕ → ℤ) (laws : IsDirection leans div) (holding : (a b : ℤ) → leans a b → IsTrue (compare a b).holds) (season : Season) (path : List ℕ) (table : ℕ → ℕ → ℕ → ℤ)
    (ok : IsSeason season) (long : length path ≡ season.rules.weeks) (is : (done store stock : ℕ) → IsCell season done store stock → table done store stock ≡ path_value_at div season store path done stock) where
  entry_holds : (done store stock : ℕ) → IsCell season done store stock → IsTrue (path_entry compare season path table done store stock).holds
  entry_holds done store stock cell = by_week (done == season.rules.weeks) refl
    where
      parts : Bool → Condition
      parts b = cond b (compare (table done store stock) (end_worth season store stock)) (compare (table done store stock *ℤ pos season.base) (path_sum season path table done store stock))

      by_week : (b : Bool) → (done == season.rules.weeks) ≡ b → IsTrue (parts (done == season.rules.weeks)).holds
      by_week true e =
          let last : done ≡ season.rules.weeks = eqb→eq done season.rules.weeks (passes _ e) in
          let none : drop done path ≡ [] = all_dropped path done (omega (arith, last, long)) in
          let worth : table done store stock ≡ end_worth season store stock = is done store stock cell ∙ ap (λ rest. path_value div season store done (rung_at path done) rest stock) none in
          subst (λ b. IsTrue (parts b).holds) (sym e) (holding (table done store stock) (end_worth season store stock) (subst (λ v. leans v (end_worth season store stock)) (sym worth) (laws.same (end_worth season store stock))))
      by_week false e =
          let early : done < season.rules.weeks = before_end done season.rules.weeks cell.early e in
          let sum : ℤ = weighed season store done (rung_at path done) (rung_at path (suc done)) stock (path_value_at div season store path (suc done)) in
          let same : path_sum season path table done store stock ≡ sum =
          weighed_same season store done (rung_at path done) (rung_at path (suc done)) stock (table (suc done) store) (path_value_at div season store path (suc done))
          (λ rest le. is (suc done) store rest (record { early = early; first = cell.first; last = cell.last; held = le_trans le cell.held })) in
          let value : table done store stock ≡ div sum season.base = is done store stock cell ∙ value_step div season store path done stock (omega (arith, early, long)) in
          subst (λ b. IsTrue (parts b).holds) (sym e)
          (holding (table done store stock *ℤ pos season.base) (path_sum season path table done store stock)
          (subst₂ leans (ap (λ v. v *ℤ pos season.base) (sym value)) (sym same) (laws.divides sum season.base ok.least_base)))

  pub entries_hold : (done store : ℕ) → IsWeekStore season done store → AllByRecursion (λ c. IsTrue c.holds) (map (path_entry compare season path table done store) (stocks_of season store))
  entries_hold done store of =
      All-map_in (λ c. IsTrue c.holds) (path_entry compare season path table done store) (stocks_of season store)
      (All-numbers (λ stock. IsTrue (path_entry compare season path table done store stock).holds) 0 (suc (store_at season store).units)
      (λ stock low high. entry_holds done store stock (record { early = of.early; first = of.first; last = of.last; held = held_below stock (store_at season store).units high })))
