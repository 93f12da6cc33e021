-- An accepted certificate's values cover under its multipliers, so no policy that abides earns more than its bound.
use Rattle.std.proofs.Common.{◌≡◌, ℕ, ◌<◌, ◌≤◌, false, cond, ◌==◌, refl, sym, ap, ◌∙◌, subst, subst₂, arith, suc, List, [], ◌∷◌, ◌++◌, length, map, IsTrue, ℤ, pos, ◌-ℤ◌, ◌*ℤ◌, ◌≤ℤ◌, eq-eqb}
use Rattle.std.specs.List.{AllByRecursion}
use Rattle.clr_rules.specs.declared.season_rules.Summary.{Summary}
use Rattle.clr_rules.specs.LiveSummaries.{leads_at, live_summaries, IsIn}
use Rattle.clr_rules.specs.Rules.{HasSummary, is_live, summary}
use Rattle.clr_rules.proofs.ListTests.{All-filter_numbers}
use Rattle.clr_rules.proofs.LiveLemmas.{live-length, live-rung}
use Rattle.clr_rules.proofs.LiveLists.{leads-live, live-by, live-front}
use Rattle.clr_rules.proofs.SummaryLemmas.{live-keeps, summary-more}
use Rattle.clr_rules.proofs.Sweeps.{live_in}
use Rattle.clr_season.specs.Season.{Season, IsSeason}
use Rattle.clr_model.specs.Expected.{Tops}
use Rattle.clr_model.specs.PathValue.{IsStock, weighed}
use Rattle.clr_model.specs.Revenue.{full_stocks, of_store, sum_stores}
use Rattle.clr_model.specs.StoreValue.{IsCover, SumToZero, last_rung}
use Rattle.clr_model.proofs.Abiding.{length_more}
use Rattle.clr_model.proofs.StoreBounds.{covers_top_lem, full-stocks}
use Rattle.clr_model.proofs.Sums.{All-flat_map, All-map, sum_of-same}
use Rattle.clr_cert.specs.declared.no.NoKind.TheVariants as kind
use Rattle.clr_cert.specs.declared.place.Place.TheVariants.{Bound, Mult, Value}
use Rattle.clr_cert.specs.Accepts.{Accepts, claims_in}
use Rattle.clr_cert.specs.Conditions.{at_least, conditions, end_worth, leading_rungs, opening_total, value_condition, value_conditions}
use Rattle.clr_cert.specs.Entries.{CertEntries}
use Rattle.clr_cert.specs.Lines.{full_stock, opening, stocks_of}
use Rattle.clr_cert.specs.Reading.{ended_lines, entries_in, told}
use Rattle.clr_cert.proofs.Among.{Among, bound_place, mult_place, value_place}
use Rattle.clr_check.proofs.Told.{All-among, at_most_is, equal_is, holds_at}
use Rattle.clr_check.proofs.Paths.{full_is, stock_among}

-- ---- live prefixes and their summaries

-- a live prefix's summary is among the live ones
pub summary_among : (season : Season) (prefix : List ℕ) → IsSeason season → IsTrue (is_live season.rules prefix) → Among (live_summaries season.rules (length prefix)) (summary season.rules prefix)
summary_among season prefix ok live =
    let there : IsIn (live_summaries season.rules (length prefix)) (summary season.rules prefix)
    = live_in season.rules (length prefix) (summary season.rules prefix) ok.rules (live-length season.rules prefix live) (live-by season.rules (length prefix) (summary season.rules prefix) (prefix, refl, live, refl)) in
    record { at = there.0; here = there.1 }

pub has_summary : (season : Season) (prefix : List ℕ) → IsTrue (is_live season.rules prefix) → HasSummary season.rules (length prefix) (summary season.rules prefix) prefix
has_summary season prefix live = record { weeks = refl; keeps = live-keeps season.rules prefix live; same = refl }

-- what holds of each rung that leads on holds of a rung after which the prefix is live
pub of_live_rung : (season : Season) (prefix : List ℕ) (rung : ℕ) (P : ℕ → Type 0) → IsTrue (is_live season.rules (prefix ++ rung ∷ [])) →
    AllByRecursion P (leading_rungs season (length prefix) (summary season.rules prefix)) → P rung
of_live_rung season prefix rung P next all =
    let range = live-rung season.rules prefix rung next in
    let live : IsTrue (is_live season.rules prefix) = live-front season.rules prefix rung next in
    All-filter_numbers P (leads_at season.rules (length prefix) (summary season.rules prefix)) 1 (length season.rules.prices) rung range.0 (omega arith)
    (leads-live season.rules (length prefix) (summary season.rules prefix) prefix rung (has_summary season prefix live) ∙ next) all

pub short_of : (season : Season) (prefix : List ℕ) (rung : ℕ) → IsTrue (is_live season.rules (prefix ++ rung ∷ [])) → length prefix < season.rules.weeks
short_of season prefix rung next =
    let most : length (prefix ++ rung ∷ []) ≤ season.rules.weeks = live-length season.rules (prefix ++ rung ∷ []) next in
    let more : length (prefix ++ rung ∷ []) ≡ suc (length prefix) = length_more prefix rung in
    omega arith

-- ---- the multipliers

pub sums_to_zero : (season : Season) (bytes : List ℕ) → Accepts season bytes → SumToZero season (entries_in season (ended_lines bytes)).mult
unfolding conditions
sums_to_zero season bytes accepted week rung a b c d =
    equal_is (sum_stores season (λ store. (entries_in season (ended_lines bytes)).mult store week rung)) (pos 0) (holds_at season bytes (Mult week rung) accepted (mult_place season week rung a b c d)).conditions.0

-- ---- the values

module _ (season : Season) (entries : CertEntries) (done store : ℕ) (s : Summary) (stock : ℕ) where
  pub value_end : done ≡ season.rules.weeks → AllByRecursion (λ c. IsTrue c.holds) (value_conditions season entries done store s stock) → end_worth season store stock ≤ℤ entries.value done store s stock
  value_end last h =
      at_most_is _ _ (subst (λ b. AllByRecursion (λ c. IsTrue c.holds) (cond b (at_least kind.Value (entries.value done store s stock) (end_worth season store stock) ∷ []) (map (value_condition season entries done store s stock) (leading_rungs season done s)))) (eq-eqb done season.rules.weeks last) h).0

  pub value_week : done < season.rules.weeks → AllByRecursion (λ c. IsTrue c.holds) (value_conditions season entries done store s stock) →
      AllByRecursion (λ rung. IsTrue (value_condition season entries done store s stock rung).holds) (leading_rungs season done s)
  value_week early h =
      let other : (done == season.rules.weeks) ≡ false = grind arith in
      All-map (λ c. IsTrue c.holds) (value_condition season entries done store s stock) (leading_rungs season done s)
      (subst (λ b. AllByRecursion (λ c. IsTrue c.holds) (cond b (at_least kind.Value (entries.value done store s stock) (end_worth season store stock) ∷ []) (map (value_condition season entries done store s stock) (leading_rungs season done s)))) other h)

-- the values by prefix
abbrev pub value_after : Season → CertEntries → ℕ → List ℕ → ℕ → ℤ
value_after season entries store prefix stock = entries.value (length prefix) store (summary season.rules prefix) stock

-- the conditions of a store's values after a live prefix at a stock
values_hold : (season : Season) (bytes : List ℕ) → IsSeason season → Accepts season bytes → (store : ℕ) (prefix : List ℕ) (stock : ℕ) → IsStock season store stock → IsTrue (is_live season.rules prefix) →
    AllByRecursion (λ c. IsTrue c.holds) (value_conditions season (entries_in season (ended_lines bytes)) (length prefix) store (summary season.rules prefix) stock)
unfolding conditions
values_hold season bytes ok accepted store prefix stock held live =
    let entries : CertEntries = entries_in season (ended_lines bytes) in
    All-among (λ x. AllByRecursion (λ c. IsTrue c.holds) (value_conditions season entries (length prefix) store (summary season.rules prefix) x)) (stocks_of season store) stock
    (All-flat_map (λ c. IsTrue c.holds) (value_conditions season entries (length prefix) store (summary season.rules prefix)) (stocks_of season store)
    (holds_at season bytes (Value (length prefix) store (summary season.rules prefix)) accepted
    (value_place season (length prefix) store (summary season.rules prefix) (live-length season.rules prefix live) held.first held.last (summary_among season prefix ok live))).conditions)
    (stock_among season store stock held)

pub values_cover : (season : Season) (bytes : List ℕ) → IsSeason season → Accepts season bytes →
    IsCover season (entries_in season (ended_lines bytes)).mult (value_after season (entries_in season (ended_lines bytes)))
values_cover season bytes ok accepted = record {
  week = λ store prefix rung stock held next.
      let entries : CertEntries = entries_in season (ended_lines bytes) in
      let live : IsTrue (is_live season.rules prefix) = live-front season.rules prefix rung next in
      let here : IsTrue (value_condition season entries (length prefix) store (summary season.rules prefix) stock rung).holds
      = of_live_rung season prefix rung (λ r. IsTrue (value_condition season entries (length prefix) store (summary season.rules prefix) stock r).holds) next
      (value_week season entries (length prefix) store (summary season.rules prefix) stock (short_of season prefix rung next) (values_hold season bytes ok accepted store prefix stock held live)) in
      subst₂ (λ n t. weighed season store (length prefix) (last_rung prefix) rung stock (entries.value n store t) ≤ℤ ((value_after season entries store prefix stock -ℤ entries.mult store (suc (length prefix)) rung) *ℤ pos season.base))
      (sym (length_more prefix rung)) (sym (summary-more season.rules prefix rung))
      (at_most_is _ _ here);
  end = λ store prefix stock held live whole.
      value_end season (entries_in season (ended_lines bytes)) (length prefix) store (summary season.rules prefix) stock whole (values_hold season bytes ok accepted store prefix stock held live);
}

-- ---- the bound

pub bound_tops : (season : Season) (bytes : List ℕ) → IsSeason season → Accepts season bytes → Tops season (claims_in season (ended_lines bytes)).bound
unfolding conditions
bound_tops season bytes ok accepted tree abides =
    let entries : CertEntries = entries_in season (ended_lines bytes) in
    let total : told season (ended_lines bytes) Bound 0 ≡ opening_total season (λ done store. entries.value done store (opening season)) = equal_is _ _ (holds_at season bytes Bound accepted (bound_place season)).conditions.0 in
    let sum : opening_total season (λ done store. entries.value done store (opening season)) ≡ sum_stores season (λ store. value_after season entries store [] (of_store (full_stocks season) store))
    = sum_of-same (length season.stores) (λ i. entries.value 0 (suc i) (opening season) (full_stock season (suc i))) (λ i. value_after season entries (suc i) [] (of_store (full_stocks season) (suc i))) (λ i p. ap (entries.value 0 (suc i) (opening season)) (sym (full_is season (suc i)))) in
    subst (λ t. Tops season t) (sym (total ∙ sum))
    (λ tree abides. covers_top_lem season entries.mult (value_after season entries) ok (sums_to_zero season bytes accepted) (values_cover season bytes ok accepted) [] season.rules.weeks (full_stocks season) tree (omega arith) (full-stocks season) abides) tree abides
