-- A plan's store values meet the conditions of their lines.
use Rattle.std.proofs.Common.{◌≡◌, ℕ, ◌≤◌, Bool, true, false, cond, ◌==◌, refl, sym, ap₂, ◌∙◌, subst, subst₂, arith, suc, zero, List, [], ◌∷◌, ◌++◌, length, map, get_or, IsTrue, ℤ, pos, ◌-ℤ◌, ◌*ℤ◌, ◌≤ℤ◌, eqb→eq, le_trans}
use Rattle.std.specs.Bool.{passes}
use Rattle.std.specs.List.{AllByRecursion, flat_map}
use Rattle.clr_num.specs.Rounding.{ceil}
use Rattle.clr_stock.specs.Stock.{Store, no_store}
use Rattle.clr_rules.specs.declared.season_rules.Summary.{Summary}
use Rattle.clr_rules.specs.LiveSummaries.{IsIn, leads_at, live_summaries}
use Rattle.clr_rules.specs.Rules.{HasSummary, is_live, next_summary, rungs, summary}
use Rattle.clr_rules.proofs.ListTests.{All-filter}
use Rattle.clr_rules.proofs.LiveLemmas.{live-length, live-rung}
use Rattle.clr_rules.proofs.LiveLists.{leads-live}
use Rattle.clr_rules.proofs.SummaryLemmas.{live-keeps, summary-more}
use Rattle.clr_season.specs.Season.{Season, IsSeason, store_at}
use Rattle.clr_model.specs.PathValue.{IsStock}
use Rattle.clr_model.specs.Revenue.{full_stocks, of_store}
use Rattle.clr_model.specs.StoreValue.{IsCover, Multipliers, last_rung, store_value_at}
use Rattle.clr_model.proofs.Abiding.{length_more}
use Rattle.clr_model.proofs.StoreBounds.{store_values_cover}
use Rattle.clr_model.proofs.Sums.{All-imply}
use Rattle.clr_model.proofs.JointNumbers.{All-flat_map_in, All-map_in}
use Rattle.clr_cert.specs.declared.no.NoKind.TheVariants as kind
use Rattle.clr_cert.specs.Conditions.{Condition, at_least, end_worth, leading_rungs, value_condition, value_conditions}
use Rattle.clr_cert.specs.Entries.{CertEntries, IsCell}
use Rattle.clr_cert.specs.Lines.{stocks_of}
use Rattle.clr_cert.specs.Places.{IsWeekStore}
use Rattle.clr_cert.specs.Planned.{AreEntriesOf}
use Rattle.clr_cert.proofs.Walking.{is_live_in}
use Rattle.clr_written.proofs.Alls.{All-numbers, held_below, is_at_most}
use Rattle.clr_written.proofs.Paths.{weighed_same}

-- ---- stocks

get_or-units : (stores : List Store) (i : ℕ) → get_or (map (λ store. store.units) stores) i 0 ≡ (get_or stores i no_store).units
get_or-units [] i = refl
get_or-units (store ∷ stores) zero = refl
get_or-units (store ∷ stores) (suc i) = get_or-units stores i

-- the opening stock of a store
pub full_is : (season : Season) (store : ℕ) → of_store (full_stocks season) store ≡ (store_at season store).units
full_is season zero = refl
full_is season (suc i) = get_or-units season.stores i

stock_of : (season : Season) (done store stock : ℕ) → IsCell season done store stock → IsStock season store stock
stock_of season done store stock cell = record { first = cell.first; last = cell.last; held = subst (λ n. stock ≤ n) (sym (full_is season store)) cell.held }

-- ---- live prefixes and the rungs after them

pub has_summary : (season : Season) (prefix : List ℕ) → IsTrue (is_live season.rules prefix) → HasSummary season.rules (length prefix) (summary season.rules prefix) prefix
has_summary season prefix live = record { weeks = refl; keeps = live-keeps season.rules prefix live; same = refl }

-- what holds of each rung after which a prefix is live holds of each that leads on
pub each_leading : (season : Season) (prefix : List ℕ) (P : ℕ → Type 0) → IsTrue (is_live season.rules prefix) → ((rung : ℕ) → IsTrue (is_live season.rules (prefix ++ rung ∷ [])) → P rung) →
    AllByRecursion P (leading_rungs season (length prefix) (summary season.rules prefix))
each_leading season prefix P live h =
    All-imply (λ rung. leads_at season.rules (length prefix) (summary season.rules prefix) rung ≡ true) P (leading_rungs season (length prefix) (summary season.rules prefix))
    (λ rung leads. h rung (sym (leads-live season.rules (length prefix) (summary season.rules prefix) prefix rung (has_summary season prefix live)) ∙ leads))
    (All-filter (leads_at season.rules (length prefix) (summary season.rules prefix)) (rungs season.rules))

-- ---- the values

module _ (season : Season) (path : List ℕ) (m : Multipliers) (entries : CertEntries) (ok : IsSeason season) (of : AreEntriesOf season path m entries) where
  -- before a week, on a rung after which the prefix is live
  week_holds : (prefix : List ℕ) (store stock rung : ℕ) → IsTrue (is_live season.rules prefix) → IsCell season (length prefix) store stock → IsTrue (is_live season.rules (prefix ++ rung ∷ [])) →
      IsTrue (value_condition season entries (length prefix) store (summary season.rules prefix) stock rung).holds
  week_holds prefix store stock rung live cell next =
      let cover : IsCover season m (store_value_at ceil m season) = store_values_cover season m ok in
      let long : length (prefix ++ rung ∷ []) ≡ suc (length prefix) = length_more prefix rung in
      let most : length (prefix ++ rung ∷ []) ≤ season.rules.weeks = live-length season.rules (prefix ++ rung ∷ []) next in
      let range = live-rung season.rules prefix rung next in
      let here : entries.value (length prefix) store (summary season.rules prefix) stock ≡ store_value_at ceil m season store prefix stock = of.values prefix store stock live cell in
      let mult : entries.mult store (suc (length prefix)) rung ≡ m store (suc (length prefix)) rung =
      of.mults store (suc (length prefix)) rung (record { first_store = cell.first; last_store = cell.last; first_week = omega arith; last_week = omega (arith, long, most); first_rung = range.0; last_rung = range.1 }) in
      let after : (rest : ℕ) → rest ≤ stock → entries.value (suc (length prefix)) store (next_summary season.rules (summary season.rules prefix) rung) rest ≡ store_value_at ceil m season store (prefix ++ rung ∷ []) rest =
      λ rest le. ap₂ (λ n t. entries.value n store t rest) (sym long) (sym (summary-more season.rules prefix rung)) ∙ of.values (prefix ++ rung ∷ []) store rest next (record { early = most; first = cell.first; last = cell.last; held = le_trans le cell.held }) in
      is_at_most _ _
      (subst₂ (λ (a b : ℤ). a ≤ℤ b)
      (sym (weighed_same season store (length prefix) (last_rung prefix) rung stock (entries.value (suc (length prefix)) store (next_summary season.rules (summary season.rules prefix) rung)) (store_value_at ceil m season store (prefix ++ rung ∷ [])) after))
      (ap₂ (λ v w. (v -ℤ w) *ℤ pos season.base) (sym here) (sym mult))
      (cover.week store prefix rung stock (stock_of season (length prefix) store stock cell) next))

  value_holds : (prefix : List ℕ) (store stock : ℕ) → IsTrue (is_live season.rules prefix) → IsCell season (length prefix) store stock →
      AllByRecursion (λ c. IsTrue c.holds) (value_conditions season entries (length prefix) store (summary season.rules prefix) stock)
  value_holds prefix store stock live cell = by_week (length prefix == season.rules.weeks) refl
    where
      s : Summary
      s = summary season.rules prefix

      parts : Bool → List Condition
      parts b = cond b (at_least kind.Value (entries.value (length prefix) store s stock) (end_worth season store stock) ∷ []) (map (value_condition season entries (length prefix) store s stock) (leading_rungs season (length prefix) s))

      by_week : (b : Bool) → (length prefix == season.rules.weeks) ≡ b → AllByRecursion (λ c. IsTrue c.holds) (parts (length prefix == season.rules.weeks))
      by_week true e =
          subst (λ b. AllByRecursion (λ c. IsTrue c.holds) (parts b)) (sym e) (
            is_at_most (end_worth season store stock) (entries.value (length prefix) store s stock)
                (subst (λ v. end_worth season store stock ≤ℤ v) (sym (of.values prefix store stock live cell))
                ((store_values_cover season m ok).end store prefix stock (stock_of season (length prefix) store stock cell) live (eqb→eq (length prefix) season.rules.weeks (passes _ e)))),
            tt,
          )
      by_week false e =
          subst (λ b. AllByRecursion (λ c. IsTrue c.holds) (parts b)) (sym e)
          (All-map_in (λ c. IsTrue c.holds) (value_condition season entries (length prefix) store s stock) (leading_rungs season (length prefix) s)
          (each_leading season prefix (λ rung. IsTrue (value_condition season entries (length prefix) store s stock rung).holds) live (λ rung next. week_holds prefix store stock rung live cell next)))

  pub values_hold : (done store : ℕ) (s : Summary) → IsWeekStore season done store → IsIn (live_summaries season.rules done) s →
      AllByRecursion (λ c. IsTrue c.holds) (flat_map (value_conditions season entries done store s) (stocks_of season store))
  values_hold done store s at live =
      let (prefix, weeks, is_live_prefix, same) = is_live_in season done s ok at.early live in
      subst₂ (λ n t. AllByRecursion (λ c. IsTrue c.holds) (flat_map (value_conditions season entries n store t) (stocks_of season store))) weeks same
      (All-flat_map_in (λ c. IsTrue c.holds) (value_conditions season entries (length prefix) store (summary season.rules prefix)) (stocks_of season store)
      (All-numbers (λ stock. AllByRecursion (λ c. IsTrue c.holds) (value_conditions season entries (length prefix) store (summary season.rules prefix) stock)) 0 (suc (store_at season store).units)
      (λ stock low high. value_holds prefix store stock is_live_prefix (record { early = live-length season.rules prefix is_live_prefix; first = at.first; last = at.last; held = held_below stock (store_at season store).units high }))))
