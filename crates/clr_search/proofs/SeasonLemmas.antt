-- Live prefixes of a season, and the rows of its tables.
use Rattle.std.proofs.Common.{◌≡◌, ℕ, suc, ◌+◌, ◌≤◌, ◌<◌, ℤ, pos, List, [], ◌∷◌, ◌++◌, length, get_or, map, true, false, Some, None, refl, sym, ap, ap₂, ◌∙◌, subst, arith, add-one, append-nil}
use Rattle.std.proofs.Math.ListN.{get_or-append}
use Rattle.std.specs.List.{AllByRecursion}
use Rattle.clr_stock.specs.Stock.{IsStore}
use Rattle.clr_num.specs.Rounding.{ceil}
use Rattle.clr_rules.specs.declared.season_rules.Summary.{Summary}
use Rattle.clr_rules.specs.LiveSummaries.{IsAmong, at_week, live_pairs, live_summaries}
use Rattle.clr_rules.specs.Rules.{Rulebook, HasSummary, IsInRange, IsPath, IsRulebook, is_live, next_if_kept, next_summary, obeys}
use Rattle.clr_rules.proofs.LiveLaw.{live_pairs_lem, week_is}
use Rattle.clr_rules.proofs.LiveLists.{in_range, leads-live, live-by, live-reached}
use Rattle.clr_rules.proofs.Sweeps.{kept_some, not_kept_no_lead, not_live_no_lead, rung_leads}
use Rattle.clr_rules.proofs.SummaryLemmas.{live-keeps, summary-more}
use Rattle.clr_rules.proofs.LiveLemmas.{live_from, live_witness, live-length, obeys-are_rungs, obeys-length, rungs_of}
use Rattle.clr_season.specs.Season.{Season, IsSeason, store_at}
use Rattle.clr_model.specs.StoreValue.{Multipliers, store_value_at}
use Rattle.clr_model.proofs.Ladders.{path_on_ladder}
use Rattle.clr_model.proofs.Sizes.{store_within}
use Rattle.clr_model.proofs.Sums.{All-append}
use Rattle.clr_storedp.specs.Tables.{Entry, IsTableOf, stocks, table_pairs, values_of}
use Rattle.clr_rows.proofs.Places.{get_or-numbers, length-numbers}
use Rattle.clr_search.specs.Along.{IsPrefix}
use Rattle.clr_search.specs.Settings.{Stands}

-- ---- live prefixes

pub live_ladder : (rules : Rulebook) (prefix : List ℕ) → is_live rules prefix ≡ true → AllByRecursion (λ rung. (1 ≤ rung) × (rung ≤ length rules.prices)) prefix
live_ladder rules prefix live =
    let (more, good) = live_witness rules prefix live in
    (All-append (λ rung. (1 ≤ rung) × (rung ≤ length rules.prices)) prefix more (rungs_of rules [] (prefix ++ more) good)).0

-- a path that obeys is live, and a live list of the season's length obeys
pub obeys_live : (rules : Rulebook) (path : List ℕ) → obeys rules path ≡ true → is_live rules path ≡ true
obeys_live rules path good = live_from rules path [] (ap (obeys rules) (append-nil path) ∙ good)

pub path_is : (rules : Rulebook) (path : List ℕ) → obeys rules path ≡ true → IsPath rules path
path_is rules path good = record { weeks = obeys-length rules path good; rungs = obeys-are_rungs rules path good }

pub prefix_is : (rules : Rulebook) (prefix : List ℕ) → is_live rules prefix ≡ true → IsPrefix rules prefix
prefix_is rules prefix live =
    let (more, good) = live_witness rules prefix live in
    record {
      weeks = live-length rules prefix live;
      rungs = λ k lt. let whole = path_on_ladder rules (prefix ++ more) (path_is rules (prefix ++ more) good) k (omega (arith, length_more more, lt)) in
          subst (λ r. (1 ≤ r) × (r ≤ length rules.prices)) (get_or-append prefix more 1 k lt) whole;
    }
  where
    length_more : (more : List ℕ) → length prefix ≤ length (prefix ++ more)
    length_more more = longer prefix
      where
        longer : (xs : List ℕ) → length xs ≤ length (xs ++ more)
        longer [] = omega arith
        longer (x ∷ xs) = let rest = longer xs in omega arith

-- ---- one rung more

module _ (rules : Rulebook) (book : IsRulebook rules) (prefix : List ℕ) (s : Summary) (stands : Stands rules s prefix) (early : length prefix < rules.weeks) (rung : ℕ) (pairs : List (ℕ × Summary)) (of : pairs ≡ live_pairs rules) where
  has : HasSummary rules (length prefix) s prefix
  has = record { weeks = refl; keeps = live-keeps rules prefix stands.live; same = stands.same }

  week : at_week (length prefix + 1) pairs ≡ live_summaries rules (suc (length prefix))
  week = ap₂ at_week (add-one (length prefix)) of ∙ week_is rules (suc (length prefix)) early

  pub summary_in_range : IsInRange rules s
  summary_in_range = in_range rules (length prefix) s book (omega arith) (live-reached rules (length prefix) s (live-by rules (length prefix) s (prefix, refl, stands.live, stands.same)))

  pub longer_live : (t : Summary) → Some t ≡ next_if_kept rules (length prefix) s rung → IsAmong pairs (length prefix + 1) t → (is_live rules (prefix ++ rung ∷ []) ≡ true) × Stands rules t (prefix ++ rung ∷ [])
  longer_live t kept there =
      let live : is_live rules (prefix ++ rung ∷ []) ≡ true = sym (leads-live rules (length prefix) s prefix rung has) ∙ rung_leads rules (length prefix) s t rung (at_week (length prefix + 1) pairs) kept week there in
      (live, record { live = live; same = summary-more rules prefix rung ∙ (ap (λ t. next_summary rules t rung) stands.same ∙ sym (kept_some rules (length prefix) s t rung kept).1) })

  pub longer_dead : (t : Summary) → Some t ≡ next_if_kept rules (length prefix) s rung → (IsAmong pairs (length prefix + 1) t → ⊥) → is_live rules (prefix ++ rung ∷ []) ≡ false
  longer_dead t kept absent =
      sym (leads-live rules (length prefix) s prefix rung has) ∙ not_live_no_lead rules (length prefix) s t rung (at_week (length prefix + 1) pairs) book early kept week absent

  pub longer_broken : None ≡ next_if_kept rules (length prefix) s rung → is_live rules (prefix ++ rung ∷ []) ≡ false
  longer_broken none = sym (leads-live rules (length prefix) s prefix rung has) ∙ not_kept_no_lead rules (length prefix) s rung none

-- ---- a store's row at the summary of a live prefix

module _ (m : Multipliers) (season : Season) (ok : IsSeason season) (table : List Entry) (store : ℕ) (first : 1 ≤ store) (last : store ≤ length season.stores) (is : IsTableOf ceil m season store table) (prefix : List ℕ) (s : Summary) (stands : Stands season.rules s prefix) where
  pub has_row : IsAmong (table_pairs table) (length prefix) s
  has_row =
      subst (λ (ps : List (ℕ × Summary)). IsAmong ps (length prefix) s) (sym is.pairs)
      (((live_pairs_lem season.rules ok.rules).pairs (length prefix) s).1 (live-length season.rules prefix stands.live, (prefix, refl, stands.live, stands.same)))

  row_is : values_of table (length prefix) s ≡ map (store_value_at ceil m season store prefix) (stocks season store)
  row_is = ap (values_of table (length prefix)) (sym stands.same) ∙ is.values prefix stands.live

  pub row_size : (row : List ℤ) → row ≡ values_of table (length prefix) s → length row ≡ suc (store_at season store).units
  row_size row e = ap length (e ∙ row_is) ∙ length-numbers (store_value_at ceil m season store prefix) 0 (suc (store_at season store).units)

  pub row_short : (row : List ℤ) → row ≡ values_of table (length prefix) s → length row ≤ 2001
  row_short row e =
      let holds : IsStore (store_at season store) = store_within season store ok first last in
      let units : (store_at season store).units ≤ 2000 = holds.units in
      let size = row_size row e in
      omega (arith, size, units)

  pub row_value : (row : List ℤ) (stock : ℕ) → row ≡ values_of table (length prefix) s → stock ≤ (store_at season store).units → get_or row stock (pos 0) ≡ store_value_at ceil m season store prefix stock
  row_value row stock e held =
      let none : 0 + stock ≡ stock = omega arith in
      ap (λ r. get_or r stock (pos 0)) (e ∙ row_is)
      ∙ (get_or-numbers (store_value_at ceil m season store prefix) 0 (suc (store_at season store).units) stock (pos 0) (omega arith)
      ∙ ap (store_value_at ceil m season store prefix) none)
