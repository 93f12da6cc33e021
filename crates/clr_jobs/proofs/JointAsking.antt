-- The numbers of the table of all stores together that a certificate needs.
use Rattle.std.proofs.Common.{◌≡◌, ◌∙◌, ℕ, suc, ◌+◌, ◌-◌, ◌≤◌, ◌<◌, ◌++◌, nat_lt, Bool, true, false, ℤ, pos, List, [], ◌∷◌, length, map, get_or, refl, sym, ap, ap₂, subst, subst₂, arith, Some, Contains}
use Rattle.std.proofs.lemmas.Bool.{lt-ltb, ltb-true}
use Rattle.std.specs.Prelude.{IsTrue, if◌then◌else◌}
use Rattle.std.specs.List.{flat_map}
use Rattle.clr_average.specs.Average.{IsWithin}
use Rattle.clr_num.specs.Direction.{AtLeast, AtMost, IsDirection}
use Rattle.clr_num.specs.DirectionLaws.{ceil_is_direction, floor_is_direction}
use Rattle.clr_num.specs.Lists.{numbers}
use Rattle.clr_num.specs.Rounding.{ceil, floor}
use Rattle.clr_stock.specs.Stock.{Store}
use Rattle.clr_rules.specs.declared.season_rules.Summary.{Summary}
use Rattle.clr_rules.specs.LiveSummaries.{IsAmong}
use Rattle.clr_rules.specs.Rules.{IsLiveSummary, is_live, summary}
use Rattle.clr_rules.proofs.LiveLaw.{live_pairs_lem}
use Rattle.clr_rules.proofs.LiveLemmas.{live-length, live-rung}
use Rattle.clr_season.specs.Season.{IsSeason, Season}
use Rattle.clr_model.specs.Fits.{fits}
use Rattle.clr_model.specs.JointValue.{joint_low_at, joint_rung_at, joint_rung_value, joint_top_at, joint_value, joint_value_at}
use Rattle.clr_model.specs.Revenue.{full_stocks}
use Rattle.clr_model.proofs.JointBounds.{best_live}
use Rattle.clr_rows.proofs.Prefixes.{live_summary_of}
use Rattle.clr_path.proofs.Lists.{get_or-numbers, length-numbers}
use Rattle.clr_model.specs.Stocks.{lists_of, stocks_at}
use Rattle.clr_model.specs.Stocks.{all_stocks as all_units}
use Rattle.clr_joint.specs.Tables.{Entry, HasStocks, IsJointOf, at_stocks, choices_of, values_of}
use Rattle.clr_joint.proofs.Built.{at_held, has_held}
use Rattle.clr_joint.proofs.Grid.{AreHeld, all_stocks_are, held_at}
use Rattle.clr_joint.proofs.Limits.{few_stores}
use Rattle.clr_joint.proofs.Values.{value_at_prefix}
use Rattle.clr_joint.proofs.WeekRows.{summary_within}
use Rattle.clr_cert.specs.Entries.{IsJointAnswer, IsJointCell}
use Rattle.clr_cert.specs.Places.{all_stocks}
use Rattle.clr_cert.specs.Planned.{joint_answer}
use Rattle.clr_jobs.specs.Held.{HasJoint, joint_in}

-- ---- lists of stocks

-- by the stores and by their units they are the same
same-stocks : (stores : List Store) → all_units (map (λ store. store.units) stores) ≡ all_stocks stores
same-stocks [] = refl
same-stocks (store ∷ stores) = ap (λ rest. flat_map (λ stock. map (λ more. stock ∷ more) rest) (numbers 0 (suc store.units))) (same-stocks stores)

-- each is held
stocks-held : (season : Season) (stocks : List ℕ) → Contains (all_stocks season.stores) stocks → AreHeld (full_stocks season) stocks
stocks-held season stocks (k, inside, is) =
    let lists : all_stocks season.stores ≡ map (stocks_at (full_stocks season)) (numbers 0 (lists_of (full_stocks season))) = sym (same-stocks season.stores) ∙ all_stocks_are (full_stocks season) in
    let count : length (all_stocks season.stores) ≡ lists_of (full_stocks season) = ap length lists ∙ length-numbers (stocks_at (full_stocks season)) 0 (lists_of (full_stocks season)) in
    let none : 0 + k ≡ k = omega arith in
    let lt : k < lists_of (full_stocks season) = subst (λ n. k < n) count inside in
    let there : get_or (all_stocks season.stores) k stocks ≡ stocks_at (full_stocks season) k = ap (λ xs. get_or xs k stocks) lists ∙ (get_or-numbers (stocks_at (full_stocks season)) 0 (lists_of (full_stocks season)) k stocks lt ∙ ap (stocks_at (full_stocks season)) none) in
    subst (AreHeld (full_stocks season)) (sym there ∙ is) (held_at (full_stocks season) k lt)

-- ---- the table

module _ (season : Season) (table : List Entry) (facts : IsSeason season) (is : IsJointOf season table) where
  at-prefix : (prefix stocks : List ℕ) → IsTrue (is_live season.rules prefix) → AreHeld (full_stocks season) stocks → HasJoint table season.rules.weeks (length prefix) (summary season.rules prefix) stocks
  at-prefix prefix stocks live held = record {
    entry = subst (λ pairs. IsAmong pairs (length prefix) (summary season.rules prefix)) (sym is.pairs) (((live_pairs_lem season.rules facts.rules).pairs (length prefix) (summary season.rules prefix)).1 (live-length season.rules prefix live, (prefix, refl, live, refl)));
    values = subst (λ values. HasStocks values stocks) (sym (is.values prefix live)) (has_held (λ at. (joint_low_at season prefix at, joint_top_at season prefix at)) (full_stocks season) stocks held);
    rung = λ early. subst (λ choices. HasStocks choices stocks) (sym (is.choices prefix live ∙ ap (λ b. if b then map (λ at. (at, joint_rung_at season prefix at)) (all_units (full_stocks season)) else []) (lt-ltb (length prefix) season.rules.weeks early))) (has_held (joint_rung_at season prefix) (full_stocks season) stocks held);
  }

  -- each number that is needed is there
  pub joint-asked : (done : ℕ) (s : Summary) (stocks : List ℕ) → IsJointCell season done s stocks → HasJoint table season.rules.weeks done s stocks
  joint-asked done s stocks cell =
      let live : IsLiveSummary season.rules done s = cell.live in
      subst₂ (λ n t. HasJoint table season.rules.weeks n t stocks) live.1 live.3 (at-prefix live.0 stocks live.2 (stocks-held season stocks cell.held))

  rung-told : (prefix stocks : List ℕ) (early : Bool) → IsTrue (is_live season.rules prefix) → AreHeld (full_stocks season) stocks → nat_lt (length prefix) season.rules.weeks ≡ early →
      (if early then at_stocks (choices_of table (length prefix) (summary season.rules prefix)) stocks 0 else 0) ≡ (if early then joint_rung_at season prefix stocks else 0)
  rung-told prefix stocks true live held early =
      ap (λ choices. at_stocks choices stocks 0) (is.choices prefix live ∙ ap (λ b. if b then map (λ at. (at, joint_rung_at season prefix at)) (all_units (full_stocks season)) else []) early)
      ∙ at_held (joint_rung_at season prefix) (full_stocks season) stocks 0 held
  rung-told prefix stocks false live held early = refl

  -- it is the answer after each live prefix with the summary
  pub joint-told : (prefix stocks : List ℕ) → IsTrue (is_live season.rules prefix) → Contains (all_stocks season.stores) stocks →
      joint_in (Some table) season.rules.weeks (length prefix) (summary season.rules prefix) stocks ≡ joint_answer season prefix stocks
  joint-told prefix stocks live among =
      let held : AreHeld (full_stocks season) stocks = stocks-held season stocks among in
      let values : at_stocks (values_of table (length prefix) (summary season.rules prefix)) stocks (pos 0, pos 0) ≡ (joint_low_at season prefix stocks, joint_top_at season prefix stocks) =
      ap (λ values. at_stocks values stocks (pos 0, pos 0)) (is.values prefix live) ∙ at_held (λ at. (joint_low_at season prefix at, joint_top_at season prefix at)) (full_stocks season) stocks (pos 0, pos 0) held in
      ap₂ (λ (rung : ℕ) (values : ℤ × ℤ). (rung, values.0, values.1)) (rung-told prefix stocks (nat_lt (length prefix) season.rules.weeks) live held refl) values

  value-ranged : (leans : ℤ → ℤ → Type 0) (div : ℤ → ℕ → ℤ) → IsDirection leans div → (prefix stocks : List ℕ) → IsTrue (fits season) → IsTrue (is_live season.rules prefix) → AreHeld (full_stocks season) stocks → IsWithin 1000000000000000000 (joint_value_at div season prefix stocks)
  value-ranged leans div laws prefix stocks small live held =
      subst (IsWithin 1000000000000000000) (value_at_prefix div season prefix stocks live)
      (summary_within leans div laws season facts (few_stores season facts small) (length prefix) (summary season.rules prefix) stocks (live-length season.rules prefix live) (live_summary_of season.rules prefix live) held)

  rung-ranged : (prefix stocks : List ℕ) (early : Bool) → IsTrue (is_live season.rules prefix) → nat_lt (length prefix) season.rules.weeks ≡ early → length prefix < season.rules.weeks →
      (1 ≤ (if early then joint_rung_at season prefix stocks else 0)) × ((if early then joint_rung_at season prefix stocks else 0) ≤ length season.rules.prices)
  rung-ranged prefix stocks true live early lt = live-rung season.rules prefix (joint_rung_at season prefix stocks) (best_live season prefix (λ rung. joint_rung_value floor season prefix rung stocks (λ rest. joint_value floor season (season.rules.weeks - suc (length prefix)) (prefix ++ rung ∷ []) rest)) live lt)
  rung-ranged prefix stocks false live early lt = let yes : nat_lt (length prefix) season.rules.weeks ≡ true = lt-ltb (length prefix) season.rules.weeks lt in cc

  rung-none : (prefix stocks : List ℕ) (early : Bool) → nat_lt (length prefix) season.rules.weeks ≡ early → length prefix ≡ season.rules.weeks → (if early then joint_rung_at season prefix stocks else 0) ≡ 0
  rung-none prefix stocks true early all = let lt : length prefix < season.rules.weeks = ltb-true (length prefix) season.rules.weeks early in absurd (omega arith)
  rung-none prefix stocks false early all = refl

  answer-ranged : (prefix stocks : List ℕ) → IsTrue (fits season) → IsTrue (is_live season.rules prefix) → AreHeld (full_stocks season) stocks → IsJointAnswer season (length prefix) (joint_answer season prefix stocks)
  answer-ranged prefix stocks small live held = record {
    rung = rung-ranged prefix stocks (nat_lt (length prefix) season.rules.weeks) live refl;
    none = rung-none prefix stocks (nat_lt (length prefix) season.rules.weeks) refl;
    low = value-ranged AtMost floor floor_is_direction prefix stocks small live held;
    top = value-ranged AtLeast ceil ceil_is_direction prefix stocks small live held;
  }

  -- and in its range
  pub joint-ranged : (done : ℕ) (s : Summary) (stocks : List ℕ) → IsJointCell season done s stocks → IsJointAnswer season done (joint_in (Some table) season.rules.weeks done s stocks)
  joint-ranged done s stocks cell =
      let live : IsLiveSummary season.rules done s = cell.live in
      subst₂ (λ n t. IsJointAnswer season n (joint_in (Some table) season.rules.weeks n t stocks)) live.1 live.3
      (subst (IsJointAnswer season (length live.0)) (sym (joint-told live.0 stocks live.2 cell.held)) (answer-ranged live.0 stocks cell.fit live.2 (stocks-held season stocks cell.held)))
