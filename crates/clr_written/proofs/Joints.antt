-- A plan's values of all stores together meet the conditions of their lines.
use Rattle.std.proofs.Common.{◌≡◌, ℕ, ◌<◌, ◌≤◌, Bool, true, false, cond, ◌==◌, nat_lt, refl, sym, ap, ap₂, ◌∙◌, subst, subst₂, arith, suc, zero, List, [], ◌∷◌, ◌++◌, length, map, get_or, IsTrue, ℤ, pos, ◌+ℤ◌, ◌*ℤ◌, ◌≤ℤ◌, eqb→eq, Contains}
use Rattle.std.specs.Bool.{passes}
use Rattle.std.specs.List.{AllByRecursion}
use Rattle.std.proofs.lemmas.Option.{get_or_from_slice_get, slice_get_within}
use Rattle.clr_num.specs.Lists.{numbers}
use Rattle.clr_average.proofs.Sums.{sum_over-same}
use Rattle.clr_stock.specs.Stock.{Store, no_store}
use Rattle.clr_rules.specs.declared.season_rules.Summary.{Summary}
use Rattle.clr_rules.specs.Rules.{is_live, next_summary, summary}
use Rattle.clr_rules.proofs.LiveLemmas.{live-length}
use Rattle.clr_rules.proofs.LiveLists.{leads-live}
use Rattle.clr_rules.proofs.SummaryLemmas.{summary-more}
use Rattle.clr_season.specs.Season.{Season, IsSeason}
use Rattle.clr_model.specs.Expected.{week_chance}
use Rattle.clr_model.specs.Fits.{fits}
use Rattle.clr_model.specs.JointValue.{IsJointCover, IsJointFloor, end_value, joint_low_at, joint_rung_at, joint_top_at}
use Rattle.clr_model.specs.JointWeek.{joint_base, joint_weighed}
use Rattle.clr_model.specs.Policies.{joint_demands}
use Rattle.clr_model.specs.Revenue.{earn, full_stocks, of_store, stocks_left, sum_stores}
use Rattle.clr_model.specs.StoreValue.{AreStocks, Multipliers, last_rung}
use Rattle.clr_model.proofs.Abiding.{length_more}
use Rattle.clr_model.proofs.StoreBounds.{stocks-left}
use Rattle.clr_model.proofs.JointNumbers.{All-flat_map_in, All-map_in}
use Rattle.clr_model.proofs.JointBounds.{table_reaches, tops_cover}
use Rattle.clr_model.proofs.Sums.{All-imply}
use Rattle.clr_cert.specs.declared.no.NoKind.TheVariants as kind
use Rattle.clr_cert.specs.Conditions.{Condition, at_least, at_most, joint_conditions, joint_low_condition, joint_sum, joint_top_condition, leading_rungs, low_after, rung_condition, top_after}
use Rattle.clr_cert.specs.Entries.{CertEntries}
use Rattle.clr_cert.specs.Lines.{stocks_at}
use Rattle.clr_cert.specs.Places.{IsJointPlace, all_stocks}
use Rattle.clr_cert.specs.Planned.{AreEntriesOf, joint_answer}
use Rattle.clr_cert.proofs.StockLists.{list_held}
use Rattle.clr_cert.proofs.Walking.{is_live_in}
use Rattle.clr_cert.proofs.Among.{Among, among_flat_map, among_map, among_numbers}
use Rattle.clr_written.proofs.Alls.{All-at, All-numbers, before_end, held_below, is_at_most}
use Rattle.clr_written.proofs.Entries.{among_held}
use Rattle.clr_written.proofs.Values.{each_leading, full_is, has_summary}

-- ---- lists of stocks

-- one stock for each store, from 0 to what it opens with
abbrev AreHeld : List Store → List ℕ → Type 0
AreHeld stores stocks = (length stocks ≡ length stores) × ((i : ℕ) → get_or stocks i 0 ≤ (get_or stores i no_store).units)

all_held : (stores : List Store) → AllByRecursion (AreHeld stores) (all_stocks stores)
all_held [] = ((refl, λ i. omega arith), tt)
all_held (store ∷ stores) =
    All-flat_map_in (AreHeld (store ∷ stores)) (λ stock. map (λ rest. stock ∷ rest) (all_stocks stores)) (numbers 0 (suc store.units))
    (All-numbers (λ stock. AllByRecursion (AreHeld (store ∷ stores)) (map (λ rest. stock ∷ rest) (all_stocks stores))) 0 (suc store.units)
    (λ stock low high. All-map_in (AreHeld (store ∷ stores)) (λ rest. stock ∷ rest) (all_stocks stores)
    (All-imply (AreHeld stores) (λ rest. AreHeld (store ∷ stores) (stock ∷ rest)) (all_stocks stores) (λ rest held. longer stock rest (held_below stock store.units high) held) (all_held stores))))
  where
    longer : (stock : ℕ) (rest : List ℕ) → stock ≤ store.units → AreHeld stores rest → AreHeld (store ∷ stores) (stock ∷ rest)
    longer stock rest least held = (ap suc held.0, elim [ zero ↦ least | suc i ↦ held.1 i ])

held_are : (season : Season) (stocks : List ℕ) → Contains (all_stocks season.stores) stocks → AreStocks season stocks
held_are season stocks h =
    let among : Among (all_stocks season.stores) stocks = among_held (all_stocks season.stores) stocks h in
    let held : AreHeld season.stores stocks = All-at (AreHeld season.stores) (all_stocks season.stores) among.at stocks (all_held season.stores) among.here in
    record { count = held.0; held = elim [ zero ↦ none (of_store (full_stocks season) 0) | suc i ↦ subst (λ n. get_or stocks i 0 ≤ n) (sym (full_is season (suc i))) (held.1 i) ] }
  where
    none : (n : ℕ) → 0 ≤ n
    none n = omega arith

lists_among : (stores : List Store) (stocks : List ℕ) → AreHeld stores stocks → Among (all_stocks stores) stocks
lists_among [] [] held = record { at = 0; here = refl }
lists_among [] (x ∷ stocks) held = absurd (no held.0)
  where
    no : suc (length stocks) ≡ 0 → ⊥
    no h = omega arith
lists_among (store ∷ stores) [] held = absurd (no held.0)
  where
    no : 0 ≡ suc (length stores) → ⊥
    no h = omega arith
lists_among (store ∷ stores) (x ∷ stocks) held =
    let least : x ≤ store.units = held.1 0 in
    among_flat_map (λ stock. map (λ rest. stock ∷ rest) (all_stocks stores)) (numbers 0 (suc store.units)) x (x ∷ stocks) (among_numbers 0 (suc store.units) x (omega arith) (omega arith))
    (among_map (λ rest. x ∷ rest) (all_stocks stores) stocks (lists_among stores stocks (less held.0, λ i. held.1 (suc i))))
  where
    less : suc (length stocks) ≡ suc (length stores) → length stocks ≡ length stores
    less h = omega arith

are_held : (season : Season) (stocks : List ℕ) → AreStocks season stocks → Contains (all_stocks season.stores) stocks
are_held season stocks h =
    let among : Among (all_stocks season.stores) stocks = lists_among season.stores stocks (h.count, λ i. subst (λ n. get_or stocks i 0 ≤ n) (full_is season (suc i)) (h.held (suc i))) in
    (among.at, slice_get_within (all_stocks season.stores) among.at stocks among.here, get_or_from_slice_get (all_stocks season.stores) among.at stocks stocks among.here)

-- values that agree where stocks are left have one sum
joint_same : (season : Season) (done before rung : ℕ) (stocks : List ℕ) (f g : List ℕ → ℤ) → AreStocks season stocks → ((rest : List ℕ) → AreStocks season rest → f rest ≡ g rest) →
    joint_weighed season done before rung stocks (λ week rest. f rest) ≡ joint_weighed season done before rung stocks (λ week rest. g rest)
joint_same season done before rung stocks f g held same =
    sum_over-same (joint_demands season)
    (λ week. week_chance season (suc done) rung week *ℤ (sum_stores season (λ store. earn season store before rung (of_store stocks store) (of_store week store)) +ℤ f (stocks_left stocks week)))
    (λ week. week_chance season (suc done) rung week *ℤ (sum_stores season (λ store. earn season store before rung (of_store stocks store) (of_store week store)) +ℤ g (stocks_left stocks week)))
    (λ week. ap (λ v. week_chance season (suc done) rung week *ℤ (sum_stores season (λ store. earn season store before rung (of_store stocks store) (of_store week store)) +ℤ v)) (same (stocks_left stocks week) (stocks-left season stocks week held)))

-- ---- the values

module _ (season : Season) (path : List ℕ) (m : Multipliers) (entries : CertEntries) (ok : IsSeason season) (fit : IsTrue (fits season)) (of : AreEntriesOf season path m entries) where
  -- the entries after a rung that keeps a prefix live
  after : (prefix : List ℕ) (rung : ℕ) (rest : List ℕ) → IsTrue (is_live season.rules (prefix ++ rung ∷ [])) → AreStocks season rest →
      entries.joint (suc (length prefix)) (next_summary season.rules (summary season.rules prefix) rung) rest ≡ joint_answer season (prefix ++ rung ∷ []) rest
  after prefix rung rest next held =
      ap₂ (λ n t. entries.joint n t rest) (sym (length_more prefix rung)) (sym (summary-more season.rules prefix rung)) ∙ of.joints (prefix ++ rung ∷ []) rest fit next (are_held season rest held)

  top_holds : (prefix : List ℕ) (stocks : List ℕ) (rung : ℕ) → AreStocks season stocks → IsTrue (is_live season.rules (prefix ++ rung ∷ [])) →
      IsTrue (joint_top_condition season entries (length prefix) (summary season.rules prefix) stocks (joint_top_at season prefix stocks) rung).holds
  top_holds prefix stocks rung held next =
      let cover : IsJointCover season (joint_top_at season) = tops_cover season ok in
      is_at_most (joint_sum season (length prefix) (summary season.rules prefix) rung stocks (top_after season entries (length prefix) (summary season.rules prefix) rung)) (joint_top_at season prefix stocks *ℤ pos (joint_base season))
      (subst (λ v. v ≤ℤ (joint_top_at season prefix stocks *ℤ pos (joint_base season)))
      (sym (joint_same season (length prefix) (last_rung prefix) rung stocks (top_after season entries (length prefix) (summary season.rules prefix) rung) (joint_top_at season (prefix ++ rung ∷ [])) held (λ rest h. ap (λ (answer : ℕ × ℤ × ℤ). answer.2) (after prefix rung rest next h))))
      (cover.week prefix rung stocks held next))

  low_holds : (prefix : List ℕ) (stocks : List ℕ) → AreStocks season stocks → IsTrue (is_live season.rules prefix) → length prefix < season.rules.weeks →
      IsTrue (joint_low_condition season entries (length prefix) (summary season.rules prefix) stocks (joint_rung_at season prefix stocks, joint_low_at season prefix stocks, joint_top_at season prefix stocks)).holds
  low_holds prefix stocks held live short =
      let reached : IsJointFloor season (joint_rung_at season) (joint_low_at season) = table_reaches season ok in
      let rung : ℕ = joint_rung_at season prefix stocks in
      let next : IsTrue (is_live season.rules (prefix ++ rung ∷ [])) = reached.live prefix stocks held live short in
      is_at_most (joint_low_at season prefix stocks *ℤ pos (joint_base season)) (joint_sum season (length prefix) (summary season.rules prefix) rung stocks (low_after season entries (length prefix) (summary season.rules prefix) rung))
      (subst (λ v. (joint_low_at season prefix stocks *ℤ pos (joint_base season)) ≤ℤ v)
      (sym (joint_same season (length prefix) (last_rung prefix) rung stocks (low_after season entries (length prefix) (summary season.rules prefix) rung) (joint_low_at season (prefix ++ rung ∷ [])) held (λ rest h. ap (λ (answer : ℕ × ℤ × ℤ). answer.1) (after prefix rung rest next h))))
      (reached.week prefix stocks held live short))

  joint_holds : (prefix stocks : List ℕ) → IsTrue (is_live season.rules prefix) → AreStocks season stocks →
      AllByRecursion (λ c. IsTrue c.holds) (joint_conditions season entries (length prefix) (summary season.rules prefix) stocks (joint_answer season prefix stocks))
  joint_holds prefix stocks live held = by_week (length prefix == season.rules.weeks) refl
    where
      s : Summary
      s = summary season.rules prefix

      low : ℤ
      low = joint_low_at season prefix stocks

      top : ℤ
      top = joint_top_at season prefix stocks

      rung_of : Bool → ℕ
      rung_of b = cond b (joint_rung_at season prefix stocks) 0

      parts : ℕ → Bool → List Condition
      parts rung b = cond b (at_most kind.JointLow low (end_value season stocks) ∷ at_least kind.JointTop top (end_value season stocks) ∷ [])
          (rung_condition season (length prefix) s rung ∷ joint_low_condition season entries (length prefix) s stocks (rung, low, top) ∷ map (joint_top_condition season entries (length prefix) s stocks top) (leading_rungs season (length prefix) s))

      by_week : (b : Bool) → (length prefix == season.rules.weeks) ≡ b → AllByRecursion (λ c. IsTrue c.holds) (parts (rung_of (nat_lt (length prefix) season.rules.weeks)) (length prefix == season.rules.weeks))
      by_week true e =
          let last : length prefix ≡ season.rules.weeks = eqb→eq (length prefix) season.rules.weeks (passes _ e) in
          subst (λ b. AllByRecursion (λ c. IsTrue c.holds) (parts (rung_of (nat_lt (length prefix) season.rules.weeks)) b)) (sym e) (
            is_at_most low (end_value season stocks) ((table_reaches season ok).end prefix stocks held live last),
            (is_at_most (end_value season stocks) top ((tops_cover season ok).end prefix stocks held live last), tt),
          )
      by_week false e =
          let early : length prefix < season.rules.weeks = before_end (length prefix) season.rules.weeks (live-length season.rules prefix live) e in
          let less : nat_lt (length prefix) season.rules.weeks ≡ true = grind arith in
          let rung : ℕ = joint_rung_at season prefix stocks in
          subst₂ (λ a b. AllByRecursion (λ c. IsTrue c.holds) (parts (rung_of a) b)) (sym less) (sym e) (
            leads-live season.rules (length prefix) s prefix rung (has_summary season prefix live) ∙ (table_reaches season ok).live prefix stocks held live early,
            (
              low_holds prefix stocks held live early,
              All-map_in (λ c. IsTrue c.holds) (joint_top_condition season entries (length prefix) s stocks top) (leading_rungs season (length prefix) s)
                  (each_leading season prefix (λ r. IsTrue (joint_top_condition season entries (length prefix) s stocks top r).holds) live (λ r next. top_holds prefix stocks r held next)),
            ),
          )

  pub joints_hold : (done : ℕ) (s : Summary) (index : ℕ) → IsJointPlace season done s index →
      AllByRecursion (λ c. IsTrue c.holds) (joint_conditions season entries done s (stocks_at season index) (entries.joint done s (stocks_at season index)))
  joints_hold done s index at =
      let (prefix, weeks, live, same) = is_live_in season done s ok at.early at.live in
      let stocks : List ℕ = stocks_at season index in
      let held : Contains (all_stocks season.stores) stocks = list_held season.stores index stocks at.within refl in
      subst₂ (λ n t. AllByRecursion (λ c. IsTrue c.holds) (joint_conditions season entries n t stocks (entries.joint n t stocks))) weeks same
      (subst (λ answer. AllByRecursion (λ c. IsTrue c.holds) (joint_conditions season entries (length prefix) (summary season.rules prefix) stocks answer)) (sym (of.joints prefix stocks fit live held))
      (joint_holds prefix stocks live (held_are season stocks held)))
