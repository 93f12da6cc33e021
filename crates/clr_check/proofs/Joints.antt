-- An accepted certificate's numbers of all stores together: the upper cover, and its own rungs reach the lower.
use Rattle.std.proofs.Common.{◌≡◌, ℕ, ◌+◌, ◌*◌, ◌<◌, ◌≤◌, Bool, true, false, cond, ◌==◌, refl, sym, ap, ◌∙◌, subst, subst₂, arith, suc, zero, List, [], ◌∷◌, ◌++◌, length, map, get_or, IsTrue, ℤ, pos, ◌*ℤ◌, ◌≤ℤ◌, eq-eqb, length-append}
use Rattle.std.specs.Str.{bytes_eq}
use Rattle.std.specs.List.{AllByRecursion, flat_map}
use Rattle.std.proofs.lemmas.Slice.Eq.{bytes_eq-Decides}
use Rattle.std.proofs.lemmas.Option.{get_or_from_slice_get, slice_get_within}
use lib.ListN.{length-map}
use Rattle.clr_num.specs.Lists.{numbers}
use Rattle.clr_stock.specs.Stock.{Store}
use Rattle.clr_rules.specs.declared.season_rules.Summary.{Summary}
use Rattle.clr_rules.specs.LiveSummaries.{leads_at}
use Rattle.clr_rules.specs.Rules.{is_live, summary}
use Rattle.clr_rules.proofs.LiveLemmas.{live-length}
use Rattle.clr_rules.proofs.LiveLists.{leads-live, live-front}
use Rattle.clr_rules.proofs.SummaryLemmas.{summary-more}
use Rattle.clr_season.specs.Season.{Season, IsSeason}
use Rattle.clr_model.specs.Expected.{Encloses, Tops}
use Rattle.clr_model.specs.Fits.{fits, stock_lists}
use Rattle.clr_model.specs.JointLaws.{FloorReached}
use Rattle.clr_model.specs.JointValue.{IsJointCover, IsJointFloor, end_value}
use Rattle.clr_model.specs.JointWeek.{joint_base, joint_weighed}
use Rattle.clr_model.specs.Revenue.{full_stocks}
use Rattle.clr_model.specs.StoreValue.{AreStocks, last_rung}
use Rattle.clr_model.proofs.Abiding.{length_more}
use Rattle.clr_model.proofs.JointNumbers.{joint_covers_top_lem, joint_floor_reached_lem}
use Rattle.clr_model.proofs.StoreBounds.{full-stocks}
use Rattle.clr_model.proofs.Sums.{All-map}
use Rattle.clr_cert.specs.declared.no.NoKind.TheVariants as kind
use Rattle.clr_cert.specs.declared.place.Place.TheVariants.{Exact, Joint}
use Rattle.clr_cert.specs.Accepts.{Accepts, cert_tree}
use Rattle.clr_cert.specs.Conditions.{Condition, at_least, at_most, conditions, joint_conditions, joint_low_condition, joint_top_condition, leading_rungs, rung_condition}
use Rattle.clr_cert.specs.Entries.{CertEntries}
use Rattle.clr_cert.specs.Lines.{stocks_at}
use Rattle.clr_cert.specs.Places.{all_stocks}
use Rattle.clr_cert.specs.Reading.{ended_lines, entries_in, index_of, told}
use Rattle.clr_cert.proofs.Among.{Among, FirstPassing, among_flat_map, among_map, among_numbers, exact_place, first_passing, joint_place}
use Rattle.clr_check.proofs.Told.{at_most_is, equal_is, holds_at}
use Rattle.clr_check.proofs.Bounds.{has_summary, of_live_rung, short_of, summary_among}

-- ---- lists of stocks

-- stocks that all stores may have are among all lists of stocks
lists_among : (stores : List Store) (stocks : List ℕ) → length stocks ≡ length stores → ((i : ℕ) → get_or stocks i 0 ≤ get_or (map (λ store. store.units) stores) i 0) → Among (all_stocks stores) stocks
lists_among [] [] long held = record { at = 0; here = refl }
lists_among [] (x ∷ stocks) long held = absurd (no long)
  where
    no : suc (length stocks) ≡ 0 → ⊥
    no h = omega arith
lists_among (store ∷ stores) [] long held = absurd (no long)
  where
    no : 0 ≡ suc (length stores) → ⊥
    no h = omega arith
lists_among (store ∷ stores) (x ∷ stocks) long held =
    let least : x ≤ store.units = held 0 in
    among_flat_map (λ stock. map (λ rest. stock ∷ rest) (all_stocks stores)) (numbers 0 (suc store.units)) x (x ∷ stocks) (among_numbers 0 (suc store.units) x (omega arith) (omega arith))
    (among_map (λ rest. x ∷ rest) (all_stocks stores) stocks (lists_among stores stocks (less long) (λ i. held (suc i))))
  where
    less : suc (length stocks) ≡ suc (length stores) → length stocks ≡ length stores
    less h = omega arith

pub stocks_among : (season : Season) (stocks : List ℕ) → AreStocks season stocks → Among (all_stocks season.stores) stocks
stocks_among season stocks h = lists_among season.stores stocks h.count (λ i. h.held (suc i))

length-blocks : {X : Type 0} (f : ℕ → List X) (size from count : ℕ) → ((n : ℕ) → length (f n) ≡ size) → length (flat_map f (numbers from count)) ≡ count * size
length-blocks f size from zero each = omega arith
length-blocks f size from (suc count) each =
    let front : length (f from ++ flat_map f (numbers (suc from) count)) ≡ length (f from) + length (flat_map f (numbers (suc from) count)) = length-append (f from) (flat_map f (numbers (suc from) count)) in
    let one : length (f from) ≡ size = each from in
    let rest : length (flat_map f (numbers (suc from) count)) ≡ count * size = length-blocks f size (suc from) count each in
    grind arith

pub length-all_stocks : (stores : List Store) → length (all_stocks stores) ≡ stock_lists stores
length-all_stocks [] = refl
length-all_stocks (store ∷ stores) =
    length-blocks (λ stock. map (λ rest. stock ∷ rest) (all_stocks stores)) (stock_lists stores) 0 (suc store.units) (λ n. length-map (all_stocks stores) (λ rest. n ∷ rest) ∙ length-all_stocks stores)
    ∙ (let more : suc store.units ≡ store.units + 1 = omega arith in ap (λ n. n * stock_lists stores) more)

-- the number of a list of stocks is that of this list
pub record Indexed (season : Season) (stocks : List ℕ) : Type 0 where
  pub less : index_of season stocks < stock_lists season.stores
  pub same : stocks_at season (index_of season stocks) ≡ stocks

pub indexed : (season : Season) (stocks : List ℕ) → AreStocks season stocks → Indexed season stocks
indexed season stocks h =
    let first : FirstPassing (bytes_eq stocks) (all_stocks season.stores) = first_passing (bytes_eq stocks) (all_stocks season.stores) stocks (stocks_among season stocks h) ((bytes_eq-Decides stocks stocks).1 refl) in
    let same : stocks ≡ first.item = (bytes_eq-Decides stocks first.item).0 first.passing in
    record {
      less = subst (λ n. index_of season stocks < n) (length-all_stocks season.stores) (slice_get_within (all_stocks season.stores) (index_of season stocks) first.item first.here);
      same = get_or_from_slice_get (all_stocks season.stores) (index_of season stocks) first.item [] first.here ∙ sym same;
    }

-- ---- the conditions of a line

-- the two numbers, and the rung, by prefix
abbrev pub rung_after : CertEntries → Season → List ℕ → List ℕ → ℕ
rung_after entries season prefix stocks = (entries.joint (length prefix) (summary season.rules prefix) stocks).0

abbrev pub low_at : CertEntries → Season → List ℕ → List ℕ → ℤ
low_at entries season prefix stocks = (entries.joint (length prefix) (summary season.rules prefix) stocks).1

abbrev pub top_at : CertEntries → Season → List ℕ → List ℕ → ℤ
top_at entries season prefix stocks = (entries.joint (length prefix) (summary season.rules prefix) stocks).2

abbrev all_hold : List Condition → Type 0
all_hold list = AllByRecursion (λ c. IsTrue c.holds) list

-- at the end
pub record JointEnd (season : Season) (stocks : List ℕ) (answer : ℕ × ℤ × ℤ) : Type 0 where
  pub low : answer.1 ≤ℤ end_value season stocks
  pub top : end_value season stocks ≤ℤ answer.2

-- before a week
pub record JointWeek (season : Season) (entries : CertEntries) (done : ℕ) (s : Summary) (stocks : List ℕ) (answer : ℕ × ℤ × ℤ) : Type 0 where
  pub rung : IsTrue (leads_at season.rules done s answer.0)
  pub low : IsTrue (joint_low_condition season entries done s stocks answer).holds
  pub top : AllByRecursion (λ rung. IsTrue (joint_top_condition season entries done s stocks answer.2 rung).holds) (leading_rungs season done s)

module _ (season : Season) (entries : CertEntries) (done : ℕ) (s : Summary) (stocks : List ℕ) (answer : ℕ × ℤ × ℤ) where
  abbrev parts_of : Bool → List Condition
  parts_of b = cond b (at_most kind.JointLow answer.1 (end_value season stocks) ∷ at_least kind.JointTop answer.2 (end_value season stocks) ∷ [])
      (rung_condition season done s answer.0 ∷ joint_low_condition season entries done s stocks answer ∷ map (joint_top_condition season entries done s stocks answer.2) (leading_rungs season done s))

  pub joint_end : done ≡ season.rules.weeks → AllByRecursion (λ c. IsTrue c.holds) (joint_conditions season entries done s stocks answer) → JointEnd season stocks answer
  joint_end last h =
      let all : all_hold (parts_of true) = subst (λ b. all_hold (parts_of b)) (eq-eqb done season.rules.weeks last) h in
      record { low = at_most_is _ _ all.0; top = at_most_is _ _ all.1.0 }

  pub joint_week : done < season.rules.weeks → AllByRecursion (λ c. IsTrue c.holds) (joint_conditions season entries done s stocks answer) → JointWeek season entries done s stocks answer
  joint_week early h =
      let other : (done == season.rules.weeks) ≡ false = grind arith in
      let all : all_hold (parts_of false) = subst (λ b. all_hold (parts_of b)) other h in
      record { rung = all.0; low = all.1.0; top = All-map (λ c. IsTrue c.holds) (joint_top_condition season entries done s stocks answer.2) (leading_rungs season done s) all.1.1 }

-- ---- after a live prefix

module _ (season : Season) (bytes : List ℕ) (ok : IsSeason season) (accepted : Accepts season bytes) (fit : IsTrue (fits season)) where
  pub joints_hold : (prefix stocks : List ℕ) → AreStocks season stocks → IsTrue (is_live season.rules prefix) →
      AllByRecursion (λ c. IsTrue c.holds) (joint_conditions season (entries_in season (ended_lines bytes)) (length prefix) (summary season.rules prefix) stocks ((entries_in season (ended_lines bytes)).joint (length prefix) (summary season.rules prefix) stocks))
  unfolding conditions
  joints_hold prefix stocks held live =
      let entries : CertEntries = entries_in season (ended_lines bytes) in
      let at : Indexed season stocks = indexed season stocks held in
      subst (λ xs. AllByRecursion (λ c. IsTrue c.holds) (joint_conditions season entries (length prefix) (summary season.rules prefix) xs (entries.joint (length prefix) (summary season.rules prefix) xs))) at.same
      (holds_at season bytes (Joint (length prefix) (summary season.rules prefix) (index_of season stocks)) accepted
      (joint_place season (length prefix) (summary season.rules prefix) (index_of season stocks) fit (live-length season.rules prefix live) (summary_among season prefix ok live) at.less)).conditions

  pub tops_cover : IsJointCover season (top_at (entries_in season (ended_lines bytes)) season)
  tops_cover = record {
    week = λ prefix rung stocks held next.
        let entries : CertEntries = entries_in season (ended_lines bytes) in
        let live : IsTrue (is_live season.rules prefix) = live-front season.rules prefix rung next in
        let here = joint_week season entries (length prefix) (summary season.rules prefix) stocks (entries.joint (length prefix) (summary season.rules prefix) stocks) (short_of season prefix rung next) (joints_hold prefix stocks held live) in
        let one : IsTrue (joint_top_condition season entries (length prefix) (summary season.rules prefix) stocks (top_at entries season prefix stocks) rung).holds
        = of_live_rung season prefix rung (λ r. IsTrue (joint_top_condition season entries (length prefix) (summary season.rules prefix) stocks (top_at entries season prefix stocks) r).holds) next here.top in
        subst₂ (λ n t. joint_weighed season (length prefix) (last_rung prefix) rung stocks (λ week rest. (entries.joint n t rest).2) ≤ℤ (top_at entries season prefix stocks *ℤ pos (joint_base season)))
        (sym (length_more prefix rung)) (sym (summary-more season.rules prefix rung)) (at_most_is _ _ one);
    end = λ prefix stocks held live whole.
        let entries : CertEntries = entries_in season (ended_lines bytes) in
        (joint_end season entries (length prefix) (summary season.rules prefix) stocks (entries.joint (length prefix) (summary season.rules prefix) stocks) whole (joints_hold prefix stocks held live)).top;
  }

  pub lows_reached : IsJointFloor season (rung_after (entries_in season (ended_lines bytes)) season) (low_at (entries_in season (ended_lines bytes)) season)
  lows_reached = record {
    live = λ prefix stocks held live short.
        let entries : CertEntries = entries_in season (ended_lines bytes) in
        let here = joint_week season entries (length prefix) (summary season.rules prefix) stocks (entries.joint (length prefix) (summary season.rules prefix) stocks) short (joints_hold prefix stocks held live) in
        sym (leads-live season.rules (length prefix) (summary season.rules prefix) prefix (rung_after entries season prefix stocks) (has_summary season prefix live)) ∙ here.rung;
    week = λ prefix stocks held live short.
        let entries : CertEntries = entries_in season (ended_lines bytes) in
        let rung : ℕ = rung_after entries season prefix stocks in
        let here = joint_week season entries (length prefix) (summary season.rules prefix) stocks (entries.joint (length prefix) (summary season.rules prefix) stocks) short (joints_hold prefix stocks held live) in
        subst₂ (λ n t. (low_at entries season prefix stocks *ℤ pos (joint_base season)) ≤ℤ joint_weighed season (length prefix) (last_rung prefix) rung stocks (λ week rest. (entries.joint n t rest).1))
        (sym (length_more prefix rung)) (sym (summary-more season.rules prefix rung)) (at_most_is _ _ here.low);
    end = λ prefix stocks held live whole.
        let entries : CertEntries = entries_in season (ended_lines bytes) in
        (joint_end season entries (length prefix) (summary season.rules prefix) stocks (entries.joint (length prefix) (summary season.rules prefix) stocks) whole (joints_hold prefix stocks held live)).low;
  }

  -- what the line of the totals says
  pub exact_low : told season (ended_lines bytes) Exact 0 ≡ low_at (entries_in season (ended_lines bytes)) season [] (full_stocks season)
  unfolding conditions
  exact_low = equal_is _ _ (holds_at season bytes Exact accepted (exact_place season fit)).conditions.0

  pub exact_top : told season (ended_lines bytes) Exact 1 ≡ top_at (entries_in season (ended_lines bytes)) season [] (full_stocks season)
  unfolding conditions
  exact_top = equal_is _ _ (holds_at season bytes Exact accepted (exact_place season fit)).conditions.1.0

  pub top_tops : Tops season (told season (ended_lines bytes) Exact 1)
  top_tops tree abides =
      subst (λ t. Tops season t) (sym exact_top)
      (λ tree abides. joint_covers_top_lem season (top_at (entries_in season (ended_lines bytes)) season) ok tops_cover [] season.rules.weeks (full_stocks season) tree (omega arith) (full-stocks season) abides) tree abides

  pub tree_reached : IsTrue (is_live season.rules []) → FloorReached season (rung_after (entries_in season (ended_lines bytes)) season) (low_at (entries_in season (ended_lines bytes)) season) [] season.rules.weeks (full_stocks season)
  tree_reached live = joint_floor_reached_lem season (rung_after (entries_in season (ended_lines bytes)) season) (low_at (entries_in season (ended_lines bytes)) season) ok lows_reached [] season.rules.weeks (full_stocks season) (omega arith) (full-stocks season) live

  pub tree_encloses : IsTrue (is_live season.rules []) → Encloses season (told season (ended_lines bytes) Exact 0) (told season (ended_lines bytes) Exact 1) (cert_tree season bytes)
  tree_encloses live =
      subst (λ t. Encloses season t (told season (ended_lines bytes) Exact 1) (cert_tree season bytes)) (sym exact_low)
      (record { least = (tree_reached live).least; most = top_tops (cert_tree season bytes) (tree_reached live).abides })
