-- The conditions of a store's values, one stock and one rung after another.
use Rattle.std.proofs.Common.{◌≡◌, ℕ, ◌+◌, ◌-◌, ◌*◌, ◌<◌, ◌≤◌, true, false, cond, ◌==◌, refl, sym, ap, ap₂, ◌∙◌, subst, arith, suc, List, [], ◌∷◌, map, length, get_or, take, drop, slice_get, Some, None, Option, ℤ, pos, ◌*ℤ◌, ◌-ℤ◌, eq-eqb, IsTrue, mul-le-mul_right}
use Rattle.std.specs.Prelude.{is_some}
use Rattle.std.proofs.lemmas.List.{get_or-take, get_or-drop}
use Rattle.std.proofs.lemmas.Option.{slice_get_within}
use Rattle.std.specs.List.{flat_map}
use Rattle.clr_num.specs.Lists.{numbers}
use Rattle.clr_average.specs.Average.{IsWithin}
use Rattle.clr_rules.specs.declared.season_rules.Summary.{Summary}
use Rattle.clr_rules.specs.LiveSummaries.{at_week, is_live_summary, leads_at, live_pairs, live_summaries}
use Rattle.clr_rules.specs.Rules.{IsInRange, next_summary, rungs}
use Rattle.clr_rules.proofs.LiveLaw.{week_is}
use Rattle.clr_rules.proofs.LiveLists.{in_range, live-reached}
use Rattle.clr_season.specs.Season.{Season, IsSeason, store_at}
use Rattle.clr_model.specs.PathValue.{weighed}
use Rattle.clr_cert.specs.declared.no.NoKind.TheVariants as kind
use Rattle.clr_cert.specs.Conditions.{at_least, end_worth, leading_rungs, value_condition, value_conditions}
use Rattle.clr_cert.specs.Entries.{CertEntries, most_entry}
use Rattle.clr_check.specs.declared.faults.Fault.{Fault}
use Rattle.clr_check.specs.Faults.{AreRows, IsValueOf, first_fault, rung_conditions}
use Rattle.clr_check.specs.Weeks.{AreEntries}
use Rattle.clr_check.proofs.EntryLemmas.{weighed_same}
use Rattle.clr_check.proofs.Firsts.{filter_blocks, first_is, none_so_far}

-- ---- rows

-- the live summaries that the code has
pub live_week : (season : Season) (pairs : List (ℕ × Summary)) (done : ℕ) → pairs ≡ live_pairs season.rules → done ≤ season.rules.weeks → at_week done pairs ≡ live_summaries season.rules done
live_week season pairs done is early = ap (at_week done) is ∙ week_is season.rules done early

-- a row ends within the rows
pub row_inside : (season : Season) (store done place width : ℕ) (rows : List ℤ) (s : Summary) (pairs : List (ℕ × Summary)) → pairs ≡ live_pairs season.rules → done ≤ season.rules.weeks → AreRows season store done rows →
    slice_get (at_week done pairs) place ≡ Some s → width ≡ suc (store_at season store).units → (place + 1) * width ≤ length rows
row_inside season store done place width rows s pairs is early are there wide =
    let less : place < length (live_summaries season.rules done) = subst (λ l. place < length l) (live_week season pairs done is early) (slice_get_within (at_week done pairs) place s there) in
    let count : ℕ = length (live_summaries season.rules done) in
    let part : (place + 1) * suc (store_at season store).units ≤ count * suc (store_at season store).units = mul-le-mul_right (suc (store_at season store).units) (omega arith) in
    subst (λ w. (place + 1) * w ≤ length rows) (sym wide) (chain part are.size)
  where
    chain : {a b c : ℕ} → a ≤ b → b ≤ c → a ≤ c
    chain p q = omega arith

get_or-row : (width place stock : ℕ) (rows : List ℤ) → stock < width → get_or (take width (drop (place * width) rows)) stock (pos 0) ≡ get_or rows (place * width + stock) (pos 0)
get_or-row width place stock rows less = get_or-take width (drop (place * width) rows) stock (pos 0) less ∙ get_or-drop (place * width) rows stock (pos 0)

-- its entries
pub row_entries : (season : Season) (store done place width : ℕ) (rows row : List ℤ) → AreRows season store done rows → (place + 1) * width ≤ length rows → width ≡ suc (store_at season store).units → row ≡ take width (drop (place * width) rows) → length row ≡ width → AreEntries season store row
row_entries season store done place width rows row are inside wide is size = record {
  size = size ∙ wide;
  small = λ k less.
      let k_less : k < width = omega (arith, less, size) in
      subst (IsWithin most_entry) (sym (ap (λ (r : List ℤ). get_or r k (pos 0)) is ∙ get_or-row width place k rows k_less)) (are.small (place * width + k) (let e : (place + 1) * width ≡ place * width + width = more place width in omega (arith, inside, k_less, e)));
}
  where
    more : (a b : ℕ) → (a + 1) * b ≡ a * b + b
    more a b = grind arith

-- ---- one rung

-- where a rung leads, what the code compares is the rung's condition
pub rung_is : (season : Season) (entries : CertEntries) (done store rung stock place width : ℕ) (s : Summary) (entry mult left right : ℤ) (mults rows row : List ℤ) (pairs : List (ℕ × Summary)) (found : Option Fault) →
    pairs ≡ live_pairs season.rules → done < season.rules.weeks → 1 ≤ rung → rung ≤ length season.rules.prices → stock ≤ (store_at season store).units →
    leads_at season.rules done s rung ≡ true → slice_get (at_week (suc done) pairs) place ≡ Some (next_summary season.rules s rung) → width ≡ suc (store_at season store).units → row ≡ take width (drop (place * width) rows) →
    left ≡ (entry -ℤ mult) *ℤ pos season.base → mult ≡ get_or mults (rung - 1) (pos 0) → right ≡ weighed season store done s.last rung stock (λ rest. get_or row rest (pos 0)) → found ≡ first_fault (at_least kind.Value left right ∷ []) →
    IsValueOf season entries done store mults rows → entries.value done store s stock ≡ entry → found ≡ first_fault (rung_conditions season entries done store s stock rung)
rung_is season entries done store rung stock place width s entry mult left right mults rows row pairs found is early low high held leads there wide row_is left_is mult_is right_is found_is of here =
    let m : entries.mult store (suc done) rung ≡ mult = of.mults_are rung low high ∙ sym mult_is in
    let left_same : left ≡ (entries.value done store s stock -ℤ entries.mult store (suc done) rung) *ℤ pos season.base = left_is ∙ ap₂ (λ a b. (a -ℤ b) *ℤ pos season.base) (sym here) (sym m) in
    let at : slice_get (live_summaries season.rules (suc done)) place ≡ Some (next_summary season.rules s rung) = ap (λ (l : List Summary). slice_get l place) (sym (live_week season pairs (suc done) is early)) ∙ there in
    let values : (rest : ℕ) → rest ≤ stock → get_or row rest (pos 0) ≡ entries.value (suc done) store (next_summary season.rules s rung) rest
    = λ rest le.
    let inside : rest < width = omega (arith, le, held, wide) in
    ap (λ (r : List ℤ). get_or r rest (pos 0)) row_is ∙ (get_or-row width place rest rows inside ∙ (ap (λ w. get_or rows (place * w + rest) (pos 0)) wide ∙ sym (of.rows_are place rest (next_summary season.rules s rung) at (omega (arith, le, held))))) in
    let right_same : right ≡ weighed season store done s.last rung stock (entries.value (suc done) store (next_summary season.rules s rung)) = right_is ∙ weighed_same season store done s.last rung stock (λ rest. get_or row rest (pos 0)) (entries.value (suc done) store (next_summary season.rules s rung)) values in
    found_is ∙ (ap₂ (λ a b. first_fault (at_least kind.Value a b ∷ [])) left_same right_same ∙ ap (λ b. first_fault (cond b (value_condition season entries done store s stock rung ∷ []) [])) (sym leads))

pub rung_off : (season : Season) (entries : CertEntries) (done store rung stock : ℕ) (s : Summary) → leads_at season.rules done s rung ≡ false → None ≡ first_fault (rung_conditions season entries done store s stock rung)
rung_off season entries done store rung stock s off = ap (λ b. first_fault (cond b (value_condition season entries done store s stock rung ∷ []) [])) (sym off)

-- ---- one stock

module _ (season : Season) (entries : CertEntries) (done store : ℕ) (s : Summary) (stock : ℕ) (early : done < season.rules.weeks) where
  pub week_conditions : first_fault (value_conditions season entries done store s stock) ≡ first_fault (flat_map (rung_conditions season entries done store s stock) (numbers 1 (length season.rules.prices)))
  week_conditions =
      let other : (done == season.rules.weeks) ≡ false = grind arith in
      ap (λ b. first_fault (cond b (at_least kind.Value (entries.value done store s stock) (end_worth season store stock) ∷ []) (map (value_condition season entries done store s stock) (leading_rungs season done s)))) other
      ∙ ap first_fault (filter_blocks (value_condition season entries done store s stock) (leads_at season.rules done s) (rungs season.rules))

  pub stock_found : (rung : ℕ) (found : Option Fault) → 1 ≤ rung → rung ≤ length season.rules.prices → ((k : ℕ) → 1 ≤ k → k < rung → first_fault (rung_conditions season entries done store s stock k) ≡ None) →
      found ≡ first_fault (rung_conditions season entries done store s stock rung) → is_some found ≡ true → found ≡ first_fault (value_conditions season entries done store s stock)
  stock_found rung found low high before is some = first_is (rung_conditions season entries done store s stock) 1 (length season.rules.prices) rung found low (omega arith) before is some ∙ sym week_conditions

  pub stock_none : ((k : ℕ) → 1 ≤ k → k < suc (length season.rules.prices) → first_fault (rung_conditions season entries done store s stock k) ≡ None) → None ≡ first_fault (value_conditions season entries done store s stock)
  stock_none each = sym (week_conditions ∙ none_so_far (rung_conditions season entries done store s stock) 1 (length season.rules.prices) (λ n low high. each n low (omega arith)))

-- ---- at the end

pub last_is : (season : Season) (entries : CertEntries) (store stock : ℕ) (s : Summary) → value_conditions season entries season.rules.weeks store s stock ≡ at_least kind.Value (entries.value season.rules.weeks store s stock) (end_worth season store stock) ∷ []
last_is season entries store stock s =
    ap (λ b. cond b (at_least kind.Value (entries.value season.rules.weeks store s stock) (end_worth season store stock) ∷ []) (map (value_condition season entries season.rules.weeks store s stock) (leading_rungs season season.rules.weeks s))) (eq-eqb season.rules.weeks season.rules.weeks refl)

-- ---- a live summary

pub summary_range : (season : Season) (done : ℕ) (s : Summary) → IsSeason season → done ≤ season.rules.weeks → IsTrue (is_live_summary season.rules done s) → IsInRange season.rules s
summary_range season done s ok early live = in_range season.rules done s ok.rules early (live-reached season.rules done s live)
