-- What a plan writes is accepted, and claims the plan's numbers.
use Rattle.std.proofs.Common.{◌≡◌, ℕ, ◌<◌, Bool, true, false, if◌then◌else◌, refl, sym, ap, ap₂, ◌∙◌, subst, arith, suc, List, [], length, map, Some, None, Option, IsTrue, ℤ}
use Rattle.std.specs.List.{AllByRecursion}
use Rattle.clr_num.specs.Direction.{AtLeast, AtMost}
use Rattle.clr_num.specs.DirectionLaws.{ceil_is_direction, floor_is_direction}
use Rattle.clr_num.specs.Rounding.{ceil, floor}
use Rattle.clr_rules.specs.Rules.{is_live, obeys}
use Rattle.clr_rules.proofs.LiveLemmas.{live_from, obeys-length}
use Rattle.clr_season.specs.Season.{Season, IsSeason}
use Rattle.clr_model.specs.Fits.{fits}
use Rattle.clr_model.specs.JointValue.{joint_low, joint_top}
use Rattle.clr_model.specs.PathValue.{path_high, path_low, path_value_at}
use Rattle.clr_model.specs.Revenue.{full_stocks, of_store}
use Rattle.clr_model.specs.StoreValue.{Multipliers, SumToZero, bound, store_value_at}
use Rattle.clr_model.proofs.Sums.{sum_of-same}
use Rattle.clr_cert.specs.declared.no.NoKind.TheVariants as kind
use Rattle.clr_cert.specs.declared.place.Place.{Place}
use Rattle.clr_cert.specs.declared.place.Place.TheVariants.{Head, Lengths, Path, Mult, Low, High, Value, Joint, Revenue, Bound, Exact, End}
use Rattle.clr_cert.specs.Accepts.{Accepts, CertClaims, cert_claims}
use Rattle.clr_cert.specs.Conditions.{at_least, at_most, conditions, opening_total, path_entry, path_of}
use Rattle.clr_cert.specs.Entries.{AreInRange, CertEntries, IsCell}
use Rattle.clr_cert.specs.Lines.{cert_text, full_stock, numbers_at, opening, opening_sum, stocks_of}
use Rattle.clr_cert.specs.Places.{IsPlaceOf}
use Rattle.clr_cert.specs.Planned.{AreEntriesOf}
use Rattle.clr_cert.specs.Reading.{ended_lines, entries_in, told}
use Rattle.clr_cert.proofs.Among.{bound_place, exact_place, revenue_place}
use Rattle.clr_written.specs.Laws.{PlannedIsAccepted, plan_claims}
use Rattle.clr_written.proofs.Alls.{is_at_most, is_equal}
use Rattle.clr_written.proofs.Entries.{entries_back}
use Rattle.clr_written.proofs.Joints.{joints_hold}
use Rattle.clr_written.proofs.Numbers.{full_held, ranged}
use Rattle.clr_written.proofs.Paths.{entries_hold, mult_holds, path_holds, path_is}
use Rattle.clr_written.proofs.Rows.{lines_many, nothing_left, place_of, row_back, told_is}
use Rattle.clr_written.proofs.Values.{full_is, values_hold}

-- ---- the sums over the stores

full_cell : (season : Season) (i : ℕ) → i < length season.stores → IsCell season 0 (suc i) (full_stock season (suc i))
full_cell season i less = record { early = omega arith; first = omega arith; last = less; held = omega arith }

module _ (season : Season) (path : List ℕ) (m : Multipliers) (entries : CertEntries) (of : AreEntriesOf season path m entries) where
  low_is : opening_sum season (entries.low 0) ≡ path_low season path
  low_is = sum_of-same (length season.stores) (λ i. entries.low 0 (suc i) (full_stock season (suc i))) (λ i. path_value_at floor season (suc i) path 0 (of_store (full_stocks season) (suc i)))
      (λ i less. of.lows 0 (suc i) (full_stock season (suc i)) (full_cell season i less) ∙ ap (path_value_at floor season (suc i) path 0) (sym (full_is season (suc i))))

  high_is : opening_sum season (entries.high 0) ≡ path_high season path
  high_is = sum_of-same (length season.stores) (λ i. entries.high 0 (suc i) (full_stock season (suc i))) (λ i. path_value_at ceil season (suc i) path 0 (of_store (full_stocks season) (suc i)))
      (λ i less. of.highs 0 (suc i) (full_stock season (suc i)) (full_cell season i less) ∙ ap (path_value_at ceil season (suc i) path 0) (sym (full_is season (suc i))))

  bound_is : IsTrue (is_live season.rules []) → opening_sum season (λ store stock. entries.value 0 store (opening season) stock) ≡ bound m season
  bound_is any = sum_of-same (length season.stores) (λ i. entries.value 0 (suc i) (opening season) (full_stock season (suc i))) (λ i. store_value_at ceil m season (suc i) [] (of_store (full_stocks season) (suc i)))
      (λ i less. of.values [] (suc i) (full_stock season (suc i)) any (full_cell season i less) ∙ ap (store_value_at ceil m season (suc i) []) (sym (full_is season (suc i))))

  exact_low : IsTrue (fits season) → IsTrue (is_live season.rules []) → (entries.joint 0 (opening season) (full_stocks season)).1 ≡ joint_low season
  exact_low fit any = ap (λ (answer : ℕ × ℤ × ℤ). answer.1) (of.joints [] (full_stocks season) fit any (full_held season))

  exact_top : IsTrue (fits season) → IsTrue (is_live season.rules []) → (entries.joint 0 (opening season) (full_stocks season)).2 ≡ joint_top season
  exact_top fit any = ap (λ (answer : ℕ × ℤ × ℤ). answer.2) (of.joints [] (full_stocks season) fit any (full_held season))

-- ---- all conditions

module _ (season : Season) (path : List ℕ) (m : Multipliers) (written entries : CertEntries) (ok : IsSeason season) (obey : IsTrue (obeys season.rules path)) (sums : SumToZero season m)
    (of_written : AreEntriesOf season path m written) (of : AreEntriesOf season path m entries) where
  any : IsTrue (is_live season.rules [])
  any = live_from season.rules [] path obey

  long : length path ≡ season.rules.weeks
  long = obeys-length season.rules path obey

  -- the conditions of each line hold of a plan's entries, where its numbers are a plan's too
  all_hold : (place : Place) → IsPlaceOf season place → AllByRecursion (λ c. IsTrue c.holds) (conditions season entries (numbers_at season written place) place)
  unfolding conditions numbers_at
  all_hold Head at = tt
  all_hold Lengths at = tt
  all_hold Path at = path_holds season path m entries obey of
  all_hold (Mult week rung) at = (mult_holds season path m entries obey of week rung sums at, tt)
  all_hold (Low done store) at =
      subst (λ p. AllByRecursion (λ c. IsTrue c.holds) (map (path_entry (at_most kind.Low) season p entries.low done store) (stocks_of season store))) (sym (path_is season path m entries obey of))
      (entries_hold (at_most kind.Low) AtMost floor floor_is_direction (λ a b h. is_at_most a b h) season path entries.low ok long of.lows done store at)
  all_hold (High done store) at =
      subst (λ p. AllByRecursion (λ c. IsTrue c.holds) (map (path_entry (at_least kind.High) season p entries.high done store) (stocks_of season store))) (sym (path_is season path m entries obey of))
      (entries_hold (at_least kind.High) AtLeast ceil ceil_is_direction (λ a b h. is_at_most b a h) season path entries.high ok long of.highs done store at)
  all_hold (Value done store s) at = values_hold season path m entries ok of done store s at.0 at.1
  all_hold (Joint done s index) at = joints_hold season path m entries ok at.fit of done s index at
  all_hold Revenue at = (
    is_equal (opening_sum season (written.low 0)) (opening_total season entries.low) (low_is season path m written of_written ∙ sym (low_is season path m entries of)),
    (is_equal (opening_sum season (written.high 0)) (opening_total season entries.high) (high_is season path m written of_written ∙ sym (high_is season path m entries of)), tt),
  )
  all_hold Bound at = (
    is_equal (opening_sum season (λ store stock. written.value 0 store (opening season) stock)) (opening_total season (λ done store. entries.value done store (opening season))) (bound_is season path m written of_written any ∙ sym (bound_is season path m entries of any)),
    tt,
  )
  all_hold Exact at = (
    is_equal (written.joint 0 (opening season) (full_stocks season)).1 (entries.joint 0 (opening season) (full_stocks season)).1 (exact_low season path m written of_written at any ∙ sym (exact_low season path m entries of at any)),
    (is_equal (written.joint 0 (opening season) (full_stocks season)).2 (entries.joint 0 (opening season) (full_stocks season)).2 (exact_top season path m written of_written at any ∙ sym (exact_top season path m entries of at any)), tt),
  )
  all_hold End at = tt

-- ---- the claims

abbrev claims : List ℕ → ℤ → ℤ → ℤ → Option (ℤ × ℤ) → CertClaims
claims path low high bound exact = record { path = path; low = low; high = high; bound = bound; exact = exact }

same_claims : (p p' : List ℕ) (l l' h h' b b' : ℤ) (e e' : Option (ℤ × ℤ)) → p ≡ p' → l ≡ l' → h ≡ h' → b ≡ b' → e ≡ e' → claims p l h b e ≡ claims p' l' h' b' e'
same_claims p p' l l' h h' b b' e e' is_p is_l is_h is_b is_e =
    ap (λ x. claims x l h b e) is_p ∙ (ap (λ x. claims p' x h b e) is_l ∙ (ap (λ x. claims p' l' x b e) is_h ∙ (ap (λ x. claims p' l' h' x e) is_b ∙ ap (claims p' l' h' b') is_e)))

-- ---- the certificate

abbrev some_pair : ℤ → ℤ → Option (ℤ × ℤ)
some_pair a b = let numbers : ℤ × ℤ = (a, b) in Some numbers

module _ (season : Season) (path : List ℕ) (m : Multipliers) (entries : CertEntries) (ok : IsSeason season) (obey : IsTrue (obeys season.rules path)) (sums : SumToZero season m)
    (range : AreInRange season entries) (of : AreEntriesOf season path m entries) where
  live : IsTrue (is_live season.rules [])
  live = live_from season.rules [] path obey

  back_of : AreEntriesOf season path m (entries_in season (ended_lines (cert_text season entries)))
  back_of = entries_back season entries ok live range path m of

  accepted : Accepts season (cert_text season entries)
  accepted = record {
    ended = nothing_left season entries ok live range;
    count = lines_many season entries ok live range;
    each = λ row place here.
        let at : IsPlaceOf season place = place_of season row place ok here in
        record {
          numbers = numbers_at season entries place;
          form = row_back season entries ok live range row place here;
          range = (ranged season entries ok live range place at).range;
          conditions = all_hold season path m entries (entries_in season (ended_lines (cert_text season entries))) ok obey sums of back_of place at;
        };
  }

  low_told : told season (ended_lines (cert_text season entries)) Revenue 0 ≡ path_low season path
  unfolding numbers_at
  low_told = told_is season entries ok live range Revenue 0 (revenue_place season) ∙ low_is season path m entries of

  high_told : told season (ended_lines (cert_text season entries)) Revenue 1 ≡ path_high season path
  unfolding numbers_at
  high_told = told_is season entries ok live range Revenue 1 (revenue_place season) ∙ high_is season path m entries of

  bound_told : told season (ended_lines (cert_text season entries)) Bound 0 ≡ bound m season
  unfolding numbers_at
  bound_told = told_is season entries ok live range Bound 0 (bound_place season) ∙ bound_is season path m entries of live

  abbrev exact_in : Bool → Option (ℤ × ℤ)
  exact_in b =
      let numbers : ℤ × ℤ = (told season (ended_lines (cert_text season entries)) Exact 0, told season (ended_lines (cert_text season entries)) Exact 1) in
      if b then Some numbers else None

  abbrev exact_of : Bool → Option (ℤ × ℤ)
  exact_of b =
      let numbers : ℤ × ℤ = (joint_low season, joint_top season) in
      if b then Some numbers else None

  exact_told : (b : Bool) → fits season ≡ b → exact_in b ≡ exact_of b
  unfolding numbers_at
  exact_told true fit =
      ap₂ some_pair
      (told_is season entries ok live range Exact 0 (exact_place season fit) ∙ exact_low season path m entries of fit live)
      (told_is season entries ok live range Exact 1 (exact_place season fit) ∙ exact_top season path m entries of fit live)
  exact_told false fit = refl

  claims_are : cert_claims season (cert_text season entries) ≡ plan_claims season path m
  claims_are =
      let lines : List (List ℕ) = ended_lines (cert_text season entries) in
      same_claims (path_of season (entries_in season lines)) path (told season lines Revenue 0) (path_low season path) (told season lines Revenue 1) (path_high season path) (told season lines Bound 0) (bound m season)
      (exact_in (fits season)) (exact_of (fits season))
      (path_is season path m (entries_in season lines) obey back_of) low_told high_told bound_told (exact_told (fits season) refl)

pub planned_is_accepted_lem : PlannedIsAccepted
planned_is_accepted_lem season path m entries ok obey sums range of = record {
  accepted = accepted season path m entries ok obey sums range of;
  claims_are = claims_are season path m entries ok obey sums range of;
}
