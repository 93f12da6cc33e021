-- The conditions of a line stay when another line is added.
use Rattle.std.proofs.Common.{◌≡◌, ℕ, ◌+◌, ◌-◌, ◌<◌, ◌≤◌, Bool, true, false, cond, ◌==◌, nat_lt, refl, sym, ap, ap₂, ◌∙◌, subst, arith, suc, List, [], ◌∷◌, ◌++◌, length, map, get_or, slice_get, Some, ℤ, pos, ◌*ℤ◌, ◌-ℤ◌}
use Rattle.std.specs.Prelude.{unsigned_abs}
use Rattle.std.specs.List.{flat_map}
use mathlib.Core.Path.{fun_ext}
use Rattle.clr_rules.specs.declared.season_rules.Summary.{Summary}
use Rattle.clr_rules.specs.Rules.{next_summary}
use Rattle.clr_season.specs.Season.{Season, IsSeason}
use Rattle.clr_model.specs.Fits.{stock_lists}
use Rattle.clr_model.specs.JointValue.{end_value}
use Rattle.clr_model.specs.JointWeek.{joint_base}
use Rattle.clr_model.specs.PathValue.{weighed}
use Rattle.clr_model.specs.Revenue.{full_stocks, sum_stores}
use Rattle.clr_rules.specs.Rules.{rung_at}
use Rattle.clr_cert.specs.declared.place.Place.{Place}
use Rattle.clr_cert.specs.declared.place.Place.TheVariants.{Head, Lengths, Path, Mult, Low, High, Value, Joint, Revenue, Bound, Exact, End}
use Rattle.clr_cert.specs.declared.no.NoKind.TheVariants as kind
use Rattle.clr_cert.specs.Conditions.{Condition, at_least, at_most, conditions, end_worth, equal, joint_sum, leading_rungs, path_condition, path_of, rung_condition, total}
use Rattle.clr_cert.specs.Lines.{full_stock, opening, stocks_at, stocks_of}
use Rattle.clr_cert.specs.Places.{IsPlaceOf, places, week_numbers}
use Rattle.clr_cert.specs.Reading.{entries_in, index_of, numbers_told, row_of}
use Rattle.clr_cert.proofs.Walking.{walk_next}
use Rattle.clr_cert.proofs.Among.{Among, among_found}
use Rattle.clr_check.proofs.Coming.{told_here, told_never, told_stays}
use Rattle.clr_check.proofs.ListNumbers.{index_at}
use Rattle.clr_check.proofs.Rows.{stage, walk_place}

module _ (season : Season) (lines : List (List ℕ)) (line : List ℕ) (row : ℕ) (place : Place) (ok : IsSeason season) (here : slice_get (places season) row ≡ Some place) (less : row < length lines) where
  more : List (List ℕ)
  more = lines ++ line ∷ []

  abbrev Stays : Place → Type 0
  Stays other = numbers_told season (lines ++ line ∷ []) other ≡ numbers_told season lines other

  -- a place of the week after
  next_stays : (done : ℕ) (other : Place) → (IsPlaceOf season other → suc done ≤ season.rules.weeks) → stage season other ≡ 4 + (season.rules.weeks - suc done) → stage season place ≡ 4 + (season.rules.weeks - done) → Stays other
  next_stays done other early at mine = go (nat_lt (row_of season other) (length (places season))) refl
    where
      go : (b : Bool) → nat_lt (row_of season other) (length (places season)) ≡ b → Stays other
      go false e = told_never season (lines ++ line ∷ []) other e ∙ sym (told_never season lines other e)
      go true e =
          let inside : row_of season other < length (places season) = grind arith in
          let among : Among (places season) other = among_found season other inside in
          let week : suc done ≤ season.rules.weeks = early (walk_next season other among.at ok (walk_place season among.at other among.here)).within in
          told_stays season lines line row place other ok here less (omega (arith, week, at, mine))

  path_stays : 2 < stage season place → path_of season (entries_in season (lines ++ line ∷ [])) ≡ path_of season (entries_in season lines)
  unfolding entries_in
  path_stays late = ap (λ (ns : List ℤ). map (λ week. unsigned_abs (get_or ns (week - 1) (pos 0))) (week_numbers season)) (told_stays season lines line row place Path ok here less late)

-- one entry of a path's values, by the numbers of its row and of the row after it
abbrev entries_by : (ℤ → ℤ → Condition) → Season → ℕ → ℕ → List ℕ → List ℤ → List ℤ → List Condition
entries_by compare season done store path now next =
    map (λ stock. cond (done == season.rules.weeks) (compare (get_or now stock (pos 0)) (end_worth season store stock))
    (compare (get_or now stock (pos 0) *ℤ pos season.base) (weighed season store done (rung_at path done) (rung_at path (suc done)) stock (λ rest. get_or next rest (pos 0))))) (stocks_of season store)

late : (season : Season) (n : ℕ) → 2 < 4 + n
late season n = omega arith

pub low_stays : (season : Season) (lines : List (List ℕ)) (line : List ℕ) (row done store : ℕ) (numbers : List ℤ) → IsSeason season → slice_get (places season) row ≡ Some (Low done store) → row < length lines →
    conditions season (entries_in season (lines ++ line ∷ [])) numbers (Low done store) ≡ conditions season (entries_in season lines) numbers (Low done store)
unfolding conditions entries_in
low_stays season lines line row done store numbers ok here less =
    ap (λ p. entries_by (at_most kind.Low) season done store p (numbers_told season (lines ++ line ∷ []) (Low done store)) (numbers_told season (lines ++ line ∷ []) (Low (suc done) store))) (path_stays season lines line row (Low done store) ok here less (late season (season.rules.weeks - done)))
    ∙ ap₂ (λ now next. entries_by (at_most kind.Low) season done store (path_of season (entries_in season lines)) now next) (told_here season lines line row (Low done store) ok here less) (next_stays season lines line row (Low done store) ok here less done (Low (suc done) store) (λ p. p.early) refl refl)

pub high_stays : (season : Season) (lines : List (List ℕ)) (line : List ℕ) (row done store : ℕ) (numbers : List ℤ) → IsSeason season → slice_get (places season) row ≡ Some (High done store) → row < length lines →
    conditions season (entries_in season (lines ++ line ∷ [])) numbers (High done store) ≡ conditions season (entries_in season lines) numbers (High done store)
unfolding conditions entries_in
high_stays season lines line row done store numbers ok here less =
    ap (λ p. entries_by (at_least kind.High) season done store p (numbers_told season (lines ++ line ∷ []) (High done store)) (numbers_told season (lines ++ line ∷ []) (High (suc done) store))) (path_stays season lines line row (High done store) ok here less (late season (season.rules.weeks - done)))
    ∙ ap₂ (λ now next. entries_by (at_least kind.High) season done store (path_of season (entries_in season lines)) now next) (told_here season lines line row (High done store) ok here less) (next_stays season lines line row (High done store) ok here less done (High (suc done) store) (λ p. p.early) refl refl)

-- the conditions of a store's values, by the numbers of the line, the multipliers of the next week and the numbers after it
abbrev values_by : Season → ℕ → ℕ → Summary → List ℤ → (ℕ → ℤ) → (ℕ → ℕ → ℤ) → List Condition
values_by season done store s now mult next =
    flat_map (λ stock. cond (done == season.rules.weeks) (at_least kind.Value (get_or now stock (pos 0)) (end_worth season store stock) ∷ [])
    (map (λ rung. at_least kind.Value ((get_or now stock (pos 0) -ℤ mult rung) *ℤ pos season.base) (weighed season store done s.last rung stock (next rung))) (leading_rungs season done s))) (stocks_of season store)

pub value_stays : (season : Season) (lines : List (List ℕ)) (line : List ℕ) (row done store : ℕ) (s : Summary) (numbers : List ℤ) → IsSeason season → slice_get (places season) row ≡ Some (Value done store s) → row < length lines →
    conditions season (entries_in season (lines ++ line ∷ [])) numbers (Value done store s) ≡ conditions season (entries_in season lines) numbers (Value done store s)
unfolding conditions entries_in
value_stays season lines line row done store s numbers ok here less =
    ap (λ now. values_by season done store s now (λ rung. get_or (numbers_told season (lines ++ line ∷ []) (Mult (suc done) rung)) (store - 1) (pos 0)) (λ rung stock. get_or (numbers_told season (lines ++ line ∷ []) (Value (suc done) store (next_summary season.rules s rung))) stock (pos 0))) (told_here season lines line row (Value done store s) ok here less)
    ∙ ap₂ (λ mult next. values_by season done store s (numbers_told season lines (Value done store s)) mult next)
    (fun_ext (λ (rung : ℕ). ap (λ (ns : List ℤ). get_or ns (store - 1) (pos 0)) (told_stays season lines line row (Value done store s) (Mult (suc done) rung) ok here less (early (season.rules.weeks - done)))))
    (fun_ext (λ (rung : ℕ). ap by_stock (next_stays season lines line row (Value done store s) ok here less done (Value (suc done) store (next_summary season.rules s rung)) (λ p. p.0.early) refl refl)))
  where
    by_stock : List ℤ → ℕ → ℤ
    by_stock ns stock = get_or ns stock (pos 0)

    early : (n : ℕ) → 3 < 4 + n
    early n = omega arith

-- the rung and the two values of all stores that a line tells
abbrev triple : List ℤ → ℕ × ℤ × ℤ
triple numbers = (unsigned_abs (get_or numbers 0 (pos 0)), get_or numbers 1 (pos 0), get_or numbers 2 (pos 0))

-- the conditions of all stores' values, by the line's numbers and those after the week
abbrev joints_by : Season → ℕ → Summary → List ℕ → ℕ × ℤ × ℤ → (ℕ → List ℕ → ℕ × ℤ × ℤ) → List Condition
joints_by season done s stocks answer next =
    cond (done == season.rules.weeks) (at_most kind.JointLow answer.1 (end_value season stocks) ∷ at_least kind.JointTop answer.2 (end_value season stocks) ∷ [])
    (rung_condition season done s answer.0 ∷ at_most kind.JointLow (answer.1 *ℤ pos (joint_base season)) (joint_sum season done s answer.0 stocks (λ rest. (next answer.0 rest).1))
    ∷ map (λ rung. at_least kind.JointTop (answer.2 *ℤ pos (joint_base season)) (joint_sum season done s rung stocks (λ rest. (next rung rest).2))) (leading_rungs season done s))

pub joint_stays : (season : Season) (lines : List (List ℕ)) (line : List ℕ) (row done : ℕ) (s : Summary) (index : ℕ) (numbers : List ℤ) → IsSeason season → slice_get (places season) row ≡ Some (Joint done s index) → row < length lines →
    conditions season (entries_in season (lines ++ line ∷ [])) numbers (Joint done s index) ≡ conditions season (entries_in season lines) numbers (Joint done s index)
unfolding conditions entries_in
joint_stays season lines line row done s index numbers ok here less =
    let stocks : List ℕ = stocks_at season index in
    let within : index < stock_lists season.stores = (walk_next season (Joint done s index) row ok (walk_place season row (Joint done s index) here)).within.within in
    let own : numbers_told season (lines ++ line ∷ []) (Joint done s (index_of season stocks)) ≡ numbers_told season lines (Joint done s (index_of season stocks))
    = subst (λ i. numbers_told season (lines ++ line ∷ []) (Joint done s i) ≡ numbers_told season lines (Joint done s i)) (sym (index_at season index within)) (told_here season lines line row (Joint done s index) ok here less) in
    ap (λ now. joints_by season done s stocks (triple now) (λ rung rest. triple (numbers_told season (lines ++ line ∷ []) (Joint (suc done) (next_summary season.rules s rung) (index_of season rest))))) own
    ∙ ap (λ next. joints_by season done s stocks (triple (numbers_told season lines (Joint done s (index_of season stocks)))) next)
    (fun_ext (λ (rung : ℕ). fun_ext (λ (rest : List ℕ). ap triple (next_stays season lines line row (Joint done s index) ok here less done (Joint (suc done) (next_summary season.rules s rung) (index_of season rest)) (λ p. p.early) refl refl))))

-- ---- the totals

module _ (season : Season) (lines : List (List ℕ)) (line : List ℕ) (row : ℕ) (ok : IsSeason season) (less : row < length lines) where
  -- a store's entry before the first week at full stocks
  full_entry_stays : (place other : Place) (store : ℕ) → slice_get (places season) row ≡ Some place → stage season other < stage season place →
      get_or (numbers_told season (lines ++ line ∷ []) other) (full_stock season store) (pos 0) ≡ get_or (numbers_told season lines other) (full_stock season store) (pos 0)
  full_entry_stays place other store here early = ap (λ (ns : List ℤ). get_or ns (full_stock season store) (pos 0)) (told_stays season lines line row place other ok here less early)

  pub revenue_stays : (numbers : List ℤ) → slice_get (places season) row ≡ Some Revenue → conditions season (entries_in season (lines ++ line ∷ [])) numbers Revenue ≡ conditions season (entries_in season lines) numbers Revenue
  unfolding conditions entries_in
  revenue_stays numbers here =
      ap₂ (λ low high. total numbers 0 (sum_stores season low) ∷ total numbers 1 (sum_stores season high) ∷ [])
      (fun_ext (λ (store : ℕ). full_entry_stays Revenue (Low 0 store) store here (omega arith)))
      (fun_ext (λ (store : ℕ). full_entry_stays Revenue (High 0 store) store here (omega arith)))

  pub bound_stays : (numbers : List ℤ) → slice_get (places season) row ≡ Some Bound → conditions season (entries_in season (lines ++ line ∷ [])) numbers Bound ≡ conditions season (entries_in season lines) numbers Bound
  unfolding conditions entries_in
  bound_stays numbers here =
      ap (λ value. total numbers 0 (sum_stores season value) ∷ [])
      (fun_ext (λ (store : ℕ). full_entry_stays Bound (Value 0 store (opening season)) store here (omega arith)))

  pub exact_stays : (numbers : List ℤ) → slice_get (places season) row ≡ Some Exact → conditions season (entries_in season (lines ++ line ∷ [])) numbers Exact ≡ conditions season (entries_in season lines) numbers Exact
  unfolding conditions entries_in
  exact_stays numbers here =
      ap (λ (ns : List ℤ). total numbers 0 (get_or ns 1 (pos 0)) ∷ total numbers 1 (get_or ns 2 (pos 0)) ∷ [])
      (told_stays season lines line row Exact (Joint 0 (opening season) (index_of season (full_stocks season))) ok here less (omega arith))

  -- ---- the heads

  pub path_line_stays : (numbers : List ℤ) → slice_get (places season) row ≡ Some Path → conditions season (entries_in season (lines ++ line ∷ [])) numbers Path ≡ conditions season (entries_in season lines) numbers Path
  unfolding conditions entries_in
  path_line_stays numbers here =
      ap (λ (ns : List ℤ). map (path_condition season (map (λ week. unsigned_abs (get_or ns (week - 1) (pos 0))) (week_numbers season))) (week_numbers season)) (told_here season lines line row Path ok here less)

  pub mult_stays : (week rung : ℕ) (numbers : List ℤ) → slice_get (places season) row ≡ Some (Mult week rung) → conditions season (entries_in season (lines ++ line ∷ [])) numbers (Mult week rung) ≡ conditions season (entries_in season lines) numbers (Mult week rung)
  unfolding conditions entries_in
  mult_stays week rung numbers here =
      ap (λ (ns : List ℤ). equal kind.Sum (sum_stores season (λ store. get_or ns (store - 1) (pos 0))) (pos 0) ∷ []) (told_here season lines line row (Mult week rung) ok here less)

  -- ---- any line

  pub conditions_stay : (place : Place) (numbers : List ℤ) → slice_get (places season) row ≡ Some place → conditions season (entries_in season (lines ++ line ∷ [])) numbers place ≡ conditions season (entries_in season lines) numbers place
  unfolding conditions
  conditions_stay Head numbers here = refl
  conditions_stay Lengths numbers here = refl
  conditions_stay Path numbers here = path_line_stays numbers here
  conditions_stay (Mult week rung) numbers here = mult_stays week rung numbers here
  conditions_stay (Low done store) numbers here = low_stays season lines line row done store numbers ok here less
  conditions_stay (High done store) numbers here = high_stays season lines line row done store numbers ok here less
  conditions_stay (Value done store s) numbers here = value_stays season lines line row done store s numbers ok here less
  conditions_stay (Joint done s index) numbers here = joint_stays season lines line row done s index numbers ok here less
  conditions_stay Revenue numbers here = revenue_stays numbers here
  conditions_stay Bound numbers here = bound_stays numbers here
  conditions_stay Exact numbers here = exact_stays numbers here
  conditions_stay End numbers here = refl
