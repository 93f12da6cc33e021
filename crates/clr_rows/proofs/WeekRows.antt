-- The rows of a week, summary by summary.
use Rattle.std.proofs.Common.{◌≡◌, ℕ, zero, suc, ◌+◌, ◌-◌, ◌*◌, ◌<◌, ◌≤◌, ℤ, pos, true, List, [], ◌∷◌, ◌++◌, length, take, length-append, ap₂, Option, inl, inr, get_or, slice_get, Some, ap, sym, ◌∙◌, subst, arith, add-mul, Result, Ok, Err, IfOk, refl, subst₂}
use Rattle.std.proofs.lemmas.Bool.{cases_lt}
use Rattle.std.proofs.lemmas.List.{take_all, take_more}
use Rattle.std.proofs.lemmas.Option.{slice_get-get_or, slice_get_cases}
use Rattle.clr_rules.specs.declared.season_rules.Summary.{Summary}
use Rattle.clr_rules.specs.LiveSummaries.{is_live_summary, summaries}
use Rattle.clr_rules.specs.Rules.{IsRulebook, Rulebook}
use Rattle.clr_rules.proofs.LiveLaw.{week_is}
use Rattle.clr_rules.proofs.LiveLists.{in_range, live-reached}
use Rattle.clr_rules.proofs.Sweeps.{in_filter}
use Rattle.clr_rows.specs.Leads.{AreBestRows, IsBestSoFar, choice_so_far, value_so_far}
use Rattle.clr_rows.specs.Rows.{AreRows, WeekRows}
use Rattle.clr_rows.specs.Summaries.{AreOnLadder, live_week}
use Rattle.clr_rows.proofs.Lists.{got, got_inside, rows_more, size_more}

-- ---- rows one by one

pub row_more : {X : Type 0} (d : X) (width : ℕ) (list : List Summary) (count : ℕ) (f : Summary → ℕ → X) (items row : List X) → AreRows d width list count f items → length row ≡ width →
    ((s : Summary) → slice_get list count ≡ Some s → (stock : ℕ) → stock < width → get_or row stock d ≡ f s stock) → AreRows d width list (count + 1) f (items ++ row)
row_more d width list count f items row are size here = record {
  size = size_more width count items row are.size size;
  each = λ place stock s lt at low.
      rows_more width count items row d (λ p x v. (s : Summary) → slice_get list p ≡ Some s → v ≡ f s x) are.size size
      (λ p x h l s' at'. are.each p x s' h at' l) (λ x l s' at'. here s' at' x l) place stock lt low s at;
}

pub rows_as : {X : Type 0} (d : X) (width : ℕ) (list other : List Summary) (count : ℕ) (f g : Summary → ℕ → X) (items : List X) → AreRows d width list count f items → list ≡ other →
    ((place : ℕ) (s : Summary) → slice_get other place ≡ Some s → (stock : ℕ) → stock < width → f s stock ≡ g s stock) → AreRows d width other count g items
rows_as d width list other count f g items are is h = record {
  size = are.size;
  each = λ place stock s lt at low. are.each place stock s lt (ap (λ l. slice_get l place) is ∙ at) low ∙ h place s at stock low;
}

-- each place of the list is one of a row
pub in_some_row : (width count k : ℕ) → k < count * width → (place : ℕ) × (stock : ℕ) × (place < count) × (stock < width) × (k ≡ place * width + stock)
in_some_row width zero k lt = absurd (omega arith)
in_some_row width (suc count) k lt = elim (cases_lt k (count * width)) [
  | inl low ↦ let (place, stock, a, b, e) = in_some_row width count k low in (place, stock, omega arith, b, e)
  | inr high ↦ let split : (count + 1) * width ≡ count * width + 1 * width = add-mul count 1 width in (count, k - count * width, omega arith, omega arith, omega arith)
]

-- ---- the list of live summaries

pub live_at : (rules : Rulebook) (done k : ℕ) (s : Summary) → done ≤ rules.weeks → slice_get (live_week rules done) k ≡ Some s → is_live_summary rules done s ≡ true
live_at rules done k s early at =
    (in_filter (is_live_summary rules done) (summaries rules) k s (subst (λ list. slice_get list k ≡ Some s) (week_is rules done early) at)).0

pub item_live : (rules : Rulebook) (done k : ℕ) (list : List Summary) (d : Summary) → done ≤ rules.weeks → list ≡ live_week rules done → k < length list → is_live_summary rules done (get_or list k d) ≡ true
item_live rules done k list d early is lt = live_at rules done k (get_or list k d) early (ap (λ l. slice_get l k) (sym is) ∙ slice_get-get_or list k d lt)

-- a list of its first items, where none comes after them
pub all_listed : (list all : List Summary) (next : Option Summary) → list ≡ take (length list) all → next ≡ slice_get all (length list) → ((s : Summary) → next ≡ Some s → ⊥) → list ≡ all
all_listed list all next so_far is none = elim (slice_get_cases all (length list)).1 [
  | inl (s, lt, at, e) ↦ absurd (none s (is ∙ at))
  | inr (past, e) ↦ so_far ∙ take_all (length list) all past
]

-- one item more
pub listed_more : (list all now : List Summary) (s : Summary) → list ≡ take (length list) all → slice_get all (length list) ≡ Some s → now ≡ list ++ s ∷ [] → (length now ≡ length list + 1) × (now ≡ take (length list + 1) all)
listed_more list all now s so_far at is = (
  ap length is ∙ length-append list (s ∷ []),
  is ∙ (ap₂ (λ l x. l ++ x ∷ []) so_far (sym (got all (length list) s s at)) ∙ sym (take_more all (length list) s (got_inside all (length list) s at))),
)

pub on_ladder : (rules : Rulebook) (done : ℕ) → IsRulebook rules → done ≤ rules.weeks → AreOnLadder rules (live_week rules done)
on_ladder rules done is early place s at =
    let range = in_range rules done s is early (live-reached rules done s (live_at rules done place s early at)) in
    (range.low, range.high)

-- ---- the best rows, one by one

pub best_more : (rules : Rulebook) (done width old index : ℕ) (averages rows row : List ℤ) (chosen taken : List ℕ) (more : ℕ → ℕ → ℤ) (list : List Summary) (now : Summary) → list ≡ live_week rules done → AreBestRows rules done width averages more index rows chosen → length row ≡ width →
    length taken ≡ width → old ≡ width → ((s : Summary) → slice_get list index ≡ Some s → now ≡ s) → IsBestSoFar rules done old averages more now (length rules.prices) row taken → AreBestRows rules done width averages more (index + 1) (rows ++ row) (chosen ++ taken)
best_more rules done width old index averages rows row chosen taken more list now is so_far size chosen_size old_is at_now best =
    let here : IsBestSoFar rules done width averages more now (length rules.prices) row taken = subst (λ w. IsBestSoFar rules done w averages more now (length rules.prices) row taken) old_is best in
    record {
      values = λ f are.
          row_more (pos 0) width (live_week rules done) index (λ s. value_so_far rules done f more s (length rules.prices)) rows row (so_far.values f are) size
          (λ s at x low. here.values f are x low ∙ ap (λ t. value_so_far rules done f more t (length rules.prices) x) (at_now s (ap (λ (l : List Summary). slice_get l index) is ∙ at)));
      choices = λ f are.
          row_more 0 width (live_week rules done) index (λ s. choice_so_far rules done f more s (length rules.prices)) chosen taken (so_far.choices f are) chosen_size
          (λ s at x low. here.choices f are x low ∙ ap (λ t. choice_so_far rules done f more t (length rules.prices) x) (at_now s (ap (λ (l : List Summary). slice_get l index) is ∙ at)));
    }

-- ---- what a week's rows are of

-- the best rows of averages are the rows of what the values and the choices by all rungs are
module _ (book rules : Rulebook) (done width count : ℕ) (averages rows : List ℤ) (chosen : List ℕ) (more : ℕ → ℕ → ℤ) (f : Summary → ℕ → ℤ) (book_is : book ≡ rules) (early : done ≤ rules.weeks) (count_is : count ≡ length (live_week rules done))
    (are : AreRows (pos 0) width (live_week rules (suc done)) (length (live_week rules (suc done))) f averages) (best : AreBestRows book done width averages more count rows chosen) where
  all : AreBestRows rules done width averages more (length (live_week rules done)) rows chosen
  all = subst₂ (λ r n. AreBestRows r done width averages more n rows chosen) book_is count_is best

  pub values_by : (g : Summary → ℕ → ℤ) → ((s : Summary) (x : ℕ) → is_live_summary rules done s ≡ true → value_so_far rules done f more s (length rules.prices) x ≡ g s x) → AreRows (pos 0) width (live_week rules done) (length (live_week rules done)) g rows
  values_by g same =
      rows_as (pos 0) width (live_week rules done) (live_week rules done) (length (live_week rules done)) (λ s. value_so_far rules done f more s (length rules.prices)) g rows (all.values f are) refl
      (λ place s at x lt. same s x (live_at rules done place s early at))

  pub choices_by : (g : Summary → ℕ → ℕ) → ((s : Summary) (x : ℕ) → is_live_summary rules done s ≡ true → choice_so_far rules done f more s (length rules.prices) x ≡ g s x) → AreRows 0 width (live_week rules done) (length (live_week rules done)) g chosen
  choices_by g same =
      rows_as 0 width (live_week rules done) (live_week rules done) (length (live_week rules done)) (λ s. choice_so_far rules done f more s (length rules.prices)) g chosen (all.choices f are) refl
      (λ place s at x lt. same s x (live_at rules done place s early at))

-- and so are the rows at the end
pub ends_by : (book rules : Rulebook) (width : ℕ) (row items : List ℤ) (g : Summary → ℕ → ℤ) → book ≡ rules → length row ≡ width → AreRows (pos 0) (length row) (live_week book book.weeks) (length (live_week book book.weeks)) (λ s x. get_or row x (pos 0)) items →
    ((s : Summary) (x : ℕ) → is_live_summary rules rules.weeks s ≡ true → x < width → get_or row x (pos 0) ≡ g s x) → AreRows (pos 0) width (live_week rules rules.weeks) (length (live_week rules rules.weeks)) g items
ends_by book rules width row items g book_is size are same =
    rows_as (pos 0) width (live_week rules rules.weeks) (live_week rules rules.weeks) (length (live_week rules rules.weeks)) (λ s x. get_or row x (pos 0)) g items
    (subst₂ (λ n (r : Rulebook). AreRows (pos 0) n (live_week r r.weeks) (length (live_week r r.weeks)) (λ s x. get_or row x (pos 0)) items) size book_is are) refl
    (λ place s at x lt. same s x (live_at rules rules.weeks place s (omega arith) at) lt)

-- ---- what holds of a week where it was made

pub both : {E : Type 0} (r : Result WeekRows E) (P Q R : WeekRows → Type 0) → IfOk r P → IfOk r Q → ((week : WeekRows) → P week → Q week → R week) → IfOk r R
both (Ok week) P Q R p q h = h week p q
both (Err e) P Q R p q h = tt

pub mapped : {E : Type 0} (r : Result WeekRows E) (P R : WeekRows → Type 0) → IfOk r P → ((week : WeekRows) → P week → R week) → IfOk r R
mapped (Ok week) P R p h = h week p
mapped (Err e) P R p h = tt
