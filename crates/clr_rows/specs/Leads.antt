-- The rungs that lead on from a live summary, the best of them, and a week's rows that have it.
use Rattle.std.specs.Prelude.{◌≡◌, ℕ, suc, ◌<◌, ℤ, pos, neg_ℤ, ◌+ℤ◌, List, [], ◌∷◌, length, get_or}
use Rattle.std.specs.List.{filter}
use Rattle.clr_num.specs.Lists.{numbers}
use Rattle.clr_num.specs.Sums.{first_best}
use Rattle.clr_rules.specs.declared.season_rules.Summary.{Summary}
use Rattle.clr_rules.specs.LiveSummaries.{leads_at}
use Rattle.clr_rules.specs.Rules.{Rulebook, next_summary}
use Rattle.clr_rows.specs.Rows.{AreRows}
use Rattle.clr_rows.specs.Summaries.{live_week}

-- the first rungs, up to a number, that lead from a summary to a live one
abbrev pub leads : Rulebook → ℕ → Summary → ℕ → List ℕ
leads rules done s count = filter (leads_at rules done s) (numbers 1 count)

-- less than each value
abbrev pub lowest : ℤ
lowest = neg_ℤ (pos 4000000000000000000)

-- the greatest number on some rungs, and the lowest number where there is none
abbrev pub best_value : (ℕ → ℤ) → List ℕ → ℤ
best_value f [] = lowest
best_value f (rung ∷ rest) = f (first_best f 1 (rung ∷ rest))

-- ---- the averages by the summary after the week, and what is added for a rung after another

-- what a rung gives after a summary, at a place of the row
abbrev pub lead_value : Rulebook → (Summary → ℕ → ℤ) → (ℕ → ℕ → ℤ) → Summary → ℕ → ℕ → ℤ
lead_value rules averages more s x rung = averages (next_summary rules s rung) x +ℤ more s.last rung

-- the value and the choice by the first rungs, up to a number
abbrev pub value_so_far : Rulebook → ℕ → (Summary → ℕ → ℤ) → (ℕ → ℕ → ℤ) → Summary → ℕ → ℕ → ℤ
value_so_far rules done averages more s count x = best_value (lead_value rules averages more s x) (leads rules done s count)

abbrev pub choice_so_far : Rulebook → ℕ → (Summary → ℕ → ℤ) → (ℕ → ℕ → ℤ) → Summary → ℕ → ℕ → ℕ
choice_so_far rules done averages more s count x = first_best (lead_value rules averages more s x) 1 (leads rules done s count)

-- ---- the rows of a week, from rows of averages

-- The values and the choices at a live summary, one at each place of a row, by the first rungs, up to a number: so it is for each function
-- that the averages are rows of.
pub record IsBestSoFar (rules : Rulebook) (done width : ℕ) (averages : List ℤ) (more : ℕ → ℕ → ℤ) (s : Summary) (count : ℕ) (row : List ℤ) (chosen : List ℕ) : Type 0 where
  pub values :
      (f : Summary → ℕ → ℤ) → AreRows (pos 0) width (live_week rules (suc done)) (length (live_week rules (suc done))) f averages →
      (x : ℕ) → x < width → get_or row x (pos 0) ≡ value_so_far rules done f more s count x
  pub choices :
      (f : Summary → ℕ → ℤ) → AreRows (pos 0) width (live_week rules (suc done)) (length (live_week rules (suc done))) f averages →
      (x : ℕ) → x < width → get_or chosen x 0 ≡ choice_so_far rules done f more s count x

-- The rows of the first live summaries after so many weeks: the values and the choices by all rungs.
pub record AreBestRows (rules : Rulebook) (done width : ℕ) (averages : List ℤ) (more : ℕ → ℕ → ℤ) (count : ℕ) (rows : List ℤ) (chosen : List ℕ) : Type 0 where
  pub values :
      (f : Summary → ℕ → ℤ) → AreRows (pos 0) width (live_week rules (suc done)) (length (live_week rules (suc done))) f averages →
      AreRows (pos 0) width (live_week rules done) count (λ s. value_so_far rules done f more s (length rules.prices)) rows
  pub choices :
      (f : Summary → ℕ → ℤ) → AreRows (pos 0) width (live_week rules (suc done)) (length (live_week rules (suc done))) f averages →
      AreRows 0 width (live_week rules done) count (λ s. choice_so_far rules done f more s (length rules.prices)) chosen
