-- The judge report: the sizes, the number of the policy's rungs and tests, and its value rounded down and rounded up.
use Rattle.std.specs.Prelude.{ℕ, ℤ, List, [], ◌∷◌, ◌++◌, codes, decimal}
use Rattle.clr_season.specs.Season.{Season}
use Rattle.clr_report.specs.Lines.{line}
use Rattle.clr_report.specs.PlanText.{revenue_line, season_line, sizes_of}

-- the number of rungs and tests that are written
abbrev pub objects_line : ℕ → List ℕ
objects_line objects = line (codes "objects" ∷ decimal objects ∷ [])

-- the report on a policy of a season, by its two values in units of 10^-8
unfoldable pub judge_text : Season → ℕ → ℤ → ℤ → List ℕ
judge_text season objects low high = season_line (sizes_of season) ++ objects_line objects ++ revenue_line low high
