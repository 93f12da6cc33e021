-- What the totals of a path's two tables enclose.
use Rattle.std.specs.Prelude.{List, ℕ}
use Rattle.clr_num.specs.Rounding.{floor, ceil}
use Rattle.clr_rules.specs.Rules.{IsPath}
use Rattle.clr_season.specs.Season.{Season, IsSeason}
use Rattle.clr_model.specs.Laws.{IsInterval}
use Rattle.clr_path.specs.Tables.{path_rows, table_total}

-- For every season and every path of it, the totals of the table rounded down and of the table rounded up enclose what the path
-- earns in expectation, and lie at most a unit apart for each store and week.
abbrev pub PathEncloses : Type 0
PathEncloses =
    (season : Season) (path : List ℕ) → IsSeason season → IsPath season.rules path → IsInterval season path (table_total (path_rows floor season path)) (table_total (path_rows ceil season path))
