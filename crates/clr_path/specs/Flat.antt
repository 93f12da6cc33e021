-- A store's rows one after another, from the end of the season back.
use Rattle.std.specs.Prelude.{◌≡◌, ℕ, suc, ◌+◌, ◌-◌, ◌*◌, ◌<◌, ℤ, pos, List, length, get_or, map, take, drop}
use Rattle.clr_num.specs.Lists.{numbers}
use Rattle.clr_season.specs.Season.{Season}
use Rattle.clr_model.specs.PathValue.{path_value_at}

-- the row after so many weeks
abbrev pub flat_row : ℕ → ℕ → List ℤ → ℕ → List ℤ
flat_row weeks width values done = take width (drop ((weeks - done) * width) values)

-- the rows by weeks done
abbrev pub flat_rows : ℕ → ℕ → List ℤ → List (List ℤ)
flat_rows weeks width values = map (flat_row weeks width values) (numbers 0 (suc weeks))

-- the first so many rows are those of a path's last weeks
pub record AreRows (div : ℤ → ℕ → ℤ) (season : Season) (store : ℕ) (path : List ℕ) (weeks width count : ℕ) (values : List ℤ) : Type 0 where
  pub size : length values ≡ count * width
  pub each : (row stock : ℕ) → row < count → stock < width → get_or values (row * width + stock) (pos 0) ≡ path_value_at div season store path (weeks - row) stock
