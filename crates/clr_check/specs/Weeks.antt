-- One week of one store, over a row of entries by stock from 0.
use Rattle.std.specs.Prelude.{◌≡◌, ℕ, suc, ◌<◌, ℤ, pos, ◌+ℤ◌, List, length, get_or}
use Rattle.clr_average.specs.Average.{IsWithin}
use Rattle.clr_season.specs.Season.{Season, store_at}
use Rattle.clr_model.specs.Revenue.{earn, left}
use Rattle.clr_cert.specs.Entries.{most_entry}

-- a row has an entry in its range for each stock of a store
pub record AreEntries (season : Season) (store : ℕ) (row : List ℤ) : Type 0 where
  pub size : length row ≡ suc (store_at season store).units
  pub small : (k : ℕ) → k < length row → IsWithin most_entry (get_or row k (pos 0))

-- what a demand earns, and the entry of what it leaves
abbrev pub kept_value : Season → ℕ → ℕ → ℕ → ℕ → List ℤ → ℕ → ℤ
kept_value season store before rung stock row demand = earn season store before rung stock demand +ℤ get_or row (left stock demand) (pos 0)
