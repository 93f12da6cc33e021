-- The sweep of a store's masses from one week to the next.
use Rattle.std.specs.Prelude.{◌≡◌, ℕ, suc, ◌+◌, ◌*◌, ◌/◌, ◌≤◌, ◌==◌, ◌&&◌, if◌then◌else◌, List, get_or, length, slice_get, Some}
use Rattle.std.specs.List.{sum_by}
use Rattle.clr_num.specs.Lists.{numbers}
use Rattle.clr_rules.specs.declared.season_rules.Summary.{Summary}
use Rattle.clr_rules.specs.LiveSummaries.{same_summary}
use Rattle.clr_rules.specs.Rules.{next_summary}
use Rattle.clr_season.specs.Season.{Season, demands, weight}
use Rattle.clr_model.specs.Revenue.{left}
use Rattle.clr_mult.specs.Tables.{EachEntry, SameSizes, Table, usage_at}

-- what so many of the demands, from 0 up, take of a mass at a stock to a place, where the stock of 0 stands at `start`
abbrev pub spread : ℕ → List ℕ → ℕ → ℕ → ℕ → ℕ → ℕ → ℕ
spread mass weights base stock start count place = sum_by (λ demand. if place == start + left stock demand then mass * get_or weights demand 0 / base else 0) (numbers 0 count)

-- what comes of a mass at a summary and a stock, whose choice is a rung, to a summary and a stock after the week
abbrev pub arriving : Season → ℕ → ℕ → Summary → ℕ → ℕ → ℕ → Summary → ℕ → ℕ
arriving season store done s stock rung mass after rest =
    sum_by (λ demand. if same_summary after (next_summary season.rules s rung) && (rest == left stock demand) then mass * weight season store (suc done) rung demand / season.base else 0) (demands season)

-- A week's masses before and after more of them came in: at each live summary and stock what came to it was added.
abbrev pub CameIn : ℕ → List Summary → (Summary → ℕ → ℕ) → List ℕ → List ℕ → Type 0
CameIn width list came before after =
    (place stock : ℕ) (s : Summary) → slice_get list place ≡ Some s → suc stock ≤ width → get_or after (place * width + stock) 0 ≡ get_or before (place * width + stock) 0 + came s stock

-- To a store's usage in a week the numbers of `more` were added by rung, and nothing else has changed.
pub record IsUsed (store week : ℕ) (more : ℕ → ℕ) (before after : Table ℕ) : Type 0 where
  pub sizes : SameSizes after before
  pub count : length after.entries ≡ length before.entries
  pub entries : EachEntry before (λ s w rung. usage_at after s w rung ≡ usage_at before s w rung + (if (s == store) && (w == week) then more rung else 0))
