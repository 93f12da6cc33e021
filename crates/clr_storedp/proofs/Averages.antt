-- A week's averages, row by row.
use Rattle.std.proofs.Common.{◌≡◌, ℕ, ◌+◌, ◌<◌, ℤ, pos, List, ◌++◌, length, get_or, slice_get, Some}
use Rattle.clr_rules.specs.declared.season_rules.Summary.{Summary}
use Rattle.clr_season.specs.Season.{Season}
use Rattle.clr_model.specs.PathValue.{weighed}
use Rattle.clr_rows.specs.Rows.{row_at}
use Rattle.clr_storedp.specs.Rows.{AreAverages}
use Rattle.clr_rows.proofs.Lists.{rows_more, size_more}

pub averages_more : (div : ℤ → ℕ → ℤ) (season : Season) (store done width : ℕ) (list : List Summary) (after : List ℤ) (count : ℕ) (items row : List ℤ) → AreAverages div season store done width list after count items → length row ≡ width →
    ((s : Summary) → slice_get list count ≡ Some s → (stock : ℕ) → stock < width → get_or row stock (pos 0) ≡ div (weighed season store done s.last s.last stock (λ rest. get_or (row_at width after count) rest (pos 0))) season.base) →
    AreAverages div season store done width list after (count + 1) (items ++ row)
averages_more div season store done width list after count items row are size here = record {
  size = size_more width count items row are.size size;
  each = λ place stock s lt at low.
      rows_more width count items row (pos 0) (λ p x v. (s : Summary) → slice_get list p ≡ Some s → v ≡ div (weighed season store done s.last s.last x (λ rest. get_or (row_at width after p) rest (pos 0))) season.base) are.size size
      (λ p x h l s' at'. are.each p x s' h at' l) (λ x l s' at'. here s' at' x l) place stock lt low s at;
}
