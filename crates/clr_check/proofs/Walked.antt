-- The place of the next line, and the end.
use Rattle.std.proofs.Common.{◌≡◌, ℕ, ◌<◌, ◌≤◌, false, sym, ap, ◌∙◌, arith, suc, length, get_or, slice_get, Some, ◌⊎◌, inl, inr}
use Rattle.std.proofs.lemmas.Option.{slice_get-get_or, slice_get_within}
use Rattle.clr_season.specs.Season.{Season}
use Rattle.clr_cert.specs.declared.place.Place.{Place}
use Rattle.clr_cert.specs.declared.place.Place.TheVariants.{End}
use Rattle.clr_cert.specs.Places.{places, walk}
use Rattle.clr_check.specs.Standing.{is_end}
use Rattle.clr_check.proofs.Rows.{goes_at, length_walk, walk_end, walk_place}

-- the next place is one of a line, or the end after all lines
pub data IsWalked (season : Season) (row : ℕ) (place : Place) : Type 0 where
  of_line : slice_get (places season) row ≡ Some place → is_end place ≡ false → row < length (places season) → IsWalked season row place
  at_end : place ≡ End → row ≡ length (places season) → IsWalked season row place

pub walked : (season : Season) (row : ℕ) (place : Place) → slice_get (walk season) row ≡ Some place → IsWalked season row place
walked season row place h = elim (less_or row (length (places season))) [
  | inl less ↦ inside less
  | inr more ↦ outside more
]
  where
    less_or : (a b : ℕ) → (a < b) ⊎ (b ≤ a)
    less_or a b = grind arith

    some_is : {X : Type 0} {x y : X} → Some x ≡ Some y → x ≡ y
    some_is e = cc

    inside : row < length (places season) → IsWalked season row place
    inside less =
        let there : slice_get (places season) row ≡ Some (get_or (places season) row End) = slice_get-get_or (places season) row End less in
        let same : get_or (places season) row End ≡ place = some_is (sym (walk_place season row (get_or (places season) row End) there) ∙ h) in
        let here : slice_get (places season) row ≡ Some place = there ∙ ap Some same in
        of_line here (goes_at season row place here) less

    outside : length (places season) ≤ row → IsWalked season row place
    outside more =
        let inside_walk : row < length (walk season) = slice_get_within (walk season) row place h in
        let size : length (walk season) ≡ suc (length (places season)) = length_walk season in
        let at : row ≡ length (places season) = omega (arith, inside_walk, size, more) in
        at_end (some_is (sym h ∙ (ap (slice_get (walk season)) at ∙ walk_end season))) at
