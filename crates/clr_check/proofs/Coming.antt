-- One line more: what the lines before it tell stays, and the new line tells its own numbers.
use Rattle.std.proofs.Common.{Bool, true, false, cond, nat_lt, slice_get, subst, ◌≡◌, ℕ, ◌+◌, ◌<◌, refl, sym, ap, ◌∙◌, arith, suc, List, [], ◌∷◌, ◌++◌, length, get_or, Some, ℤ, length-append}
use Rattle.std.specs.Prelude.{unwrap_or}
use Rattle.std.proofs.lemmas.List.{get_or_append_left}
use Rattle.std.proofs.Math.Seq.{get_or-append_seam}
use Rattle.clr_season.specs.Season.{Season, IsSeason}
use Rattle.clr_cert.specs.declared.place.Place.{Place}
use Rattle.clr_cert.specs.Places.{places}
use Rattle.clr_cert.specs.Reading.{line_numbers, numbers_told, row_of}
use Rattle.clr_cert.proofs.Among.{Among, among_found, row_inside}
use Rattle.clr_check.proofs.Rows.{come_before, row_at, stage, walk_place}

-- the line of a place has come
abbrev pub HasCome : Season → List (List ℕ) → Place → Type 0
HasCome season lines place = row_of season place < length lines

pub length-more : (lines : List (List ℕ)) (line : List ℕ) → length (lines ++ line ∷ []) ≡ suc (length lines)
length-more lines line = let e : length (lines ++ line ∷ []) ≡ length lines + length (line ∷ []) = length-append lines (line ∷ []) in omega (arith, e)

pub told_before : (season : Season) (lines : List (List ℕ)) (line : List ℕ) (place : Place) → HasCome season lines place → numbers_told season (lines ++ line ∷ []) place ≡ numbers_told season lines place
unfolding numbers_told
told_before season lines line place h =
    ap (λ l. cond (nat_lt (row_of season place) (length (places season))) (unwrap_or (line_numbers season place l) []) []) (get_or_append_left lines (line ∷ []) [] (row_of season place) h)

-- a place that the season hasn't tells nothing
pub told_never : (season : Season) (lines : List (List ℕ)) (place : Place) → nat_lt (row_of season place) (length (places season)) ≡ false → numbers_told season lines place ≡ []
unfolding numbers_told
told_never season lines place h = ap (λ b. cond b (unwrap_or (line_numbers season place (get_or lines (row_of season place) [])) []) []) h

pub told_now : (season : Season) (lines : List (List ℕ)) (line : List ℕ) (place : Place) (list : List ℤ) → Among (places season) place → row_of season place ≡ length lines → line_numbers season place line ≡ Some list → numbers_told season (lines ++ line ∷ []) place ≡ list
unfolding numbers_told
told_now season lines line place list among at is =
    ap (λ b. cond b (unwrap_or (line_numbers season place (get_or (lines ++ line ∷ []) (row_of season place) [])) []) []) (row_inside season place among)
    ∙ (ap (λ n. unwrap_or (line_numbers season place (get_or (lines ++ line ∷ []) n [])) []) at ∙ (ap (λ l. unwrap_or (line_numbers season place l) []) (get_or-append_seam lines line [] []) ∙ ap (λ o. unwrap_or o []) is))

-- ---- what earlier stages tell stays

-- a place of an earlier stage than that of a line which has come
pub told_stays : (season : Season) (lines : List (List ℕ)) (line : List ℕ) (row : ℕ) (place other : Place) → IsSeason season → slice_get (places season) row ≡ Some place → row < length lines → stage season other < stage season place →
    numbers_told season (lines ++ line ∷ []) other ≡ numbers_told season lines other
told_stays season lines line row place other ok here less early = go (nat_lt (row_of season other) (length (places season))) refl
  where
    go : (b : Bool) → nat_lt (row_of season other) (length (places season)) ≡ b → numbers_told season (lines ++ line ∷ []) other ≡ numbers_told season lines other
    go false e = told_never season (lines ++ line ∷ []) other e ∙ sym (told_never season lines other e)
    go true e =
        let inside : row_of season other < length (places season) = grind arith in
        let before : row_of season other < row = come_before season row place other ok (walk_place season row place here) (among_found season other inside) early in
        told_before season lines line other (omega (arith, before, less))

-- the line's own place
pub told_here : (season : Season) (lines : List (List ℕ)) (line : List ℕ) (row : ℕ) (place : Place) → IsSeason season → slice_get (places season) row ≡ Some place → row < length lines → numbers_told season (lines ++ line ∷ []) place ≡ numbers_told season lines place
told_here season lines line row place ok here less = told_before season lines line place (subst (λ n. n < length lines) (sym (row_at season row place ok here)) less)
