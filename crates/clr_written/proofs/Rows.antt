-- What the lines of a certificate's text tell at each place: the numbers that they were written from.
use Rattle.std.proofs.Common.{◌≡◌, ℕ, cond, ap, ◌∙◌, suc, zero, List, [], ◌∷◌, ◌++◌, length, map, get_or, slice_get, Some, IsTrue, ℤ, pos}
use Rattle.std.specs.Prelude.{unwrap_or}
use Rattle.std.specs.List.{AllByRecursion}
use lib.ListN.{length-map}
use Rattle.clr_num.proofs.Fields.{Above}
use Rattle.clr_rules.specs.Rules.{is_live}
use Rattle.clr_season.specs.Season.{Season, IsSeason}
use Rattle.clr_cert.specs.declared.place.Place.{Place}
use Rattle.clr_cert.specs.declared.place.Place.TheVariants.{End}
use Rattle.clr_cert.specs.Entries.{AreInRange, CertEntries}
use Rattle.clr_cert.specs.Lines.{cert_text, line_at, numbers_at}
use Rattle.clr_cert.specs.Places.{IsPlaceOf, places}
use Rattle.clr_cert.specs.Reading.{ended_lines, line_numbers, numbers_told, row_of, told, unended}
use Rattle.clr_cert.proofs.Among.{Among, row_inside, row_is}
use Rattle.clr_cert.proofs.Walking.{walk_next}
use Rattle.clr_written.proofs.Alls.{All-rows}
use Rattle.clr_written.proofs.Lines.{line_above, line_back}
use Rattle.clr_written.proofs.Pieces.{lines_back, none_left}

-- ---- the places of rows

append_left : {X : Type 0} (xs ys : List X) (k : ℕ) (x : X) → slice_get xs k ≡ Some x → slice_get (xs ++ ys) k ≡ Some x
append_left [] ys k x h = cc
append_left (y ∷ xs) ys zero x h = h
append_left (y ∷ xs) ys (suc k) x h = append_left xs ys k x h

-- a place that has a row is of the season
pub place_of : (season : Season) (row : ℕ) (place : Place) → IsSeason season → slice_get (places season) row ≡ Some place → IsPlaceOf season place
place_of season row place ok h = (walk_next season place row ok (append_left (places season) (End ∷ []) row place h)).within

-- ---- the lines

get-map : {X Y : Type 0} (f : X → Y) (xs : List X) (k : ℕ) (x : X) (d : Y) → slice_get xs k ≡ Some x → get_or (map f xs) k d ≡ f x
get-map f [] k x d h = cc
get-map f (y ∷ xs) zero x d h = let same : y ≡ x = cc in ap f same
get-map f (y ∷ xs) (suc k) x d h = get-map f xs k x d h

module _ (season : Season) (entries : CertEntries) (ok : IsSeason season) (any : IsTrue (is_live season.rules [])) (range : AreInRange season entries) where
  all_above : AllByRecursion (λ place. Above 10 (line_at season entries place)) (places season)
  all_above = All-rows (λ place. Above 10 (line_at season entries place)) (places season) (λ row place h. line_above season ok entries any range place (place_of season row place ok h))

  pub lines_are : ended_lines (cert_text season entries) ≡ map (line_at season entries) (places season)
  lines_are = lines_back (line_at season entries) (places season) all_above

  pub nothing_left : unended (cert_text season entries) ≡ []
  nothing_left = none_left (line_at season entries) (places season) all_above

  pub lines_many : length (ended_lines (cert_text season entries)) ≡ length (places season)
  lines_many = ap length lines_are ∙ length-map (places season) (line_at season entries)

  -- the line of a row is that of its place
  pub line_is : (row : ℕ) (place : Place) → slice_get (places season) row ≡ Some place → get_or (ended_lines (cert_text season entries)) row [] ≡ line_at season entries place
  line_is row place h = ap (λ (lines : List (List ℕ)). get_or lines row []) lines_are ∙ get-map (line_at season entries) (places season) row place [] h

  pub row_back : (row : ℕ) (place : Place) → slice_get (places season) row ≡ Some place → line_numbers season place (get_or (ended_lines (cert_text season entries)) row []) ≡ Some (numbers_at season entries place)
  row_back row place h = ap (line_numbers season place) (line_is row place h) ∙ line_back season ok entries any range place (place_of season row place ok h)

  pub numbers_are : (place : Place) → Among (places season) place → numbers_told season (ended_lines (cert_text season entries)) place ≡ numbers_at season entries place
  unfolding numbers_told
  numbers_are place h =
      let lines : List (List ℕ) = ended_lines (cert_text season entries) in
      ap (λ b. cond b (unwrap_or (line_numbers season place (get_or lines (row_of season place) [])) []) []) (row_inside season place h)
      ∙ ap (λ o. unwrap_or o []) (row_back (row_of season place) place (row_is season place h))

  pub told_is : (place : Place) (index : ℕ) → Among (places season) place → told season (ended_lines (cert_text season entries)) place index ≡ get_or (numbers_at season entries place) index (pos 0)
  told_is place index h = ap (λ (numbers : List ℤ). get_or numbers index (pos 0)) (numbers_are place h)
