-- What the lines of an accepted certificate tell at each place: its conditions hold of the entries that the lines tell.
use Rattle.std.proofs.Common.{◌≡◌, ℕ, cond, ◌&&◌, sym, ap, ◌∙◌, subst, arith, suc, zero, List, [], ◌∷◌, get_or, slice_get, Some, IsTrue, ℤ, ◌≤ℤ◌}
use Rattle.std.specs.Prelude.{int_le, unwrap_or}
use Rattle.std.specs.Int.Signed.{le_z_yes}
use Rattle.std.specs.Bool.{passes}
use Rattle.std.specs.List.{AllByRecursion}
use Rattle.std.proofs.lemmas.Bool.{and_parts}
use Rattle.clr_season.specs.Season.{Season}
use Rattle.clr_cert.specs.declared.place.Place.{Place}
use Rattle.clr_cert.specs.Accepts.{Accepts, IsAccepted}
use Rattle.clr_cert.specs.Conditions.{conditions}
use Rattle.clr_cert.specs.Places.{places}
use Rattle.clr_cert.specs.Reading.{are_in_range, ended_lines, entries_in, line_numbers, numbers_told, row_of}
use Rattle.clr_cert.proofs.Among.{Among, row_inside, row_is}

-- ---- items of which something holds

pub All-among : {X : Type 0} (P : X → Type 0) (xs : List X) (x : X) → AllByRecursion P xs → Among xs x → P x
All-among {X = X} P xs x all h = go xs h.at h.here all
  where
    go : (xs : List X) (k : ℕ) → slice_get xs k ≡ Some x → AllByRecursion P xs → P x
    go [] k e all = cc
    go (y ∷ xs) zero e all = let same : y ≡ x = cc in subst P same all.0
    go (y ∷ xs) (suc k) e all = go xs k e all.1

pub at_most_is : (a b : ℤ) → IsTrue (int_le a b) → a ≤ℤ b
at_most_is a b h = le_z_yes (passes _ h)

pub equal_is : (a b : ℤ) → IsTrue (int_le a b && int_le b a) → a ≡ b
equal_is a b h =
    let parts = and_parts (int_le a b) (int_le b a) h in
    both (at_most_is a b parts.0) (at_most_is b a parts.1)
  where
    both : a ≤ℤ b → b ≤ℤ a → a ≡ b
    both p q = grind arith

-- ---- an accepted place

-- the numbers that the lines tell at a place lie in their ranges and meet its conditions
pub record Holds (season : Season) (lines : List (List ℕ)) (place : Place) : Type 0 where
  pub range : IsTrue (are_in_range season place (numbers_told season lines place))
  pub conditions : AllByRecursion (λ condition. IsTrue condition.holds) (conditions season (entries_in season lines) (numbers_told season lines place) place)

-- the line of a place is the first that has it
pub holds_at : (season : Season) (bytes : List ℕ) (place : Place) → Accepts season bytes → Among (places season) place → Holds season (ended_lines bytes) place
unfolding numbers_told
holds_at season bytes place accepted h =
    let line : IsAccepted season (ended_lines bytes) place (get_or (ended_lines bytes) (row_of season place) []) = accepted.each (row_of season place) place (row_is season place h) in
    let told_is : line.numbers ≡ numbers_told season (ended_lines bytes) place
    = sym (ap (λ b. cond b (unwrap_or (line_numbers season place (get_or (ended_lines bytes) (row_of season place) [])) []) []) (row_inside season place h) ∙ ap (λ o. unwrap_or o []) line.form) in
    record {
      range = subst (λ n. IsTrue (are_in_range season place n)) told_is line.range;
      conditions = subst (λ n. AllByRecursion (λ condition. IsTrue condition.holds) (conditions season (entries_in season (ended_lines bytes)) n place)) told_is line.conditions;
    }
