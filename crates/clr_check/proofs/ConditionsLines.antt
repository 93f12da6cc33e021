-- The conditions of the path's line and of a line of multipliers, and the numbers of a store's line.
use Rattle.std.proofs.Common.{◌≡◌, ℕ, ◌-◌, IsTrue, sym, ap, ◌∙◌, ◌⊎◌, inl, inr, arith, suc, List, [], ◌∷◌, length, map, get_or, None, Option, ℤ, pos}
use Rattle.std.specs.List.{list_all}
use mathlib.Core.Path.{fun_ext}
use Rattle.clr_num.specs.Sums.{sum_of}
use Rattle.clr_rules.specs.Rules.{IsPath}
use Rattle.clr_season.specs.Season.{Season, store_at}
use Rattle.clr_cert.specs.declared.place.Place.{Place}
use Rattle.clr_cert.specs.declared.place.Place.TheVariants.{Head, Lengths, Path, Mult, End}
use Rattle.clr_cert.specs.declared.no.NoKind.TheVariants as kind
use Rattle.clr_cert.specs.Conditions.{conditions, equal, path_condition}
use Rattle.clr_cert.specs.Entries.{CertEntries, most_entry}
use Rattle.clr_cert.specs.Places.{week_numbers}
use Rattle.clr_cert.specs.Reading.{entries_in, is_within, told}
use Rattle.clr_check.specs.declared.faults.Fault.{Fault}
use Rattle.clr_check.specs.declared.tables.Tables.{Tables}
use Rattle.clr_check.specs.Faults.{AreNumbers, first_fault}
use Rattle.clr_check.specs.Standing.{IsLineKept}
use Rattle.clr_check.proofs.ConditionsLemmas.{path_told}
use Rattle.clr_check.proofs.Holding.{all_small}

-- a store's line has a number in the range of entries for each stock
pub are_numbers : (season : Season) (store : ℕ) (numbers : List ℤ) → length numbers ≡ suc (store_at season store).units → IsTrue (list_all (is_within most_entry) numbers) → AreNumbers season store numbers
are_numbers season store numbers size range = record { size = size; small = all_small most_entry numbers range }

module _ (season : Season) (lines : List (List ℕ)) (row : ℕ) (tables : Tables) (numbers : List ℤ) (found : Option Fault) where
  pub path_line_is : IsPath season.rules tables.path → IsLineKept season lines row Path tables numbers → found ≡ first_fault (map (path_condition season tables.path) (week_numbers season)) → found ≡ first_fault (conditions season (entries_in season lines) numbers Path)
  unfolding conditions
  path_line_is is kept own = own ∙ ap (λ p. first_fault (map (path_condition season p) (week_numbers season))) (sym (path_told season lines tables is (kept.keeps row Path kept.here (omega arith) tt)))

  pub mult_line_is : (week rung : ℕ) → length numbers ≡ length season.stores → IsLineKept season lines row (Mult week rung) tables numbers → found ≡ first_fault (equal kind.Sum (sum_of (length numbers) (λ i. get_or numbers i (pos 0))) (pos 0) ∷ []) → found ≡ first_fault (conditions season (entries_in season lines) numbers (Mult week rung))
  unfolding conditions entries_in
  mult_line_is week rung count kept own =
      own ∙ ap (λ s. first_fault (equal kind.Sum s (pos 0) ∷ []))
      (ap (λ n. sum_of n (λ i. get_or numbers i (pos 0))) count
      ∙ ap (sum_of (length season.stores)) (fun_ext (λ (i : ℕ). ap (λ (ns : List ℤ). get_or ns i (pos 0)) (sym kept.tells) ∙ ap (told season lines (Mult week rung)) (sym (back i)))))
    where
      back : (i : ℕ) → suc i - 1 ≡ i
      back i = omega arith

-- the lines without numbers have no condition
pub none_at : (season : Season) (place : Place) (entries : CertEntries) (numbers : List ℤ) → (place ≡ Head) ⊎ ((place ≡ Lengths) ⊎ (place ≡ End)) → None ≡ first_fault (conditions season entries numbers place)
unfolding conditions
none_at season place entries numbers (inl e) = sym (ap (λ p. first_fault (conditions season entries numbers p)) e)
none_at season place entries numbers (inr (inl e)) = sym (ap (λ p. first_fault (conditions season entries numbers p)) e)
none_at season place entries numbers (inr (inr e)) = sym (ap (λ p. first_fault (conditions season entries numbers p)) e)
