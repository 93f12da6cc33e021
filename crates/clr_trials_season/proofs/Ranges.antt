-- The numbers of the tables lie in their ranges.
use Rattle.std.proofs.Common.{◌≡◌, ℕ, ◌+◌, ◌*◌, ◌<◌, ◌≤◌, Bool, true, false, ◌&&◌, nat_le, nat_lt, List, [], ◌∷◌, length, get_or, refl, sym, ap, ◌∙◌, subst, arith, suc, zero, cond, ℤ, pos, negsuc, neg_ℤ, unsigned_abs, leb→le}
use Rattle.std.proofs.lemmas.Bool.{and_parts, cases_lt}
use Rattle.std.proofs.lemmas.Int.{ints}
use Rattle.std.specs.Bool.{passes}
use Rattle.std.specs.List.{list_all}
use Rattle.clr_average.specs.Average.{IsWithin}
use Rattle.clr_rules.specs.declared.season_rules.Summary.{Summary}
use Rattle.clr_season.specs.Season.{Season}
use Rattle.clr_cert.specs.Entries.{Call, ask_high, ask_joint, ask_low, ask_mult, ask_rung, ask_value, AreInRange, IsAsked, IsInItsRange, most_entry}
use Rattle.clr_trials_season.specs.Worked.{choices, path_values, place, worked, rungs, store_values}

-- ---- a table's numbers

is_small : ℤ → Bool
is_small z = nat_le (unsigned_abs z) most_entry

small_within : (z : ℤ) → is_small z ≡ true → IsWithin most_entry z
unfolding is_small
small_within (pos n) h = let le : n ≤ most_entry = leb→le n most_entry (passes _ h) in record { low = omega (arith, ints); high = omega (arith, ints) }
small_within (negsuc n) h = let le : suc n ≤ most_entry = leb→le (suc n) most_entry (passes _ h) in record { low = omega (arith, ints); high = omega (arith, ints) }

listed_within : (list : List ℤ) (i : ℕ) → list_all is_small list ≡ true → IsWithin most_entry (get_or list i (pos 0))
listed_within [] i h = record { low = omega (arith, ints); high = omega (arith, ints) }
listed_within (z ∷ list) zero h = small_within z (and_parts (is_small z) (list_all is_small list) h).0
listed_within (z ∷ list) (suc i) h = listed_within list i (and_parts (is_small z) (list_all is_small list) h).1

is_rung : ℕ → Bool
is_rung n = nat_le 1 n && nat_le n 2

listed_rung : (list : List ℕ) (i : ℕ) → list_all is_rung list ≡ true → (1 ≤ get_or list i 1) × (get_or list i 1 ≤ 2)
unfolding is_rung
listed_rung [] i h = (omega arith, omega arith)
listed_rung (n ∷ list) zero h =
    let one = (and_parts (is_rung n) (list_all is_rung list) h).0 in
    let parts = and_parts (nat_le 1 n) (nat_le n 2) one in
    (leb→le 1 n (passes _ parts.0), leb→le n 2 (passes _ parts.1))
listed_rung (n ∷ list) (suc i) h = listed_rung list i (and_parts (is_rung n) (list_all is_rung list) h).1

path_small : list_all is_small path_values ≡ true
unfolding is_small
path_small = refl

store_small : list_all is_small store_values ≡ true
unfolding is_small
store_small = refl

choices_listed : list_all is_rung choices ≡ true
unfolding is_rung
choices_listed = refl

rungs_listed : list_all is_rung rungs ≡ true
unfolding is_rung
rungs_listed = refl

-- ---- the season's numbers

is_less : (a b : ℕ) → a < b → nat_lt a b ≡ true
is_less a b h = grind arith

not_less : (a b : ℕ) → b ≤ a → nat_lt a b ≡ false
not_less a b h = grind arith

two_rungs : (rung ladder : ℕ) → ladder ≡ 2 → (1 ≤ rung) × (rung ≤ 2) → (1 ≤ rung) × (rung ≤ ladder)
two_rungs rung ladder e h = (h.0, omega (arith, h.1))

pub worked_in_range : (season : Season) → season.rules.weeks ≡ 2 → length season.rules.prices ≡ 2 → AreInRange season worked
worked_in_range season weeks ladder (ask_rung week) h = two_rungs (get_or rungs week 1) (length season.rules.prices) ladder (listed_rung rungs week rungs_listed)
worked_in_range season weeks ladder (ask_mult store week rung) h = record { low = omega (arith, ints); high = omega (arith, ints) }
worked_in_range season weeks ladder (ask_low done store stock) h = listed_within path_values (done * 3 + stock) path_small
worked_in_range season weeks ladder (ask_high done store stock) h = listed_within path_values (done * 3 + stock) path_small
worked_in_range season weeks ladder (ask_value done store s stock) h = listed_within store_values (place done s stock) store_small
worked_in_range season weeks ladder (ask_joint done s stocks) h =
    let index : ℕ = place done s (get_or stocks 0 0) in
    record {
      rung = λ early.
          subst (λ b. (1 ≤ cond b (get_or choices index 1) 0) × (cond b (get_or choices index 1) 0 ≤ length season.rules.prices)) (sym (is_less done 2 (omega arith)))
          (two_rungs (get_or choices index 1) (length season.rules.prices) ladder (listed_rung choices index choices_listed));
      none = λ e. ap (λ b. cond b (get_or choices index 1) 0) (not_less done 2 (omega arith));
      low = listed_within store_values index store_small;
      top = listed_within store_values index store_small;
    }
