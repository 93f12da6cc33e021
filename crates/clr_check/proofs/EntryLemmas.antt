-- The conditions of a path's entries, one stock after another.
use Rattle.std.proofs.Common.{◌≡◌, ℕ, ◌-◌, ◌<◌, ◌≤◌, min, Bool, true, false, cond, ◌==◌, refl, sym, ap, ap₂, ◌∙◌, arith, suc, zero, List, [], ◌∷◌, map, length, get_or, Some, None, Option, ℤ, pos, ◌*ℤ◌, ◌+ℤ◌, to_z, of_z}
use mir.Syntax.{w128}
use Rattle.clr_check.proofs.Sides.{read_128}
use Rattle.clr_average.specs.Average.{IsWithin}
use Rattle.clr_average.proofs.Sums.{sum_over-same}
use Rattle.clr_rules.specs.Rules.{IsPath, Rulebook, rung_at}
use Rattle.clr_season.specs.Season.{Season, demands, store_at, weight}
use Rattle.clr_model.specs.PathValue.{weighed}
use Rattle.clr_model.specs.Revenue.{earn, left}
use Rattle.clr_model.proofs.Ladders.{path_on_ladder}
use Rattle.clr_cert.specs.Conditions.{Condition, end_worth, path_entry, path_sum}
use Rattle.clr_cert.specs.Entries.{most_entry}
use Rattle.clr_cert.specs.Lines.{stocks_of}
use Rattle.clr_check.specs.declared.faults.Bound.{Bound}
use Rattle.clr_check.specs.declared.faults.Fault.{Fault}
use Rattle.clr_check.specs.Faults.{HasRow, compare_by, entry_left, entry_right, first_fault}
use Rattle.clr_check.proofs.Firsts.{first_here, map_blocks, none_so_far}

-- ---- rungs of a path

pub rung_on : (rules : Rulebook) (path : List ℕ) (week : ℕ) → 1 ≤ length rules.prices → IsPath rules path → week ≤ length path → (1 ≤ rung_at path week) × (rung_at path week ≤ length rules.prices)
rung_on rules path zero some is h = (omega arith, some)
rung_on rules path (suc week) some is h = path_on_ladder rules path is week h

-- ---- sums over one row

-- values that agree up to a stock have one sum
pub weighed_same : (season : Season) (store done before rung stock : ℕ) (f g : ℕ → ℤ) → ((rest : ℕ) → rest ≤ stock → f rest ≡ g rest) → weighed season store done before rung stock f ≡ weighed season store done before rung stock g
weighed_same season store done before rung stock f g same =
    sum_over-same (demands season) (λ demand. pos (weight season store (suc done) rung demand) *ℤ (earn season store before rung stock demand +ℤ f (left stock demand))) (λ demand. pos (weight season store (suc done) rung demand) *ℤ (earn season store before rung stock demand +ℤ g (left stock demand)))
    (λ demand. ap (λ v. pos (weight season store (suc done) rung demand) *ℤ (earn season store before rung stock demand +ℤ v)) (same (left stock demand) (less stock demand)))
  where
    less : (a b : ℕ) → a - min a b ≤ a
    less a b = omega arith

-- ---- an entry

module _ (compare : ℤ → ℤ → Condition) (season : Season) (path : List ℕ) (table : ℕ → ℕ → ℕ → ℤ) (done store before rung : ℕ) (entries after : List ℤ) (early : done ≤ season.rules.weeks)
    (before_is : before ≡ rung_at path done) (rung_is : done < season.rules.weeks → rung ≡ rung_at path (suc done))
    (here : HasRow season store entries (table done store)) (next : done < season.rules.weeks → HasRow season store after (table (suc done) store)) where
  pub entry_is : (stock : ℕ) → stock ≤ (store_at season store).units → path_entry compare season path table done store stock ≡ compare (entry_left season done (get_or entries stock (pos 0))) (entry_right season store done before rung stock after)
  entry_is stock held = go (done == season.rules.weeks) refl
    where
      entry : ℤ
      entry = get_or entries stock (pos 0)

      both : Bool → Condition
      both b = compare (cond b entry (entry *ℤ pos season.base)) (cond b (end_worth season store stock) (weighed season store done before rung stock (λ rest. get_or after rest (pos 0))))

      whole : Bool → Condition
      whole b = cond b (compare (table done store stock) (end_worth season store stock)) (compare (table done store stock *ℤ pos season.base) (path_sum season path table done store stock))

      go : (b : Bool) → (done == season.rules.weeks) ≡ b → path_entry compare season path table done store stock ≡ compare (entry_left season done (get_or entries stock (pos 0))) (entry_right season store done before rung stock after)
      go true e = ap whole e ∙ (ap (λ v. compare v (end_worth season store stock)) (here stock held) ∙ ap both (sym e))
      go false e =
          let short : done < season.rules.weeks = grind arith in
          ap whole e
          ∙ (ap₂ (λ v w. compare (v *ℤ pos season.base) w) (here stock held)
          (weighed_same season store done (rung_at path done) (rung_at path (suc done)) stock (table (suc done) store) (λ rest. get_or after rest (pos 0)) (λ rest le. next short rest (omega arith))
          ∙ ap₂ (λ k l. weighed season store done k l stock (λ rest. get_or after rest (pos 0))) (sym before_is) (sym (rung_is short)))
          ∙ ap both (sym e))

  conditions_at : ℕ → List Condition
  conditions_at stock = path_entry compare season path table done store stock ∷ []

  pub entries_none : ((k : ℕ) → k < suc (store_at season store).units → first_fault (compare (entry_left season done (get_or entries k (pos 0))) (entry_right season store done before rung k after) ∷ []) ≡ None) →
      first_fault (map (path_entry compare season path table done store) (stocks_of season store)) ≡ None
  entries_none each =
      ap first_fault (map_blocks (path_entry compare season path table done store) (stocks_of season store))
      ∙ none_so_far (λ stock. path_entry compare season path table done store stock ∷ []) 0 (suc (store_at season store).units) (λ k low less. ap (λ c. first_fault (c ∷ [])) (entry_is k (omega arith)) ∙ each k (omega arith))

  pub entries_first : (k : ℕ) (fault : Fault) → k < suc (store_at season store).units →
      ((n : ℕ) → n < k → first_fault (compare (entry_left season done (get_or entries n (pos 0))) (entry_right season store done before rung n after) ∷ []) ≡ None) →
      first_fault (compare (entry_left season done (get_or entries k (pos 0))) (entry_right season store done before rung k after) ∷ []) ≡ Some fault →
      first_fault (map (path_entry compare season path table done store) (stocks_of season store)) ≡ Some fault
  entries_first k fault less each bad =
      ap first_fault (map_blocks (path_entry compare season path table done store) (stocks_of season store))
      ∙ first_here (λ stock. path_entry compare season path table done store stock ∷ []) 0 (suc (store_at season store).units) k fault (omega arith) (omega arith)
      (λ n low l. ap (λ c. first_fault (c ∷ [])) (entry_is n (omega arith)) ∙ each n l) (ap (λ c. first_fault (c ∷ [])) (entry_is k (omega arith)) ∙ bad)

-- what the code found of a stock
pub fault_at : (bound : Bound) (season : Season) (done store before rung stock : ℕ) (entries after : List ℤ) (left right : ℤ) (found : Option Fault) → ((k : ℕ) → k < length entries → IsWithin most_entry (get_or entries k (pos 0))) → stock < length entries →
    left ≡ entry_left season done (to_z w128 (of_z w128 (get_or entries stock (pos 0)))) → right ≡ entry_right season store done before rung stock after → IsWithin 1000000000000000000000000000 left → IsWithin 1000000000000000000000000000 right →
    found ≡ first_fault (compare_by bound (to_z w128 (of_z w128 left)) (to_z w128 (of_z w128 right)) ∷ []) →
    found ≡ first_fault (compare_by bound (entry_left season done (get_or entries stock (pos 0))) (entry_right season store done before rung stock after) ∷ [])
fault_at bound season done store before rung stock entries after left right found small less left_is right_is left_small right_small is =
    let read : to_z w128 (of_z w128 (get_or entries stock (pos 0))) ≡ get_or entries stock (pos 0) = read_128 (get_or entries stock (pos 0)) most_entry (small stock less) (omega arith) in
    is ∙ ap₂ (λ a b. first_fault (compare_by bound a b ∷ [])) (read_128 left 1000000000000000000000000000 left_small (omega arith) ∙ (left_is ∙ ap (entry_left season done) read)) (read_128 right 1000000000000000000000000000 right_small (omega arith) ∙ right_is)
