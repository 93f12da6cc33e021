-- The sums over the stores at full stocks before the first week.
use Rattle.std.proofs.Common.{◌≡◌, [], refl, ℕ, ◌+◌, ◌*◌, ◌<◌, ℤ, ◌+ℤ◌, suc, length, sym, ap, ap₂, ◌∙◌, subst, arith, add-one}
use Rattle.clr_average.specs.Average.{IsWithin}
use Rattle.clr_average.proofs.Sums.{sum_of_more}
use Rattle.clr_average.proofs.Within.{within_more, within_sum}
use Rattle.clr_num.specs.Sums.{sum_of}
use Rattle.clr_rules.specs.declared.season_rules.Summary.{Summary}
use Rattle.clr_rules.specs.FirstPath.{SomePathObeys}
use Rattle.clr_rules.specs.Rules.{IsLiveSummary}
use Rattle.clr_season.specs.Season.{Season, IsSeason, store_at}
use Rattle.clr_cert.specs.Entries.{IsCell, most_entry}
use Rattle.clr_cert.specs.Lines.{full_stock, opening}

-- of the first stores
abbrev pub sum_of_first : Season → (ℕ → ℕ → ℤ) → ℕ → ℤ
sum_of_first season f count = sum_of count (λ i. f (suc i) (full_stock season (suc i)))

pub sum_next : (season : Season) (f : ℕ → ℕ → ℤ) (index stock : ℕ) (total entry next : ℤ) → total ≡ sum_of_first season f index → entry ≡ f (index + 1) stock → stock ≡ (store_at season (index + 1)).units → next ≡ total +ℤ entry →
    next ≡ sum_of_first season f (index + 1)
sum_next season f index stock total entry next so_far is held more =
    let here : entry ≡ f (suc index) (full_stock season (suc index)) = is ∙ (ap (f (index + 1)) held ∙ ap (λ n. f n (full_stock season n)) (add-one index)) in
    more ∙ (ap₂ ◌+ℤ◌ so_far here ∙ (sym (sum_of_more index (λ i. f (suc i) (full_stock season (suc i)))) ∙ ap (sum_of_first season f) (sym (add-one index))))

pub size_next : (index : ℕ) (total entry next : ℤ) → IsWithin (index * most_entry) total → IsWithin most_entry entry → next ≡ total +ℤ entry → IsWithin ((index + 1) * most_entry) next
size_next index total entry next h k more =
    subst (IsWithin ((index + 1) * most_entry)) (sym more) (within_more (index * most_entry + most_entry) ((index + 1) * most_entry) (total +ℤ entry) (within_sum (index * most_entry) most_entry total entry h k) (omega arith))

-- there are at most 64 stores
pub size_most : (season : Season) (index : ℕ) (total : ℤ) → IsSeason season → index < length season.stores → IsWithin (index * most_entry) total → IsWithin (64 * most_entry) total
size_most season index total is low h = let few = is.stores.few in within_more (index * most_entry) (64 * most_entry) total h (omega arith)

pub opening_cell : (season : Season) (index stock : ℕ) → index < length season.stores → stock ≡ (store_at season (index + 1)).units → IsCell season 0 (index + 1) stock
opening_cell season index stock low held = record { early = omega arith; first = omega arith; last = omega arith; held = omega arith }

-- where some path obeys, the summary before the first week is live
pub opening_live : (season : Season) (s : Summary) → SomePathObeys season.rules → s ≡ opening season → IsLiveSummary season.rules 0 s
opening_live season s any is = ([], refl, any, sym is)
