-- One demand more of a spread.
use Rattle.std.proofs.Common.{◌≡◌, ℕ, suc, ◌+◌, ◌*◌, ◌/◌, ◌<◌, ◌≤◌, ◌==◌, Bool, true, false, cond, refl, List, length, get_or, sum, take, sym, ap, ◌∙◌, subst, arith, mul-add, mul-le-mul_right, mul_comm, ap₂, add_assoc, length-set}
use Rattle.std.proofs.Math.ListN.{set}
use Rattle.std.proofs.Math.Nat.{div-mul-le_self}
use native.Mathlib.Nat.{le_of_mul-le-mul_left}
use Rattle.std.proofs.lemmas.Bool.{eqb-true, eq-eqb}
use Rattle.std.proofs.lemmas.List.{get_or-set_other, get_or-set_same}
use Rattle.std.proofs.lemmas.List.Sums.{get_or-le-sum_by, sum_by_more, sum_by_push, sum_by-set, sum_by-take-le, sum_by_more_le}
use Rattle.std.specs.List.{sum_by}
use Rattle.clr_num.specs.Lists.{numbers}
use Rattle.clr_model.specs.Revenue.{left}
use Rattle.clr_subgrad.specs.Masses.{spread}
use Rattle.clr_rows.proofs.Leads.{numbers_last}

-- a sum over the numbers from 0, and the next number
pub sum_last : (f : ℕ → ℕ) (count : ℕ) → sum_by f (numbers 0 (count + 1)) ≡ sum_by f (numbers 0 count) + f count
sum_last f count =
    let e : count + 1 ≡ suc count = omega arith in
    let z : 0 + count ≡ count = omega arith in
    ap (λ n. sum_by f (numbers 0 n)) e ∙ (ap (sum_by f) (numbers_last 0 count) ∙ (sum_by_push f (numbers 0 count) (0 + count) ∙ ap (λ n. sum_by f (numbers 0 count) + f n) z))

-- a number was added at one place
pub added_at : (items : List ℕ) (at more place : ℕ) → at < length items → get_or (set items at (get_or items at 0 + more)) place 0 ≡ get_or items place 0 + cond (place == at) more 0
added_at items at more place lt = by_test (place == at) refl
  where
    by_test : (b : Bool) → (place == at) ≡ b → get_or (set items at (get_or items at 0 + more)) place 0 ≡ get_or items place 0 + cond b more 0
    by_test true e =
        let same : place ≡ at = eqb-true place at e in
        subst (λ p. get_or (set items at (get_or items at 0 + more)) p 0 ≡ get_or items p 0 + more) (sym same) (rw get_or-set_same refl)
    by_test false e =
        let differ : place ≡ at → ⊥ = λ same. (let clash : true ≡ false = sym (eq-eqb place at same) ∙ e in cc) in
        rw get_or-set_other (omega arith)

pub sum_added : (items : List ℕ) (at more : ℕ) → at < length items → sum (set items at (get_or items at 0 + more)) ≡ sum items + more
sum_added items at more lt = omega (arith, sum_by-set (λ x. x) items at (get_or items at 0 + more) 0 lt)

-- what the demands take by their weights
pub share_fits : (base mass weight so_far : ℕ) (total all : ℕ) → 1 ≤ base → base * so_far ≤ base * total + mass * all → all + weight ≤ base → base * (so_far + mass * weight / base) ≤ base * total + mass * (all + weight)
share_fits base mass weight so_far total all some h le =
    let part : mass * weight / base * base ≤ mass * weight = div-mul-le_self (mass * weight) base in
    let split : base * (so_far + mass * weight / base) ≡ base * so_far + base * (mass * weight / base) = mul-add base so_far (mass * weight / base) in
    let turned : base * (mass * weight / base) ≡ mass * weight / base * base = omega arith in
    let both : mass * (all + weight) ≡ mass * all + mass * weight = mul-add mass all weight in
    omega (arith, part, split, turned, both, h)

-- so their sum is no more than the mass
pub within_mass : (base mass sum_now total all : ℕ) → 1 ≤ base → base * sum_now ≤ base * total + mass * all → all ≤ base → sum_now ≤ total + mass
within_mass base mass sum_now total all some h le =
    let most : all * mass ≤ base * mass = mul-le-mul_right mass le in
    let turned : all * mass ≡ mass * all = mul_comm all mass in
    let split : base * (total + mass) ≡ base * total + base * mass = mul-add base total mass in
    le_of_mul-le-mul_left (omega (arith, h, most, turned, split)) some

-- how far a spread has come
pub record IsSpread (mass : ℕ) (weights : List ℕ) (base stock start demand : ℕ) (before after : List ℕ) : Type 0 where
  pub size : length after ≡ length before
  pub places : (place : ℕ) → get_or after place 0 ≡ get_or before place 0 + spread mass weights base stock start demand place
  pub total : base * sum after ≤ base * sum before + mass * sum (take demand weights)

module _ (mass : ℕ) (weights : List ℕ) (base stock start demand : ℕ) (before after : List ℕ) (is : IsSpread mass weights base stock start demand before after) (some : 1 ≤ base) (whole : sum weights ≡ base) (inside : start + stock < length before) (lt : demand < length weights)
    (at share : ℕ) (at_is : at ≡ start + left stock demand) (share_is : share ≡ mass * get_or weights demand 0 / base) where
  at_inside : at < length after
  at_inside = omega (arith, is.size, at_is, inside)

  more_total : base * (sum after + share) ≤ base * sum before + mass * sum (take (demand + 1) weights)
  more_total =
      subst (λ n. base * (sum after + n) ≤ base * sum before + mass * sum (take (demand + 1) weights)) (sym share_is)
      (subst (λ n. base * (sum after + mass * get_or weights demand 0 / base) ≤ base * sum before + mass * n) (sym (sum_by_more (λ x. x) weights demand 0 lt))
      (share_fits base mass (get_or weights demand 0) (sum after) (sum before) (sum (take demand weights)) some is.total (subst (λ n. sum (take demand weights) + get_or weights demand 0 ≤ n) whole (sum_by_more_le (λ x. x) weights demand 0 lt))))

  pub spread_more : IsSpread mass weights base stock start (demand + 1) before (set after at (get_or after at 0 + share))
  spread_more = record {
    size = length-set after at (get_or after at 0 + share) ∙ is.size;
    places = λ place.
        added_at after at share place at_inside
        ∙ (ap₂ (λ a b. a + b) (is.places place) (ap₂ (λ p s. cond (place == p) s 0) at_is share_is)
        ∙ (add_assoc (get_or before place 0) (spread mass weights base stock start demand place) (cond (place == start + left stock demand) (mass * get_or weights demand 0 / base) 0)
        ∙ ap (λ n. get_or before place 0 + n) (sym (sum_last (λ d. cond (place == start + left stock d) (mass * get_or weights d 0 / base) 0) demand))));
    total = subst (λ n. base * n ≤ base * sum before + mass * sum (take (demand + 1) weights)) (sym (sum_added after at share at_inside)) more_total;
  }

  pub spread_fits : sum before + mass ≤ 1000000 → get_or after at 0 + share ≤ 1000000
  spread_fits room =
      let now : sum after + share ≤ sum before + mass = within_mass base mass (sum after + share) (sum before) (sum (take (demand + 1) weights)) some more_total (subst (λ n. sum (take (demand + 1) weights) ≤ n) whole (sum_by-take-le (λ x. x) weights (demand + 1))) in
      let one : get_or after at 0 ≤ sum after = get_or-le-sum_by (λ x. x) after at 0 at_inside in
      omega (arith, now, one, room)

-- a demand of no weight takes nothing
nothing_shared : (b : Bool) (mass weight base : ℕ) → weight ≡ 0 → cond b (mass * weight / base) 0 ≡ 0
nothing_shared true mass weight base none = ap (λ n. mass * n / base) none ∙ omega arith
nothing_shared false mass weight base none = refl

pub spread_none : (mass : ℕ) (weights : List ℕ) (base stock start demand : ℕ) (before after : List ℕ) → IsSpread mass weights base stock start demand before after → demand < length weights → get_or weights demand 0 ≡ 0 → IsSpread mass weights base stock start (demand + 1) before after
spread_none mass weights base stock start demand before after is lt none = record {
  size = is.size;
  places = λ place.
      let here = nothing_shared (place == start + left stock demand) mass (get_or weights demand 0) base none in
      let more = sum_last (λ d. cond (place == start + left stock d) (mass * get_or weights d 0 / base) 0) demand in
      is.places place ∙ ap (λ n. get_or before place 0 + n) (omega (arith, here, more));
  total = let more = sum_by_more (λ x. x) weights demand 0 lt in subst (λ n. base * sum after ≤ base * sum before + mass * n) (omega (arith, more, none)) is.total;
}
