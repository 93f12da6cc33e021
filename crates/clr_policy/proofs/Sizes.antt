-- Numbers that are held.
use Rattle.std.proofs.Common.{◌≡◌, ℕ, zero, suc, ◌+◌, ◌*◌, ◌≤◌, ◌<◌, min, refl, sym, ap, ◌∙◌, arith, List, [], ◌∷◌, length, drop, get_or, Bool, true, false, mul-le-mul, mul_assoc, mul_comm, nat_le}
use Rattle.std.proofs.lemmas.List.{drop_more}
use Rattle.clr_stock.specs.Stock.{Store, no_store}
use Rattle.clr_policy.specs.Judged.{stock_demands}

pub some_lists : (top : ℕ) (stores : List Store) → 1 ≤ stock_demands top stores
some_lists top [] = omega arith
some_lists top (store ∷ stores) =
    let low : 1 ≤ store.units + 1 = omega arith in
    let also : 1 ≤ min top store.units + 1 = omega arith in
    let here : 1 * 1 ≤ (store.units + 1) * (min top store.units + 1) = mul-le-mul low also in
    let all : (1 * 1) * 1 ≤ (store.units + 1) * (min top store.units + 1) * stock_demands top stores = mul-le-mul here (some_lists top stores) in
    omega (arith, all)

-- holding a factor changes no held product
pub held_factor : (a rest most : ℕ) → 1 ≤ rest → min (min a most * rest) most ≡ min (a * rest) most
held_factor a rest most some = by_size (nat_le a most) refl
  where
    by_size : (b : Bool) → nat_le a most ≡ b → min (min a most * rest) most ≡ min (a * rest) most
    by_size true is = let small : min a most ≡ a = grind (arith, is) in rw small refl
    by_size false is =
        let large : most ≤ a = grind (arith, is) in
        let held : min a most ≡ most = omega (arith, large) in
        let one : most * 1 ≤ most * rest = mul-le-mul (omega arith) some in
        let more : most * rest ≤ a * rest = mul-le-mul large (omega arith) in
        rw held (omega (arith, one, more))

pub one_store_on : (size f most top n : ℕ) (stores : List Store) → n < length stores → f ≡ ((get_or stores n no_store).units + 1) * (min (get_or stores n no_store).units top + 1) →
    min (min (size * f) most * stock_demands top (drop (n + 1) stores)) most ≡ min (size * stock_demands top (drop n stores)) most
one_store_on size f most top n stores h is =
    let units : ℕ = (get_or stores n no_store).units in
    let rest : ℕ = stock_demands top (drop (n + 1) stores) in
    let turned : f ≡ (units + 1) * (min top units + 1) = is ∙ ap (λ k. (units + 1) * (k + 1)) (turn units top) in
    held_factor (size * f) rest most (some_lists top (drop (n + 1) stores))
    ∙ ap (λ k. min k most) (mul_assoc size f rest ∙ ap (λ k. size * k) (ap (λ k. k * rest) turned ∙ ap (stock_demands top) (sym (drop_more stores n no_store h))))
  where
    turn : (a b : ℕ) → min a b ≡ min b a
    turn a b = omega arith

-- objects and lists, both held
pub held_both : (objects lists most : ℕ) → 1 ≤ lists → 1 ≤ most → min (min objects most * min lists most) most ≡ min (objects * lists) most
held_both objects lists most some large =
    let least : 1 ≤ min lists most = omega (arith, some, large) in
    held_factor objects (min lists most) most least
    ∙ (ap (λ k. min k most) (mul_comm objects (min lists most)) ∙ by_objects objects)
  where
    by_objects : (n : ℕ) → min (min lists most * n) most ≡ min (n * lists) most
    by_objects zero = omega arith
    by_objects (suc n) = held_factor lists (suc n) most (omega arith) ∙ ap (λ k. min k most) (mul_comm lists (suc n))
