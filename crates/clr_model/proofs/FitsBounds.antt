-- How large the numbers are that decide whether all stores together are tabled.
use Rattle.std.proofs.Common.{◌≡◌, ℕ, ◌+◌, ◌*◌, ◌^◌, ◌<◌, ◌≤◌, sym, ap, ◌∙◌, arith, List, drop, get_or, length, le_trans, mul-le-mul, mul_assoc}
use Rattle.std.proofs.Math.Nat.{pow-le-pow_left, pow-le-pow_right}
use Rattle.std.proofs.lemmas.Grind.{pow_more}
use Rattle.std.proofs.lemmas.List.{drop_more}
use Rattle.clr_stock.specs.Stock.{Store, no_store}
use Rattle.clr_model.specs.Fits.{stock_lists}

-- a power of a number within a limit, with at most so many factors
pub power_most : (x most n many : ℕ) → x ≤ most → 1 ≤ most → n ≤ many → x ^ n ≤ most ^ many
power_most x most n many p q r = le_trans (pow-le-pow_left p n) (pow-le-pow_right q r)

pub cells_most : (weeks rungs counts spacing : ℕ) → weeks ≤ 53 → rungs ≤ 12 → counts ≤ 13 → spacing ≤ 12 → weeks * rungs * counts * spacing ≤ 99216
cells_most weeks rungs counts spacing p q r s = mul-le-mul (mul-le-mul (mul-le-mul p q) r) s

pub base_most : (base stores : ℕ) → base ≤ 1000000 → stores ≤ 4 → base ^ stores ≤ 1000000000000000000000000
base_most base stores p q = power_most base 1000000 stores 4 p (omega arith) q

pub demands_most : (demands stores : ℕ) → demands ≤ 201 → stores ≤ 4 → demands ^ stores ≤ 1632240801
demands_most demands stores p q = power_most demands 201 stores 4 p (omega arith) q

pub branches_most : (rungs lists : ℕ) → rungs ≤ 12 → lists ≤ 1632240801 → rungs * lists ≤ 19586889612
branches_most rungs lists p q = mul-le-mul p q

-- ---- the lists of stocks, store by store

pub lists_more : (lists stocks n : ℕ) → lists ≤ 2001 ^ n → stocks ≤ 2001 → lists * stocks ≤ 2001 ^ (n + 1)
lists_more lists stocks n p q = rw (pow_more 2001 n) (mul-le-mul p q)

pub lists_most : (lists n : ℕ) → lists ≤ 2001 ^ n → n ≤ 4 → lists ≤ 16032024008001
lists_most lists n p q = le_trans p (power_most 2001 2001 n 4 (omega arith) (omega arith) q)

-- one store further
pub lists_on : (lists n : ℕ) (stores : List Store) → n < length stores → lists * stock_lists (drop n stores) ≡ lists * ((get_or stores n no_store).units + 1) * stock_lists (drop (n + 1) stores)
lists_on lists n stores h =
    ap (λ rest. lists * stock_lists rest) (drop_more stores n no_store h) ∙ sym (mul_assoc lists ((get_or stores n no_store).units + 1) (stock_lists (drop (n + 1) stores)))
