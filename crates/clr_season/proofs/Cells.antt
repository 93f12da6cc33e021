-- How large the numbers of cells are.
use Rattle.std.proofs.Common.{ℕ, ◌*◌, ◌≤◌, mul-le-mul}

pub stock_bound : (weeks rungs counts spacing : ℕ) → weeks ≤ 53 → rungs ≤ 12 → counts ≤ 13 → spacing ≤ 12 → weeks * rungs * counts * spacing ≤ 99216
stock_bound weeks rungs counts spacing p q r s = mul-le-mul (mul-le-mul (mul-le-mul p q) r) s

pub store_bound : (cells units : ℕ) → cells ≤ 99216 → units ≤ 2001 → cells * units ≤ 198531216
store_bound cells units p q = mul-le-mul p q
