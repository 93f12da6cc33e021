-- What it says of a season that it is small enough.
use Rattle.std.proofs.Common.{◌≡◌, ℕ, suc, ◌+◌, ◌-◌, ◌*◌, ◌^◌, ◌≤◌, min, true, IsTrue, nat_le, List, [], ◌∷◌, length, map, arith, refl, ap, ap₂, ◌∙◌, le_trans, mul-le-mul, mul-le-mul_right, mul_assoc, mul_comm, mul-add}
use Rattle.std.proofs.Math.Nat.{pow-le-pow_right, pow-suc, pow-zero}
use Rattle.std.proofs.lemmas.Bool.{and_parts, leb-true}
use Rattle.clr_stock.specs.Stock.{Store}
use Rattle.clr_season.specs.Season.{Season, IsSeason, stock_cells}
use Rattle.clr_model.specs.Fits.{fits, joint_branches, joint_size, most_joint_base, most_joint_size, most_joint_stores, most_joint_work, stock_lists}
use Rattle.clr_model.specs.JointWeek.{joint_base}
use Rattle.clr_model.specs.Revenue.{full_stocks}
use Rattle.clr_joint.specs.Folds.{fold_reach}
use Rattle.clr_model.specs.Stocks.{lists_of}

-- ---- the number of lists of stocks

pub lists_some : (units : List ℕ) → 1 ≤ lists_of units
lists_some [] = omega arith
lists_some (unit ∷ units) = let more : 1 * lists_of units ≤ suc unit * lists_of units = mul-le-mul_right (lists_of units) (omega arith) in let rest : 1 ≤ lists_of units = lists_some units in omega arith

pub lists_same : (stores : List Store) → lists_of (map (λ store. store.units) stores) ≡ stock_lists stores
lists_same [] = refl
lists_same (store ∷ stores) = let more : suc store.units ≡ store.units + 1 = omega arith in ap₂ ◌*◌ more (lists_same stores)

module _ (season : Season) (is : IsSeason season) (small : IsTrue (fits season)) where
  abbrev size_parts : (nat_le (joint_size season) most_joint_size ≡ true) × (nat_le (joint_size season * joint_branches season) most_joint_work ≡ true)
  size_parts =
      let first = and_parts (nat_le (length season.stores) most_joint_stores) _ small in
      let second = and_parts (nat_le (joint_base season) most_joint_base) _ first.1 in
      and_parts (nat_le (joint_size season) most_joint_size) _ second.1

  pub few_stores : length season.stores ≤ 4
  few_stores = let first = and_parts (nat_le (length season.stores) most_joint_stores) _ small in leb-true (length season.stores) most_joint_stores first.0

  pub base_most : season.base ^ length season.stores ≤ 1000000000000000000
  base_most =
      let first = and_parts (nat_le (length season.stores) most_joint_stores) _ small in
      let second = and_parts (nat_le (joint_base season) most_joint_base) _ first.1 in
      leb-true (joint_base season) most_joint_base second.0

  cells_some : 1 ≤ stock_cells season.rules
  cells_some = mul-le-mul (mul-le-mul (mul-le-mul (more season.rules.weeks) is.rules.ladder.some) (more (min season.rules.markdowns (min (length season.rules.prices - 1) season.rules.weeks)))) is.rules.near
    where
      more : (n : ℕ) → 1 ≤ n + 1
      more n = omega arith

  pub lists_most : lists_of (full_stocks season) ≤ 1000000
  lists_most =
      let size : joint_size season ≤ most_joint_size = leb-true (joint_size season) most_joint_size size_parts.0 in
      let once : 1 * stock_lists season.stores ≤ stock_cells season.rules * stock_lists season.stores = mul-le-mul_right (stock_lists season.stores) cells_some in
      let same : lists_of (full_stocks season) ≡ stock_lists season.stores = lists_same season.stores in
      omega (arith, size, once, same)

  pub power_most : (count : ℕ) → count ≤ length season.stores → season.base ^ count ≤ 1000000000000000000
  power_most count le = le_trans (pow-le-pow_right is.least_base le) base_most

  pub base_some : 1 ≤ season.base ^ length season.stores
  base_some = let power : season.base ^ 0 ≡ 1 = pow-zero season.base in let none : 1 ≤ season.base ^ 0 = omega (arith, power) in let few : 0 ≤ length season.stores = omega arith in le_trans none (pow-le-pow_right is.least_base few)

  -- no item that is folded is larger than 128 bits hold
  pub reach_most : (count : ℕ) → count ≤ length season.stores → fold_reach season.base count ≤ 1080000000000000000000000000000000000
  reach_most count le = let few : count ≤ 4 = omega (arith, le, few_stores) in mul-le-mul (power_most count le) (inner count few)
    where
      inner : (count : ℕ) → count ≤ 4 → 1000000000000000000 + count * 20000000000000000 ≤ 1080000000000000000
      inner count few = omega arith

-- one store more
pub reach_more : (base count : ℕ) → fold_reach base (suc count) ≡ base * (fold_reach base count + base ^ count * 20000000000000000)
reach_more base count =
    let power : base ^ suc count ≡ base * base ^ count = pow-suc base count ∙ mul_comm (base ^ count) base in
    let inside : 1000000000000000000 + suc count * 20000000000000000 ≡ (1000000000000000000 + count * 20000000000000000) + 20000000000000000 = omega arith in
    ap₂ ◌*◌ power inside ∙ (mul_assoc base (base ^ count) ((1000000000000000000 + count * 20000000000000000) + 20000000000000000) ∙ ap (λ n. base * n) (mul-add (base ^ count) (1000000000000000000 + count * 20000000000000000) 20000000000000000))
