-- The weights that a flat table holds are those that its rows list.
use Rattle.std.proofs.Common.{◌≡◌, ◌≤◌, ◌<◌, ◌+◌, ◌*◌, ◌/◌, ◌%◌, ◌∙◌, ℕ, zero, suc, List, [], ◌∷◌, length, map, refl, ap, ap₂, arith, Bool, true, false}
use Rattle.std.specs.Prelude.{sum, ◌==◌, ◌&&◌, nat_lt, Result, Ok, Err, MatchResult}
use Rattle.clr_text.specs.Judged.{◌>>=◌}
use Rattle.clr_text.specs.Tables.{Gives, Refusal}
use Rattle.clr_text.specs.declared.file.FileError.{FileError}
use Rattle.clr_text.specs.declared.file.FileError.TheVariants.{Refused, Memory}
use Rattle.std.proofs.Math.Nat.{mod_self}
use Rattle.std.proofs.lemmas.Bool.{eqb-true}
use Rattle.std.proofs.lemmas.Simd.{map-map}
use Rattle.clr_num.specs.Lists.{nth, numbers}
use Rattle.clr_demand.proofs.BalanceLemmas.{AllBalance, IsPlace, rows-balance}
use Rattle.clr_demand.proofs.RowLemmas.{such-given}
use Rattle.clr_demand.proofs.ScaleLemmas.{sum-scaled}
use Rattle.clr_demand.proofs.RowTotals.{fits, is-in, length-flat, listed-total, old-row, row-total}
use Rattle.clr_demand.proofs.WeightLemmas.{length-map-numbers, nested-row, nth-map-numbers}
use Rattle.clr_demand.specs.Demand.{GivesSuch, Listed, Sizes, balances, demand_of, key, listed_weight, rows_of, top_of, total, weight_of, weights_of}
use Rattle.clr_demand.specs.FlatWeights.{IsBalanced, weights_in}
use Rattle.clr_demand.specs.Places.{AreCells, HoldsRows, IsIn}
use Rattle.clr_demand.specs.Weights.{AreWeights, DemandWeights, flat_row, row_number, scaled_row}
use Rattle.clr_demand.specs.declared.cells.Cells.{Cells}
use Rattle.clr_demand.specs.declared.shape.Shape.{Shape}

map-same : {X : Type 0} (f g : ℕ → X) (from count : ℕ) → ((i : ℕ) → from ≤ i → i < from + count → f i ≡ g i) → map f (numbers from count) ≡ map g (numbers from count)
map-same f g from zero same = refl
map-same f g from (suc count) same = ap₂ ◌∷◌ (same from (omega arith) (omega arith)) (map-same f g (suc from) count (λ i low high. same i (omega arith) (omega arith)))

both-second : (a b : Bool) → (a && b) ≡ true → b ≡ true
both-second true b e = e
both-second false b e = cc e

-- a sum that balances divides the base
even : (scaled : Bool) (base found : ℕ) → balances scaled base found ≡ true → base % found ≡ 0
even false base found e = let same : found ≡ base = eqb-true found base e in rw same (mod_self base)
even true base found e = eqb-true (base % found) 0 (both-second (nat_lt 0 found) (base % found == 0) e)

module _ (shape : Shape) (sizes : Sizes) (scaled : Bool) (listed : List Listed) (rows old new : List ℕ)
    (cells : AreCells shape rows old listed) (top_is : shape.top ≡ top_of listed) (weeks_are : shape.weeks ≡ sizes.weeks) (rungs_are : shape.rungs ≡ sizes.rungs)
    (balance : AllBalance shape.stores sizes scaled listed) (len : length new ≡ length old)
    (brought : (row : ℕ) → (row + 1) * (shape.top + 1) ≤ length old → flat_row (shape.top + 1) new row ≡ scaled_row sizes.base (flat_row (shape.top + 1) old row)) where
  new-row : (store week rung : ℕ) → IsIn shape (key store week rung 0) →
      flat_row (shape.top + 1) new (row_number shape.weeks shape.rungs store week rung) ≡ map (λ u. weight_of sizes.base listed store week rung u) (numbers 0 (suc shape.top))
  new-row store week rung i =
      let f : ℕ → ℕ = λ u. listed_weight listed (key store week rung u) in
      let ns = numbers 0 (shape.top + 1) in
      let wide : shape.top + 1 ≡ suc shape.top = omega arith in
      brought (row_number shape.weeks shape.rungs store week rung) (fits shape listed rows old cells store week rung i)
      ∙ (ap (scaled_row sizes.base) (old-row shape listed rows old cells store week rung i)
      ∙ (map-map (λ (w : ℕ). w * (sizes.base / sum (map f ns))) f ns
      ∙ (ap (λ t. map (λ u. f u * (sizes.base / t)) ns) (listed-total shape listed rows old cells store week rung)
      ∙ ap (λ t. map (λ u. weight_of sizes.base listed store week rung u) (numbers 0 t)) wide)))

  new-sum : (store week rung : ℕ) → IsIn shape (key store week rung 0) → sum (flat_row (shape.top + 1) new (row_number shape.weeks shape.rungs store week rung)) ≡ sizes.base
  new-sum store week rung i =
      let row = flat_row (shape.top + 1) old (row_number shape.weeks shape.rungs store week rung) in
      let found : sum row ≡ total listed store week rung = row-total shape listed rows old cells store week rung i in
      let within : IsPlace shape.stores sizes.weeks sizes.rungs (record { store = store; week = week; rung = rung }) = record {
        store_low = i.store_low;
        store_high = i.store_high;
        week_low = i.week_low;
        week_high = omega (arith, i.week_high, weeks_are);
        rung_low = i.rung_low;
        rung_high = omega (arith, i.rung_high, rungs_are);
      } in
      let balances_here = balance (record { store = store; week = week; rung = rung }) within in
      let divides : sizes.base % sum row ≡ 0 = rw found (even scaled sizes.base (total listed store week rung) balances_here) in
      ap sum (brought (row_number shape.weeks shape.rungs store week rung) (fits shape listed rows old cells store week rung i)) ∙ sum-scaled sizes.base row divides

  -- the table holds the weights of the rows
  pub weights-same : weights_in shape sizes.base new ≡ weights_of shape.stores sizes listed
  weights-same =
      let same = map-same
      (λ store. map (λ week. map (λ rung. flat_row (shape.top + 1) new (row_number shape.weeks shape.rungs store week rung)) (numbers 1 shape.rungs)) (numbers 1 shape.weeks))
      (λ store. map (λ week. map (λ rung. map (λ units. weight_of sizes.base listed store week rung units) (numbers 0 (suc shape.top))) (numbers 1 shape.rungs)) (numbers 1 shape.weeks))
      1 shape.stores (λ store s1 s2. map-same
      (λ week. map (λ rung. flat_row (shape.top + 1) new (row_number shape.weeks shape.rungs store week rung)) (numbers 1 shape.rungs))
      (λ week. map (λ rung. map (λ units. weight_of sizes.base listed store week rung units) (numbers 0 (suc shape.top))) (numbers 1 shape.rungs))
      1 shape.weeks (λ week w1 w2. map-same
      (λ rung. flat_row (shape.top + 1) new (row_number shape.weeks shape.rungs store week rung))
      (λ rung. map (λ units. weight_of sizes.base listed store week rung units) (numbers 0 (suc shape.top)))
      1 shape.rungs (λ rung r1 r2. new-row store week rung (is-in shape store week rung s1 (omega arith) w1 (omega arith) r1 (omega arith))))) in
      rw (← weeks_are, ← rungs_are, ← top_is) (ap (λ (w : List (List (List (List ℕ)))). record { stores = shape.stores; weeks = shape.weeks; rungs = shape.rungs; base = sizes.base; top = shape.top; weights = w }) same)

  -- and they are a season's
  pub flat-facts : shape.top ≤ 200 → AreWeights shape.stores shape.weeks shape.rungs sizes.base (weights_in shape sizes.base new)
  flat-facts high = record {
    stores_are = refl;
    weeks_are = refl;
    rungs_are = refl;
    base_are = refl;
    top_high = high;
    store_count = length-map-numbers
        (λ store. map (λ week. map (λ rung. flat_row (shape.top + 1) new (row_number shape.weeks shape.rungs store week rung)) (numbers 1 shape.rungs)) (numbers 1 shape.weeks)) 1 shape.stores;
    week_count = λ store s1 s2. ap length (nth-map-numbers
        (λ s. map (λ week. map (λ rung. flat_row (shape.top + 1) new (row_number shape.weeks shape.rungs s week rung)) (numbers 1 shape.rungs)) (numbers 1 shape.weeks)) shape.stores store [] s1 s2)
        ∙ length-map-numbers (λ week. map (λ rung. flat_row (shape.top + 1) new (row_number shape.weeks shape.rungs store week rung)) (numbers 1 shape.rungs)) 1 shape.weeks;
    rung_count = λ store week s1 s2 w1 w2.
        ap (λ (x : List (List (List ℕ))). length (nth x week [])) (nth-map-numbers
        (λ s. map (λ w. map (λ rung. flat_row (shape.top + 1) new (row_number shape.weeks shape.rungs s w rung)) (numbers 1 shape.rungs)) (numbers 1 shape.weeks)) shape.stores store [] s1 s2)
        ∙ (ap length (nth-map-numbers (λ w. map (λ rung. flat_row (shape.top + 1) new (row_number shape.weeks shape.rungs store w rung)) (numbers 1 shape.rungs)) shape.weeks week [] w1 w2)
        ∙ length-map-numbers (λ rung. flat_row (shape.top + 1) new (row_number shape.weeks shape.rungs store week rung)) 1 shape.rungs);
    unit_count = λ store week rung s1 s2 w1 w2 r1 r2.
        let i = is-in shape store week rung s1 s2 w1 w2 r1 r2 in
        let wide : shape.top + 1 ≡ suc shape.top = omega arith in
        ap length (nested-row shape.stores shape.weeks shape.rungs (shape.top + 1) new store week rung s1 s2 w1 w2 r1 r2)
        ∙ (length-flat shape new (row_number shape.weeks shape.rungs store week rung) (omega (arith, fits shape listed rows old cells store week rung i, len)) ∙ wide);
    sums = λ store week rung s1 s2 w1 w2 r1 r2.
        ap sum (nested-row shape.stores shape.weeks shape.rungs (shape.top + 1) new store week rung s1 s2 w1 w2 r1 r2) ∙ new-sum store week rung (is-in shape store week rung s1 s2 w1 w2 r1 r2);
  }

  pub flat-balanced : shape.stores ≤ 64 → shape.weeks ≤ 52 → shape.rungs ≤ 12 → shape.top ≤ 200 → sizes.base ≤ 1000000 → IsBalanced shape sizes.base new
  flat-balanced s w r t b = record {
    stores_high = s;
    weeks_high = w;
    rungs_high = r;
    base_high = b;
    size_is = len ∙ cells.weights_size;
    facts = flat-facts t;
  }

-- what a table is once it is read
pub record IsRead (names : List (List ℕ)) (sizes : Sizes) (scaled : Bool) (bytes : List ℕ) (shape : Shape) (new : List ℕ) : Type 0 where
  pub balanced : IsBalanced shape sizes.base new
  pub gives : demand_of names sizes scaled bytes ≡ Ok (weights_in shape sizes.base new)
  pub facts : AreWeights (length names) sizes.weeks sizes.rungs sizes.base (weights_in shape sizes.base new)

facts-at : (s s' w w' r r' base : ℕ) (demand : DemandWeights) → s ≡ s' → w ≡ w' → r ≡ r' → AreWeights s w r base demand → AreWeights s' w' r' base demand
facts-at s s' w w' r r' base demand s_is w_is r_is facts = rw (← s_is, ← w_is, ← r_is) facts

read-rows : (names : List (List ℕ)) (sizes : Sizes) (scaled : Bool) (bytes : List ℕ) (shape : Shape) (rows old new : List ℕ) (listed : List Listed) →
    length names ≤ 64 → sizes.weeks ≤ 52 → sizes.rungs ≤ 12 → sizes.base ≤ 1000000 →
    rows_of names sizes scaled bytes ≡ Ok listed → AreCells shape rows old listed → shape.top ≡ top_of listed →
    shape.stores ≡ length names → shape.weeks ≡ sizes.weeks → shape.rungs ≡ sizes.rungs → shape.top ≤ 200 →
    length new ≡ length old →
    ((row : ℕ) → (row + 1) * (shape.top + 1) ≤ length old → flat_row (shape.top + 1) new row ≡ scaled_row sizes.base (flat_row (shape.top + 1) old row)) →
    IsRead names sizes scaled bytes shape new
unfolding demand_of
read-rows names sizes scaled bytes shape rows old new listed n w r b given cells top_is s_is w_is r_is top len brought =
    let balance : AllBalance shape.stores sizes scaled listed = rw s_is (rows-balance names sizes scaled bytes listed given) in
    let same : weights_in shape sizes.base new ≡ weights_of shape.stores sizes listed =
    weights-same shape sizes scaled listed rows old new cells top_is w_is r_is balance len brought in
    let balanced : IsBalanced shape sizes.base new =
    flat-balanced shape sizes scaled listed rows old new cells top_is w_is r_is balance len brought (omega (arith, s_is, n)) (omega (arith, w_is, w)) (omega (arith, r_is, r)) top b in
    let stores_same : weights_of shape.stores sizes listed ≡ weights_of (length names) sizes listed = ap (λ n. weights_of n sizes listed) s_is in
    let gives : demand_of names sizes scaled bytes ≡ Ok (weights_in shape sizes.base new) = rw (given, same, stores_same) refl in
    record {
      balanced = balanced;
      gives = gives;
      facts = facts-at shape.stores (length names) shape.weeks sizes.weeks shape.rungs sizes.rungs sizes.base (weights_in shape sizes.base new) s_is w_is r_is balanced.facts;
    }

pub is-read : (names : List (List ℕ)) (sizes : Sizes) (scaled : Bool) (bytes : List ℕ) (cells : Cells) (new : List ℕ) →
    length names ≤ 64 → sizes.weeks ≤ 52 → sizes.rungs ≤ 12 → sizes.base ≤ 1000000 →
    MatchResult (rows_of names sizes scaled bytes) (HoldsRows cells) (λ _. ⊥) →
    cells.shape.stores ≡ length names → cells.shape.weeks ≡ sizes.weeks → cells.shape.rungs ≡ sizes.rungs → cells.shape.top ≤ 200 →
    length new ≡ length cells.weights.items →
    ((row : ℕ) → (row + 1) * (cells.shape.top + 1) ≤ length cells.weights.items → flat_row (cells.shape.top + 1) new row ≡ scaled_row sizes.base (flat_row (cells.shape.top + 1) cells.weights.items row)) →
    IsRead names sizes scaled bytes cells.shape new
is-read names sizes scaled bytes cells new n w r b given s_is w_is r_is top len brought =
    let listed = such-given (HoldsRows cells) (rows_of names sizes scaled bytes) given in
    read-rows names sizes scaled bytes cells.shape cells.rows.items cells.weights.items new listed.0 n w r b listed.1 listed.2.0 listed.2.1 s_is w_is r_is top len brought

-- a refusal of the rows is one of the demand
pub refused-early : (f : List Listed → Result DemandWeights Refusal) (e : FileError) (given : Result (List Listed) Refusal) →
    GivesSuch {X = Unit {0}} (λ _ _. Unit {0}) (Err e) given → Gives {X = DemandWeights} (λ d. d) (Err e) (given >>= f)
refused-early f (Refused r c w) given bad = rw bad refl
refused-early f Memory given bad = tt
