-- Places in the tables.
use Rattle.std.proofs.Common.{◌≡◌, ◌≢◌, ℕ, ◌+◌, ◌-◌, ◌*◌, ◌/◌, ◌%◌, ◌<◌, ◌≤◌, arith, zero, suc, refl, sym, ap, ap₂, ◌∙◌, subst, List, length, map, get_or, replicate, get_or-set_other, mod-lt, add-mul, mul_assoc}
use Rattle.std.proofs.Math.ListN.{set}
use Rattle.std.proofs.Math.Nat.{div-mul-le_self, lt_of_mul-lt-mul_right}
use Rattle.std.proofs.lemmas.List.{ext_get_or, length-replicate}
use Rattle.std.proofs.lemmas.Nat.{div-mul-add, div-add-mod', mul-le}
use Rattle.std.specs.List.{flat_map}
use Rattle.clr_num.specs.Lists.{numbers}
use Rattle.clr_mult.specs.Tables.{AreSizes, Within, listed, place, row_of}
use Rattle.clr_mult.proofs.Lists.{get_or-numbers, get_or-pieces, length-numbers, length-pieces}

pub one_less : (i : ℕ) → suc i - 1 ≡ i
one_less i = omega arith

-- an item of a row of rows
pub in_rows : (rows size row item : ℕ) → row < rows → item < size → row * size + item < rows * size
in_rows rows size row item p q =
    let more : (row + 1) * size ≤ rows * size = mul-le (row + 1) size rows size (omega arith) (omega arith) in
    let e : (row + 1) * size ≡ row * size + size = omega arith in
    omega arith

-- an item's place in rows of rows tells its row and which item it is
same_row : (size row other item rest : ℕ) → item < size → rest < size → row * size + item ≡ other * size + rest → (row ≡ other) × (item ≡ rest)
same_row size row other item rest p q e =
    let rows : row ≡ other = sym (div-mul-add row size item p) ∙ (ap (λ k. k / size) e ∙ div-mul-add other size rest q) in
    (rows, omega (arith, e, ap (λ k. k * size) rows))

one_of : (n m : ℕ) → 1 ≤ n → 1 ≤ m → n - 1 ≡ m - 1 → n ≡ m
one_of n m p q e = omega arith

below : (n top : ℕ) → 1 ≤ n → n ≤ top → n - 1 < top
below n top p q = omega arith

pub row_inside : (stores weeks rungs store week rung : ℕ) → Within stores weeks rungs store week rung → row_of rungs week rung < weeks * rungs
row_inside stores weeks rungs store week rung w = in_rows weeks rungs (week - 1) (rung - 1) (below week weeks w.week_from w.week_to) (below rung rungs w.rung_from w.rung_to)

pub store_inside : (stores weeks rungs store week rung : ℕ) → Within stores weeks rungs store week rung → store - 1 < stores
store_inside stores weeks rungs store week rung w = below store stores w.store_from w.store_to

pub place_inside : (stores weeks rungs store week rung : ℕ) → Within stores weeks rungs store week rung → place stores rungs store week rung < weeks * rungs * stores
place_inside stores weeks rungs store week rung w = in_rows (weeks * rungs) stores (row_of rungs week rung) (store - 1) (row_inside stores weeks rungs store week rung w) (store_inside stores weeks rungs store week rung w)

-- no two entries share a place
pub same_place : (stores weeks rungs store week rung s w r : ℕ) → Within stores weeks rungs store week rung → Within stores weeks rungs s w r → place stores rungs store week rung ≡ place stores rungs s w r → (store ≡ s) × (week ≡ w) × (rung ≡ r)
same_place stores weeks rungs store week rung s w r one other e =
    let first = same_row stores (row_of rungs week rung) (row_of rungs w r) (store - 1) (s - 1) (store_inside stores weeks rungs store week rung one) (store_inside stores weeks rungs s w r other) e in
    let second = same_row rungs (week - 1) (w - 1) (rung - 1) (r - 1) (below rung rungs one.rung_from one.rung_to) (below r rungs other.rung_from other.rung_to) first.0 in
    (one_of store s one.store_from other.store_from first.1, one_of week w one.week_from other.week_from second.0, one_of rung r one.rung_from other.rung_from second.1)

-- a write at one entry leaves the others
pub write_there : (stores weeks rungs store week rung s w r x : ℕ) (entries : List ℕ) → Within stores weeks rungs store week rung → Within stores weeks rungs s w r → (store ≡ s → week ≡ w → rung ≡ r → ⊥) →
    get_or (set entries (place stores rungs store week rung) x) (place stores rungs s w r) 0 ≡ get_or entries (place stores rungs s w r) 0
write_there stores weeks rungs store week rung s w r x entries one other differ =
    let ne : place stores rungs s w r ≢ place stores rungs store week rung = λ e. (let same = same_place stores weeks rungs store week rung s w r one other (sym e) in differ same.0 same.1 same.2) in
    rw get_or-set_other

-- the store, week and rung of a place
pub record Found (stores weeks rungs k : ℕ) : Type 0 where
  pub store : ℕ
  pub week : ℕ
  pub rung : ℕ
  pub within : Within stores weeks rungs store week rung
  pub is : place stores rungs store week rung ≡ k

pub found : (stores weeks rungs k : ℕ) → 1 ≤ stores → 1 ≤ rungs → k < weeks * rungs * stores → Found stores weeks rungs k
found stores weeks rungs k some ladder p = record {
  store = suc (k % stores);
  week = suc (k / stores / rungs);
  rung = suc (k / stores % rungs);
  within = record {
    store_from = omega arith;
    store_to = omega (arith, mod-lt k some);
    week_from = omega arith;
    week_to = omega (arith, quotient_below (k / stores) rungs weeks (quotient_below k stores (weeks * rungs) p));
    rung_from = omega arith;
    rung_to = omega (arith, mod-lt (k / stores) ladder);
  };
  is = ap₂ (λ n i. n * stores + i) (ap₂ (λ a b. a * rungs + b) (one_less (k / stores / rungs)) (one_less (k / stores % rungs)) ∙ div-add-mod' (k / stores) rungs) (one_less (k % stores)) ∙ div-add-mod' k stores;
}
  where
    quotient_below : (n size count : ℕ) → n < count * size → n / size < count
    quotient_below n size count p = lt_of_mul-lt-mul_right size (omega (arith, div-mul-le_self n size))

-- what stands at the place of an entry in the list of a function
length-listed : {X : Type 0} (stores weeks rungs : ℕ) (f : ℕ → ℕ → ℕ → X) → length (listed stores weeks rungs f) ≡ weeks * rungs * stores
length-listed stores weeks rungs f =
    length-pieces (λ week. flat_map (λ rung. map (λ store. f store week rung) (numbers 1 stores)) (numbers 1 rungs)) 1 weeks (rungs * stores)
    (λ week. length-pieces (λ rung. map (λ store. f store week rung) (numbers 1 stores)) 1 rungs stores (λ rung. length-numbers (λ store. f store week rung) 1 stores))
    ∙ sym (mul_assoc weeks rungs stores)

get_or-listed : {X : Type 0} (stores weeks rungs store week rung : ℕ) (f : ℕ → ℕ → ℕ → X) (d : X) → Within stores weeks rungs store week rung → get_or (listed stores weeks rungs f) (place stores rungs store week rung) d ≡ f store week rung
get_or-listed stores weeks rungs store week rung f d w =
    let in_week : (rung - 1) * stores + (store - 1) < rungs * stores = in_rows rungs stores (rung - 1) (store - 1) (below rung rungs w.rung_from w.rung_to) (below store stores w.store_from w.store_to) in
    let at : place stores rungs store week rung ≡ (week - 1) * (rungs * stores) + ((rung - 1) * stores + (store - 1)) = regrouped (week - 1) rungs (rung - 1) stores (store - 1) in
    let store_is : 1 + (store - 1) ≡ store = omega (arith, w.store_from) in
    let week_is : 1 + (week - 1) ≡ week = omega (arith, w.week_from) in
    let rung_is : 1 + (rung - 1) ≡ rung = omega (arith, w.rung_from) in
    ap (λ k. get_or (listed stores weeks rungs f) k d) at
    ∙ (get_or-pieces (λ week. flat_map (λ rung. map (λ store. f store week rung) (numbers 1 stores)) (numbers 1 rungs)) 1 weeks (rungs * stores) (week - 1) ((rung - 1) * stores + (store - 1)) d
    (λ week. length-pieces (λ rung. map (λ store. f store week rung) (numbers 1 stores)) 1 rungs stores (λ rung. length-numbers (λ store. f store week rung) 1 stores)) (below week weeks w.week_from w.week_to) in_week
    ∙ (get_or-pieces (λ rung. map (λ store. f store (1 + (week - 1)) rung) (numbers 1 stores)) 1 rungs stores (rung - 1) (store - 1) d
    (λ rung. length-numbers (λ store. f store (1 + (week - 1)) rung) 1 stores) (below rung rungs w.rung_from w.rung_to) (below store stores w.store_from w.store_to)
    ∙ (get_or-numbers (λ store. f store (1 + (week - 1)) (1 + (rung - 1))) 1 stores (store - 1) d (below store stores w.store_from w.store_to)
    ∙ (ap (λ s. f s (1 + (week - 1)) (1 + (rung - 1))) store_is ∙ ap₂ (f store) week_is rung_is))))
  where
    regrouped : (a rungs b stores c : ℕ) → (a * rungs + b) * stores + c ≡ a * (rungs * stores) + (b * stores + c)
    regrouped a rungs b stores c = omega (arith, add-mul (a * rungs) b stores, mul_assoc a rungs stores)

-- a list whose entries are those of a function
pub listed_is : {X : Type 0} (stores weeks rungs : ℕ) (f : ℕ → ℕ → ℕ → X) (d : X) (entries : List X) → 1 ≤ stores → 1 ≤ rungs → length entries ≡ weeks * rungs * stores →
    ((store week rung : ℕ) → Within stores weeks rungs store week rung → get_or entries (place stores rungs store week rung) d ≡ f store week rung) → entries ≡ listed stores weeks rungs f
listed_is stores weeks rungs f d entries some ladder count each =
    ext_get_or d entries (listed stores weeks rungs f) (count ∙ sym (length-listed stores weeks rungs f)) (λ k p.
    let at = found stores weeks rungs k some ladder (subst (λ n. k < n) count p) in
    ap (λ k. get_or entries k d) (sym at.is) ∙ (each at.store at.week at.rung at.within ∙ (sym (get_or-listed stores weeks rungs at.store at.week at.rung f d at.within) ∙ ap (λ k. get_or (listed stores weeks rungs f) k d) at.is)))

-- a list of one number
pub get_or-repeated : {X : Type 0} (n k : ℕ) (x : X) → get_or (replicate n x) k x ≡ x
get_or-repeated zero k x = refl
get_or-repeated (suc n) zero x = refl
get_or-repeated (suc n) (suc k) x = get_or-repeated n k x

pub repeated_at : {X : Type 0} (entries : List X) (n k : ℕ) (x : X) → entries ≡ replicate n x → get_or entries k x ≡ x
repeated_at entries n k x is = ap (λ xs. get_or xs k x) is ∙ get_or-repeated n k x

pub repeated_is : {X : Type 0} (stores weeks rungs : ℕ) (x : X) (entries : List X) → AreSizes stores weeks rungs → entries ≡ replicate (weeks * rungs * stores) x → entries ≡ listed stores weeks rungs (λ store week rung. x)
repeated_is stores weeks rungs x entries sizes is =
    listed_is stores weeks rungs (λ store week rung. x) x entries sizes.stores_from sizes.rungs_from (ap length is ∙ length-replicate (weeks * rungs * stores) x)
    (λ store week rung w. repeated_at entries (weeks * rungs * stores) (place stores rungs store week rung) x is)
