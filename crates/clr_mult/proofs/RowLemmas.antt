-- Rows of a table, one after another.
use Rattle.std.proofs.Common.{◌≡◌, ◌≢◌, ℕ, suc, ◌+◌, ◌-◌, ◌*◌, ◌<◌, ◌≤◌, ℤ, pos, ◌-ℤ◌, ◌*ℤ◌, List, ◌++◌, length, get_or, take, drop, sum, arith, sym, ap, ap₂, ◌∙◌, below_more, length-drop}
use Rattle.std.proofs.Math.ListN.{get_or-append, set}
use Rattle.std.proofs.lemmas.List.{get_or-append-add, get_or-drop, get_or-set_other, get_or-set_same, get_or-take, length-take-le}
use Rattle.std.proofs.lemmas.Nat.{mul-le}
use Rattle.std.proofs.lemmas.Slice.{drop-put_mid}
use borrow.Rule.Slice.PartMut.{post_of, put_mid}
use Rattle.clr_mult.specs.Rows.{AreRowsMoved, moved, row_at}
use Rattle.clr_mult.specs.Steps.{direction_of}
use Rattle.clr_mult.proofs.Places.{in_rows}

-- ---- a part of a list that was written

put_mid_below : {X : Type 0} (a k i : ℕ) (xs ys : List X) (d : X) → a ≤ length xs → i < a → get_or (put_mid a k xs ys) i d ≡ get_or xs i d
put_mid_below a k i xs ys d inside p =
    let size : length (take a xs) ≡ a = length-take-le a xs inside in
    get_or-append (take a xs) (ys ++ post_of a k xs) d i (omega arith) ∙ get_or-take a xs i d p

put_mid_here : {X : Type 0} (a k i : ℕ) (xs ys : List X) (d : X) → a ≤ length xs → i < length ys → get_or (put_mid a k xs ys) (a + i) d ≡ get_or ys i d
put_mid_here a k i xs ys d inside p =
    let size : length (take a xs) ≡ a = length-take-le a xs inside in
    ap (λ n. get_or (put_mid a k xs ys) (n + i) d) (sym size) ∙ (get_or-append-add (take a xs) (ys ++ post_of a k xs) i d ∙ get_or-append ys (post_of a k xs) d i p)

put_mid_above : {X : Type 0} (a k i : ℕ) (xs ys : List X) (d : X) → a ≤ length xs → length ys ≡ k → a + k ≤ i → get_or (put_mid a k xs ys) i d ≡ get_or xs i d
put_mid_above a k i xs ys d inside size p =
    let none : i + 0 ≡ i = omega arith in
    ap (λ n. get_or (put_mid a k xs ys) n d) (sym none)
    ∙ (sym (get_or-drop i (put_mid a k xs ys) 0 d) ∙ (ap (λ l. get_or l 0 d) (drop-put_mid a k xs ys i p inside size) ∙ (get_or-drop i xs 0 d ∙ ap (λ n. get_or xs n d) none)))

-- ---- a row that is cut out of a table

pub get_or-row_at : {X : Type 0} (stores row i : ℕ) (entries : List X) (d : X) → i < stores → get_or (row_at stores entries row) i d ≡ get_or entries (row * stores + i) d
get_or-row_at stores row i entries d p = get_or-take stores (drop (row * stores) entries) i d p ∙ get_or-drop (row * stores) entries i d

pub row_end : (stores rows row : ℕ) → row < rows → row * stores + stores ≤ rows * stores
row_end stores rows row p =
    let e : (row + 1) * stores ≡ row * stores + stores = omega arith in
    omega (arith, mul-le (row + 1) stores rows stores (omega arith) (omega arith))

pub length-row_at : {X : Type 0} (stores rows row : ℕ) (entries : List X) → length entries ≡ rows * stores → row < rows → length (row_at stores entries row) ≡ stores
length-row_at stores rows row entries count p =
    let part : length (drop (row * stores) entries) ≡ length entries - row * stores = length-drop (row * stores) entries in
    length-take-le stores (drop (row * stores) entries) (omega (arith, part, count, row_end stores rows row p))

-- the code's cut
pub cut_row : {X : Type 0} (stores row : ℕ) (xs : List X) → take (row * stores + stores - row * stores) (drop (row * stores) xs) ≡ row_at stores xs row
cut_row stores row xs = let e : row * stores + stores - row * stores ≡ stores = omega arith in ap (λ n. take n (drop (row * stores) xs)) e

-- the first item of a row is moved as its table's
moved-same : (q : ℕ) (usage : List ℕ) (row other : List ℤ) (i : ℕ) → get_or row i (pos 0) ≡ get_or other i (pos 0) → moved q usage row i ≡ moved q usage other i
moved-same q usage row other i e = ap (λ z. z -ℤ pos q *ℤ direction_of (get_or usage i 0) (sum usage) (length usage) (suc i)) e

-- one row more
pub rows_more : (q stores row k : ℕ) (usage part : List ℕ) (before now cut new : List ℤ) → k ≡ stores → part ≡ row_at stores usage row → cut ≡ row_at stores now row → length new ≡ stores → row * stores + stores ≤ length now →
    ((i : ℕ) → i < stores → get_or new i (pos 0) ≡ moved q part cut i) → AreRowsMoved q stores row usage before now → AreRowsMoved q stores (row + 1) usage before (put_mid (row * stores) k now new)
rows_more q stores row k usage part before now cut new k_is part_is cut_is size inside each so_far = record {
  done = λ r i p q'. below_more (λ r. (i : ℕ) → i < stores → get_or (put_mid (row * stores) k now new) (r * stores + i) (pos 0) ≡ moved q (row_at stores usage r) (row_at stores before r) i) row
      (λ r p i inner. put_mid_below (row * stores) k (r * stores + i) now new (pos 0) start (in_rows row stores r i p inner) ∙ so_far.done r i p inner)
      here r p i q';
  ahead = λ j p.
      let e : (row + 1) * stores ≡ row * stores + stores = omega arith in
      put_mid_above (row * stores) k j now new (pos 0) start (size ∙ sym k_is) (omega arith) ∙ so_far.ahead j (omega arith);
}
  where
    start : row * stores ≤ length now
    start = omega arith

    untouched : (i : ℕ) → i < stores → get_or (row_at stores now row) i (pos 0) ≡ get_or (row_at stores before row) i (pos 0)
    untouched i p = get_or-row_at stores row i now (pos 0) p ∙ (so_far.ahead (row * stores + i) (omega arith) ∙ sym (get_or-row_at stores row i before (pos 0) p))

    here : (i : ℕ) → i < stores → get_or (put_mid (row * stores) k now new) (row * stores + i) (pos 0) ≡ moved q (row_at stores usage row) (row_at stores before row) i
    here i p =
        put_mid_here (row * stores) k i now new (pos 0) start (omega arith)
        ∙ (each i p
        ∙ (ap₂ (λ u c. moved q u c i) part_is cut_is
        ∙ moved-same q (row_at stores usage row) (row_at stores now row) (row_at stores before row) i (untouched i p)))

-- ---- an entry of a row that is written

pub done_more : (q i : ℕ) (usage : List ℕ) (before now : List ℤ) (x : ℤ) → i < length now → x ≡ moved q usage before i → ((k : ℕ) → k < i → get_or now k (pos 0) ≡ moved q usage before k) → (k : ℕ) → k < i + 1 → get_or (set now i x) k (pos 0) ≡ moved q usage before k
done_more q i usage before now x inside is done = below_more (λ k. get_or (set now i x) k (pos 0) ≡ moved q usage before k) i
    (λ k p. let ne : k ≢ i = omega arith in get_or-set_other now i k x (pos 0) ne ∙ done k p)
    (get_or-set_same now i x (pos 0) inside ∙ is)

pub ahead_more : (i : ℕ) (before now : List ℤ) (x : ℤ) → ((k : ℕ) → i ≤ k → get_or now k (pos 0) ≡ get_or before k (pos 0)) → (k : ℕ) → i + 1 ≤ k → get_or (set now i x) k (pos 0) ≡ get_or before k (pos 0)
ahead_more i before now x ahead k p = let ne : k ≢ i = omega arith in get_or-set_other now i k x (pos 0) ne ∙ ahead k (omega arith)
