-- The walk's list is the list of tight prefixes.
use Rattle.std.proofs.Common.{◌≡◌, ℕ, ℤ, ◌-◌, Bool, true, false, ◌&&◌, ◌||◌, IsTrue, if◌then◌else◌, refl, sym, ap, ap₂, ◌∙◌, arith, suc, zero, List, [], ◌∷◌, ◌++◌, length, map, take, append_assoc, length-append, add-one}
use Rattle.std.specs.List.{AllByRecursion, filter, flat_map, list_all}
use Rattle.std.proofs.Math.Seq.{take-append_seam}
use mathlib.Core.Path.{fun_ext}
use Rattle.std.proofs.lemmas.List.Elements.{filter-append}
use Rattle.clr_num.specs.Lists.{numbers}
use Rattle.clr_walk.specs.Prefixes.{Terms, prefixes}
use Rattle.clr_walk.specs.Tight.{reaches, is_tight, tight}
use Rattle.clr_walk.specs.Walks.{entered, under}
use Rattle.clr_walk.proofs.Choosing.{All-append}

abbrev is_none : List ℕ → Bool
is_none [] = true
is_none (x ∷ xs) = false

-- ---- laws of lists

map-append : {X Y : Type 0} (f : X → Y) (xs ys : List X) → map f (xs ++ ys) ≡ map f xs ++ map f ys
map-append f [] ys = refl
map-append f (x ∷ xs) ys = ap (λ t. f x ∷ t) (map-append f xs ys)

map_same : {X : Type 0} (xs : List X) → map (λ x. x) xs ≡ xs
map_same [] = refl
map_same (x ∷ xs) = ap (λ t. x ∷ t) (map_same xs)

map_map : {X Y Z : Type 0} (f : X → Y) (h : Y → Z) (xs : List X) → map h (map f xs) ≡ map (λ x. h (f x)) xs
map_map f h [] = refl
map_map f h (x ∷ xs) = ap (λ t. h (f x) ∷ t) (map_map f h xs)

filter_map : {X Y : Type 0} (p : Y → Bool) (f : X → Y) (xs : List X) → filter p (map f xs) ≡ map f (filter (λ x. p (f x)) xs)
filter_map p f [] = refl
filter_map p f (x ∷ xs) = both (p (f x)) (filter_map p f xs)
  where
    both : (b : Bool) → filter p (map f xs) ≡ map f (filter (λ x. p (f x)) xs) → (if b then f x ∷ filter p (map f xs) else filter p (map f xs)) ≡ map f (if b then x ∷ filter (λ x. p (f x)) xs else filter (λ x. p (f x)) xs)
    both true e = ap (λ t. f x ∷ t) e
    both false e = e

filter_same : {X : Type 0} (p q : X → Bool) (xs : List X) → AllByRecursion (λ x. p x ≡ q x) xs → filter p xs ≡ filter q xs
filter_same p q [] a = refl
filter_same p q (x ∷ xs) a = ap₂ (λ b t. if b then x ∷ t else t) a.0 (filter_same p q xs a.1)

filter_none : {X : Type 0} (xs : List X) → filter (λ x. false) xs ≡ []
filter_none [] = refl
filter_none (x ∷ xs) = filter_none xs

All-imply : {X : Type 0} (P Q : X → Type 0) (xs : List X) → ((x : X) → P x → Q x) → AllByRecursion P xs → AllByRecursion Q xs
All-imply P Q [] f a = tt
All-imply P Q (x ∷ xs) f a = (f x a.0, All-imply P Q xs f a.1)

All-some : (n : ℕ) (xs zs : List ℕ) → AllByRecursion (λ q. is_none q ≡ false) (flat_map (λ x. (x ∷ []) ∷ map (λ rest. x ∷ rest) (prefixes xs n)) zs)
All-some n xs [] = tt
All-some n xs (z ∷ zs) = All-append (λ q. is_none q ≡ false) ((z ∷ []) ∷ map (λ rest. z ∷ rest) (prefixes xs n)) (flat_map (λ x. (x ∷ []) ∷ map (λ rest. x ∷ rest) (prefixes xs n)) zs) (refl, longer (prefixes xs n)) (All-some n xs zs)
  where
    longer : (ps : List (List ℕ)) → AllByRecursion (λ q. is_none q ≡ false) (map (λ rest. z ∷ rest) ps)
    longer [] = tt
    longer (p ∷ ps) = (refl, longer ps)

some_prefixes : (xs : List ℕ) (n : ℕ) → AllByRecursion (λ q. is_none q ≡ false) (prefixes xs n)
some_prefixes xs zero = tt
some_prefixes xs (suc n) = All-some n xs xs

and_true : (b : Bool) → b && true ≡ b
and_true true = refl
and_true false = refl

and_false : (b : Bool) → b && false ≡ false
and_false true = refl
and_false false = refl

module _ (terms : Terms) (seed : ℤ) (closed : (prefix rest : List ℕ) → IsTrue (terms.live (prefix ++ rest)) → IsTrue (terms.live prefix)) where
  -- each proper nonempty part of the rungs ahead, put behind those walked, reaches the seed
  abbrev reach_ahead : List ℕ → List ℕ → Bool
  reach_ahead walked [] = true
  reach_ahead walked (x ∷ ahead) = (is_none ahead || reaches terms seed (walked ++ x ∷ [])) && reach_ahead (walked ++ x ∷ []) ahead

  ahead_is : (walked ahead : List ℕ) → is_none ahead ≡ false → list_all (λ k. reaches terms seed (take k (walked ++ ahead))) (numbers (suc (length walked)) (length ahead - 1)) ≡ reach_ahead walked ahead
  ahead_is walked [] e = absurd (clash e)
    where
      clash : true ≡ false → ⊥
      clash e = cc
  ahead_is walked (x ∷ ahead) e = step ahead (ahead_is (walked ++ x ∷ []) ahead)
    where
      two_less : (n : ℕ) → suc (suc n) - 1 ≡ suc n
      two_less n = omega arith

      one_less : (n : ℕ) → suc n - 1 ≡ n
      one_less n = omega arith

      no_less : 1 - 1 ≡ 0
      no_less = omega arith

      step : (ahead : List ℕ) → (is_none ahead ≡ false → list_all (λ k. reaches terms seed (take k ((walked ++ x ∷ []) ++ ahead))) (numbers (suc (length (walked ++ x ∷ []))) (length ahead - 1)) ≡ reach_ahead (walked ++ x ∷ []) ahead) →
          list_all (λ k. reaches terms seed (take k (walked ++ (x ∷ ahead)))) (numbers (suc (length walked)) (suc (length ahead) - 1)) ≡ reach_ahead walked (x ∷ ahead)
      step [] ih = ap (λ n. list_all (λ k. reaches terms seed (take k (walked ++ x ∷ []))) (numbers (suc (length walked)) n)) no_less
      step (y ∷ ys) ih =
          let rest : List ℕ = y ∷ ys in
          let longer : length (walked ++ x ∷ []) ≡ suc (length walked) = length-append walked (x ∷ []) ∙ add-one (length walked) in
          let same : (walked ++ x ∷ []) ++ rest ≡ walked ++ (x ∷ rest) = append_assoc walked (x ∷ []) rest in
          let here : take (suc (length walked)) (walked ++ (x ∷ rest)) ≡ walked ++ x ∷ []
          = ap₂ take (sym longer) (sym same) ∙ take-append_seam (walked ++ x ∷ []) rest in
          ap (λ n. list_all (λ k. reaches terms seed (take k (walked ++ (x ∷ rest)))) (numbers (suc (length walked)) n)) (two_less (length ys))
          ∙ ap₂ ◌&&◌ (ap (reaches terms seed) here)
          (ap₂ (λ m xs. list_all (λ k. reaches terms seed (take k xs)) (numbers (suc m) (length ys))) (sym longer) (sym same)
          ∙ (ap (λ n. list_all (λ k. reaches terms seed (take k ((walked ++ x ∷ []) ++ rest))) (numbers (suc (length (walked ++ x ∷ []))) n)) (sym (one_less (length ys))) ∙ ih refl))

  abbrev test : List ℕ → List ℕ → Bool
  test prefix q = terms.live (prefix ++ q) && reach_ahead prefix q

  -- a rung after a prefix, and what lies behind it
  one : (prefix : List ℕ) (z : ℕ) (ps behind : List (List ℕ)) → AllByRecursion (λ q. is_none q ≡ false) ps → map (λ q. (prefix ++ z ∷ []) ++ q) (filter (test (prefix ++ z ∷ [])) ps) ≡ behind →
      map (λ q. prefix ++ q) (filter (test prefix) ((z ∷ []) ∷ map (λ rest. z ∷ rest) ps)) ≡ entered terms seed (prefix ++ z ∷ []) behind
  one prefix z ps behind some ih = go (terms.live p) refl (reaches terms seed p) refl
    where
      p : List ℕ
      p = prefix ++ z ∷ []

      moved : (q : List ℕ) → prefix ++ (z ∷ q) ≡ p ++ q
      moved q = sym (append_assoc prefix (z ∷ []) q)

      clash : true ≡ false → ⊥
      clash e = cc

      dead : (q : List ℕ) (b : Bool) → terms.live p ≡ false → terms.live (prefix ++ (z ∷ q)) ≡ b → b ≡ false
      dead q false e h = refl
      dead q true e h = absurd (clash (sym (closed p q (ap terms.live (sym (moved q)) ∙ h)) ∙ e))

      F : List (List ℕ)
      F = filter (test prefix) (map (λ rest. z ∷ rest) ps)

      empty : AllByRecursion (λ q. test prefix (z ∷ q) ≡ false) ps → F ≡ []
      empty none = filter_map (test prefix) (λ rest. z ∷ rest) ps ∙ ap (map (λ rest. z ∷ rest)) (filter_same (λ q. test prefix (z ∷ q)) (λ q. false) ps none ∙ filter_none ps)

      go : (lives : Bool) → terms.live p ≡ lives → (reached : Bool) → reaches terms seed p ≡ reached → map (λ q. prefix ++ q) (if (lives && true) then (z ∷ []) ∷ F else F) ≡ (if lives then p ∷ (if reached then behind else []) else [])
      go false e reached f = ap (map (λ q. prefix ++ q)) (empty (All-imply (λ q. is_none q ≡ false) (λ q. test prefix (z ∷ q) ≡ false) ps (λ q n. ap (λ b. b && ((is_none q || reaches terms seed p) && reach_ahead p q)) (dead q (terms.live (prefix ++ (z ∷ q))) e refl)) some))
      go true e false f = ap (λ xs. p ∷ map (λ q. prefix ++ q) xs) (empty (All-imply (λ q. is_none q ≡ false) (λ q. test prefix (z ∷ q) ≡ false) ps (λ q n. ap₂ (λ a b. terms.live (prefix ++ (z ∷ q)) && ((a || b) && reach_ahead p q)) n f ∙ and_false (terms.live (prefix ++ (z ∷ q)))) some))
      go true e true f =
          ap (λ xs. p ∷ xs) (ap (map (λ q. prefix ++ q)) (filter_map (test prefix) (λ rest. z ∷ rest) ps)
          ∙ (map_map (λ rest. z ∷ rest) (λ q. prefix ++ q) (filter (λ q. test prefix (z ∷ q)) ps)
          ∙ (ap₂ (λ (h : List ℕ → List ℕ) (xs : List (List ℕ)). map h xs) (fun_ext moved) (filter_same (λ q. test prefix (z ∷ q)) (test p) ps (All-imply (λ q. is_none q ≡ false) (λ q. test prefix (z ∷ q) ≡ test p q) ps
          (λ q n. ap₂ (λ xs b. terms.live xs && (b && reach_ahead p q)) (moved q) (ap₂ (λ a b. a || b) n f)) some))
          ∙ ih)))

  rows : (prefix : List ℕ) (n : ℕ) (xs zs : List ℕ) → ((p : List ℕ) → map (λ q. p ++ q) (filter (test p) (prefixes xs n)) ≡ under terms seed p n) →
      map (λ q. prefix ++ q) (filter (test prefix) (flat_map (λ x. (x ∷ []) ∷ map (λ rest. x ∷ rest) (prefixes xs n)) zs)) ≡ flat_map (λ rung. entered terms seed (prefix ++ rung ∷ []) (under terms seed (prefix ++ rung ∷ []) n)) zs
  rows prefix n xs [] ih = refl
  rows prefix n xs (z ∷ zs) ih =
      let here : List (List ℕ) = (z ∷ []) ∷ map (λ rest. z ∷ rest) (prefixes xs n) in
      let more : List (List ℕ) = flat_map (λ x. (x ∷ []) ∷ map (λ rest. x ∷ rest) (prefixes xs n)) zs in
      ap (map (λ q. prefix ++ q)) (filter-append (test prefix) here more)
      ∙ (map-append (λ q. prefix ++ q) (filter (test prefix) here) (filter (test prefix) more)
      ∙ ap₂ ◌++◌ (one prefix z (prefixes xs n) (under terms seed (prefix ++ z ∷ []) n) (some_prefixes xs n) (ih (prefix ++ z ∷ []))) (rows prefix n xs zs ih))

  listed : (n : ℕ) (prefix : List ℕ) → map (λ q. prefix ++ q) (filter (test prefix) (prefixes (numbers 1 terms.rungs) n)) ≡ under terms seed prefix n
  listed zero prefix = refl
  listed (suc n) prefix = rows prefix n (numbers 1 terms.rungs) (numbers 1 terms.rungs) (listed n)

  pub walk_is_tight : under terms seed [] terms.weeks ≡ tight terms seed
  walk_is_tight =
      let all = prefixes (numbers 1 terms.rungs) terms.weeks in
      sym (listed terms.weeks []) ∙ (map_same (filter (test []) all)
      ∙ filter_same (test []) (is_tight terms seed) all (All-imply (λ q. is_none q ≡ false) (λ q. test [] q ≡ is_tight terms seed q) all (λ q n. ap (λ b. terms.live q && b) (sym (ahead_is [] q n))) (some_prefixes (numbers 1 terms.rungs) terms.weeks)))
