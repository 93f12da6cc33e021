-- Where all tight prefixes were taken, the chosen path is the best of all paths.
use Rattle.std.proofs.Common.{◌≡◌, ℕ, ℤ, ◌≤◌, ◌<◌, ◌+◌, ◌-◌, ◌≤ℤ◌, ◌<ℤ◌, int_lt, Bool, true, false, not, ◌&&◌, ◌==◌, ◌⊎◌, inl, inr, refl, sym, ap, ◌∙◌, subst, arith, suc, zero, List, [], ◌∷◌, length, take, drop, eq-eqb, if◌then◌else◌, map}
use Rattle.std.specs.List.{AllByRecursion, filter, flat_map, list_all}
use Rattle.std.proofs.lemmas.Bool.Decides.{nat_tests}
use Rattle.std.proofs.lemmas.Int.{ints}
use Rattle.std.proofs.lemmas.List.{take-append-drop}
use Rattle.clr_num.specs.Lists.{numbers}
use Rattle.clr_rules.specs.FirstPath.{ComesBefore}
use Rattle.clr_walk.specs.Prefixes.{Terms, IsPath, Among, prefixes}
use Rattle.clr_walk.specs.Tight.{reaches, is_tight, is_whole, tight, candidates}
use Rattle.clr_walk.specs.BestLaw.{Bounds, OnLadder, BestOfAll}
use Rattle.clr_walk.proofs.Choosing.{All-among, among-left, among-right}
use Rattle.clr_walk.proofs.WalkLemmas.{take_all}

-- ---- what stands in a list

abbrev pub among_numbers : ℕ → List ℕ → Type 0
among_numbers z [] = ⊥
among_numbers z (x ∷ xs) = (z ≡ x) ⊎ among_numbers z xs

pub in_numbers : (from count z : ℕ) → from ≤ z → z < from + count → among_numbers z (numbers from count)
in_numbers from zero z p q = absurd (omega arith)
in_numbers from (suc count) z p q = go (z == from) refl (in_numbers (suc from) count z)
  where
    is_it : (z == from) ≡ true → z ≡ from
    is_it e = grind (arith, nat_tests)

    later : (z == from) ≡ false → suc from ≤ z
    later e = grind (arith, nat_tests)

    go : (b : Bool) → (z == from) ≡ b → (suc from ≤ z → z < suc from + count → among_numbers z (numbers (suc from) count)) → (z ≡ from) ⊎ among_numbers z (numbers (suc from) count)
    go true e ih = inl (is_it e)
    go false e ih = inr (ih (later e) (omega arith))

pub among_map : (z : ℕ) (q : List ℕ) (ps : List (List ℕ)) → Among q ps → Among (z ∷ q) (map (λ rest. z ∷ rest) ps)
among_map z q [] h = absurd h
among_map z q (p ∷ ps) (inl e) = inl (ap (λ t. z ∷ t) e)
among_map z q (p ∷ ps) (inr h) = inr (among_map z q ps h)

pub among_flat : (f : ℕ → List (List ℕ)) (z : ℕ) (q : List ℕ) (xs : List ℕ) → among_numbers z xs → Among q (f z) → Among q (flat_map f xs)
among_flat f z q [] h a = absurd h
among_flat f z q (x ∷ xs) (inl e) a = among-left q (f x) (flat_map f xs) (subst (λ y. Among q (f y)) e a)
among_flat f z q (x ∷ xs) (inr h) a = among-right q (f x) (flat_map f xs) (among_flat f z q xs h a)

among_prefixes : (rungs n z : ℕ) (q : List ℕ) → suc (length q) ≤ n → (1 ≤ z) × (z ≤ rungs) → AllByRecursion (λ rung. (1 ≤ rung) × (rung ≤ rungs)) q → Among (z ∷ q) (prefixes (numbers 1 rungs) n)
among_prefixes rungs zero z q p range all = absurd (omega arith)
among_prefixes rungs (suc n) z [] p range all =
    let g : ℕ → List (List ℕ) = λ x. (x ∷ []) ∷ map (λ rest. x ∷ rest) (prefixes (numbers 1 rungs) n) in
    among_flat g z (z ∷ []) (numbers 1 rungs) (in_numbers 1 rungs z range.0 (within range.1)) (inl refl)
  where
    within : z ≤ rungs → z < 1 + rungs
    within h = omega arith
among_prefixes rungs (suc n) z (y ∷ q) p range all =
    let g : ℕ → List (List ℕ) = λ x. (x ∷ []) ∷ map (λ rest. x ∷ rest) (prefixes (numbers 1 rungs) n) in
    among_flat g z (z ∷ (y ∷ q)) (numbers 1 rungs) (in_numbers 1 rungs z range.0 (within range.1)) (inr (among_map z (y ∷ q) (prefixes (numbers 1 rungs) n) (among_prefixes rungs n y q (omega arith) all.0 all.1)))
  where
    within : z ≤ rungs → z < 1 + rungs
    within h = omega arith

pub among_filter : (p : List ℕ → Bool) (x : List ℕ) (xs : List (List ℕ)) → Among x xs → p x ≡ true → Among x (filter p xs)
among_filter p x [] h e = absurd h
among_filter p x (y ∷ ys) (inl same) e = subst (λ b. Among x (if b then y ∷ filter p ys else filter p ys)) (sym (ap p (sym same) ∙ e)) (inl same)
among_filter p x (y ∷ ys) (inr h) e = go (p y) (among_filter p x ys h e)
  where
    go : (b : Bool) → Among x (filter p ys) → Among x (if b then y ∷ filter p ys else filter p ys)
    go true a = inr a
    go false a = a

fails_at : (f : ℕ → Bool) (ks : List ℕ) → list_all f ks ≡ false → (k : ℕ) × (f k ≡ false)
fails_at f [] e = absurd (clash e)
  where
    clash : true ≡ false → ⊥
    clash e = cc
fails_at f (k ∷ ks) e = go (f k) refl (fails_at f ks) e
  where
    go : (b : Bool) → f k ≡ b → (list_all f ks ≡ false → (j : ℕ) × (f j ≡ false)) → (b && list_all f ks) ≡ false → (j : ℕ) × (f j ≡ false)
    go true h ih e = ih e
    go false h ih e = (k, h)

-- ---- the law

below_seed : (bound seed : ℤ) → not (int_lt bound seed) ≡ false → bound <ℤ seed
below_seed bound seed h = grind (arith, ints)

-- a path that is tight is a candidate, and one that is not lies below the seed
either : (terms : Terms) (seed : ℤ) (seeds : List (List ℕ)) (nodes : ℕ) (other : List ℕ) → 1 ≤ terms.weeks → Bounds terms → OnLadder terms → length (tight terms seed) ≤ nodes → IsPath terms other → Among other (candidates terms seed seeds nodes) ⊎ (terms.low other <ℤ seed)
either terms seed seeds nodes other some bounds ladder all path = go (list_all (λ k. reaches terms seed (take k other)) (numbers 1 (length other - 1))) refl
  where
    listed : (q : List ℕ) → length q ≡ terms.weeks → AllByRecursion (λ rung. (1 ≤ rung) × (rung ≤ terms.rungs)) q → Among q (prefixes (numbers 1 terms.rungs) terms.weeks)
    listed [] e h = absurd (omega arith)
    listed (z ∷ q) e h = among_prefixes terms.rungs terms.weeks z q (omega arith) h.0 h.1

    go : (b : Bool) → list_all (λ k. reaches terms seed (take k other)) (numbers 1 (length other - 1)) ≡ b → Among other (candidates terms seed seeds nodes) ⊎ (terms.low other <ℤ seed)
    go true e =
        let is : is_tight terms seed other ≡ true = ap (λ b. b && list_all (λ k. reaches terms seed (take k other)) (numbers 1 (length other - 1))) path.live ∙ e in
        let among : Among other (tight terms seed) = among_filter (is_tight terms seed) other (prefixes (numbers 1 terms.rungs) terms.weeks) (listed other path.weeks (ladder other path.live)) is in
        let taken : Among other (take nodes (tight terms seed)) = subst (λ xs. Among other xs) (sym (take_all nodes (tight terms seed) all)) among in
        inl (among-right other seeds (filter (is_whole terms) (take nodes (tight terms seed))) (among_filter (is_whole terms) other (take nodes (tight terms seed)) taken (eq-eqb (length other) terms.weeks path.weeks)))
    go false e =
        let at = fails_at (λ k. reaches terms seed (take k other)) (numbers 1 (length other - 1)) e in
        let joined = take-append-drop at.0 other in
        let most : terms.low other ≤ℤ terms.bound (take at.0 other) = subst (λ q. terms.low q ≤ℤ terms.bound (take at.0 other)) joined (bounds (take at.0 other) (drop at.0 other) (subst (λ q. IsPath terms q) (sym joined) path)) in
        let less : terms.bound (take at.0 other) <ℤ seed = below_seed (terms.bound (take at.0 other)) seed at.1 in
        inr (omega (arith, ints))

pub best_of_all_lem : BestOfAll
best_of_all_lem terms seed seeds start nodes path low best some bounds ladder start_in start_is found is_best =
    let all : length (tight terms seed) ≤ nodes = found.best_is.0 is_best in
    let least : seed ≤ℤ terms.low path = subst (λ v. v ≤ℤ terms.low path) start_is (All-among (λ other. terms.low other ≤ℤ terms.low path) start (candidates terms seed seeds nodes) (among-left start seeds (filter (is_whole terms) (take nodes (tight terms seed))) start_in) found.chosen.greatest) in
    record {
      greatest = λ other is. greatest least other (either terms seed seeds nodes other some bounds ladder all is);
      first = λ other is same. first least other same (either terms seed seeds nodes other some bounds ladder all is);
    }
  where
    greatest : seed ≤ℤ terms.low path → (other : List ℕ) → Among other (candidates terms seed seeds nodes) ⊎ (terms.low other <ℤ seed) → terms.low other ≤ℤ terms.low path
    greatest least other (inl among) = All-among (λ other. terms.low other ≤ℤ terms.low path) other (candidates terms seed seeds nodes) among found.chosen.greatest
    greatest least other (inr less) = omega (arith, ints)

    none : {a b : ℤ} → seed ≤ℤ a → b ≡ a → b <ℤ seed → ⊥
    none p e l = omega (arith, ints)

    first : seed ≤ℤ terms.low path → (other : List ℕ) → terms.low other ≡ terms.low path → Among other (candidates terms seed seeds nodes) ⊎ (terms.low other <ℤ seed) → (other ≡ path) ⊎ ComesBefore path other
    first least other same (inl among) = All-among (λ other. terms.low other ≡ terms.low path → (other ≡ path) ⊎ ComesBefore path other) other (candidates terms seed seeds nodes) among found.chosen.first same
    first least other same (inr less) = absurd (none least same less)
