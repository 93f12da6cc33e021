-- A prefix of an obeying path is live.
use Rattle.std.proofs.Common.{◌≡◌, ℕ, ◌+◌, ◌-◌, ◌<◌, ◌≤◌, Bool, true, ◌&&◌, refl, sym, ap, ◌∙◌, subst, arith, suc, List, [], ◌∷◌, ◌++◌, length, length-append, nat_le, eqb→eq, leb→le, append_assoc, append-nil}
use Rattle.std.specs.List.{list_any, AllByRecursion}
use Rattle.std.specs.Bool.{passes}
use Rattle.clr_num.specs.Lists.{all_lists}
use Rattle.clr_rules.specs.Rules.{Rulebook, rungs, obeys, are_rungs, is_live, live_rungs}
use Rattle.std.proofs.lemmas.Bool.{and_parts}
use Rattle.clr_rules.proofs.ListTests.{any-flat_map_cons, any-witness, All-filter_numbers}

pub is_rung-parts : (rung count : ℕ) → (nat_le 1 rung && nat_le rung count) ≡ true → (1 ≤ rung) × (rung ≤ count)
is_rung-parts rung count h = let r = and_parts (nat_le 1 rung) (nat_le rung count) h in (leb→le 1 rung (passes _ r.0), leb→le rung count (passes _ r.1))

pub any-rungs : (rules : Rulebook) (p : List ℕ → Bool) (rest : List ℕ) → are_rungs rules rest ≡ true → p rest ≡ true → list_any p (all_lists (rungs rules) (length rest)) ≡ true
any-rungs rules p [] ok h = rw h refl
any-rungs rules p (rung ∷ rest) ok h =
    let parts = and_parts (nat_le 1 rung && nat_le rung (length rules.prices)) (are_rungs rules rest) ok in
    let range = is_rung-parts rung (length rules.prices) parts.0 in
    any-flat_map_cons p (all_lists (rungs rules) (length rest)) 1 (length rules.prices) rung range.0 (omega arith) (any-rungs rules (λ more. p (rung ∷ more)) rest parts.1 h)

are_rungs-append : (rules : Rulebook) (prefix rest : List ℕ) → are_rungs rules (prefix ++ rest) ≡ true → are_rungs rules rest ≡ true
are_rungs-append rules [] rest h = h
are_rungs-append rules (rung ∷ prefix) rest h = are_rungs-append rules prefix rest (and_parts _ _ h).1

pub obeys-length : (rules : Rulebook) (path : List ℕ) → obeys rules path ≡ true → length path ≡ rules.weeks
obeys-length rules path h = eqb→eq (length path) rules.weeks (passes _ (and_parts _ _ h).0)

pub obeys-are_rungs : (rules : Rulebook) (path : List ℕ) → obeys rules path ≡ true → are_rungs rules path ≡ true
obeys-are_rungs rules path h = (and_parts _ _ (and_parts _ _ h).1).0

pub live_from : (rules : Rulebook) (prefix rest : List ℕ) → obeys rules (prefix ++ rest) ≡ true → is_live rules prefix ≡ true
live_from rules prefix rest h =
    let long : length (prefix ++ rest) ≡ rules.weeks = obeys-length rules (prefix ++ rest) h in
    let size : rules.weeks - length prefix ≡ length rest = omega (arith, length-append prefix rest) in
    subst (λ n. list_any (λ more. obeys rules (prefix ++ more)) (all_lists (rungs rules) n) ≡ true) (sym size)
    (any-rungs rules (λ more. obeys rules (prefix ++ more)) rest (are_rungs-append rules prefix rest (obeys-are_rungs rules (prefix ++ rest) h)) h)

pub live_before : (rules : Rulebook) (prefix rest : List ℕ) (rung : ℕ) → obeys rules (prefix ++ (rung ∷ rest)) ≡ true → is_live rules (prefix ++ rung ∷ []) ≡ true
live_before rules prefix rest rung h = live_from rules (prefix ++ rung ∷ []) rest (ap (obeys rules) (append_assoc prefix (rung ∷ []) rest) ∙ h)

-- ---- a live prefix is that of an obeying path

pub live_witness : (rules : Rulebook) (prefix : List ℕ) → is_live rules prefix ≡ true → (rest : List ℕ) × (obeys rules (prefix ++ rest) ≡ true)
live_witness rules prefix h = let (rest, good, there) = any-witness (λ rest. obeys rules (prefix ++ rest)) (all_lists (rungs rules) (rules.weeks - length prefix)) h in (rest, good)

pub live-length : (rules : Rulebook) (prefix : List ℕ) → is_live rules prefix ≡ true → length prefix ≤ rules.weeks
live-length rules prefix h =
    let (rest, good) = live_witness rules prefix h in
    let long : length (prefix ++ rest) ≡ rules.weeks = obeys-length rules (prefix ++ rest) good in
    omega (arith, length-append prefix rest)

pub live-rung : (rules : Rulebook) (prefix : List ℕ) (rung : ℕ) → is_live rules (prefix ++ rung ∷ []) ≡ true → (1 ≤ rung) × (rung ≤ length rules.prices)
live-rung rules prefix rung h =
    let (rest, good) = live_witness rules (prefix ++ rung ∷ []) h in
    let whole : are_rungs rules (prefix ++ (rung ∷ rest)) ≡ true = ap (are_rungs rules) (sym (append_assoc prefix (rung ∷ []) rest)) ∙ obeys-are_rungs rules ((prefix ++ rung ∷ []) ++ rest) good in
    is_rung-parts rung (length rules.prices) (and_parts _ _ (are_rungs-append rules prefix (rung ∷ rest) whole)).0

pub live-whole : (rules : Rulebook) (prefix : List ℕ) → is_live rules prefix ≡ true → length prefix ≡ rules.weeks → obeys rules prefix ≡ true
live-whole rules prefix h long =
    let (rest, good) = live_witness rules prefix h in go rest good
  where
    go : (rest : List ℕ) → obeys rules (prefix ++ rest) ≡ true → obeys rules prefix ≡ true
    go [] good = ap (obeys rules) (sym (append-nil prefix)) ∙ good
    go (rung ∷ rest) good = absurd (none (obeys-length rules (prefix ++ (rung ∷ rest)) good) (length-append prefix (rung ∷ rest)))
      where
        none : length (prefix ++ (rung ∷ rest)) ≡ rules.weeks → length (prefix ++ (rung ∷ rest)) ≡ length prefix + suc (length rest) → ⊥
        none p q = omega arith

-- a live prefix that is no whole path has a live rung
pub live-next : (rules : Rulebook) (prefix : List ℕ) → is_live rules prefix ≡ true → length prefix < rules.weeks → (rung : ℕ) × (is_live rules (prefix ++ rung ∷ []) ≡ true)
live-next rules prefix h short =
    let (rest, good) = live_witness rules prefix h in go rest good
  where
    go : (rest : List ℕ) → obeys rules (prefix ++ rest) ≡ true → (rung : ℕ) × (is_live rules (prefix ++ rung ∷ []) ≡ true)
    go [] good = absurd (none (obeys-length rules (prefix ++ []) good) (length-append prefix []))
      where
        none : length (prefix ++ []) ≡ rules.weeks → length (prefix ++ []) ≡ length prefix + 0 → ⊥
        none p q = omega arith
    go (rung ∷ rest) good = (rung, live_before rules prefix rest rung good)

-- what holds of all live rungs holds of each
pub All-live_rungs : (rules : Rulebook) (prefix : List ℕ) (P : ℕ → Type 0) (rung : ℕ) → is_live rules (prefix ++ rung ∷ []) ≡ true → AllByRecursion P (live_rungs rules prefix) → P rung
All-live_rungs rules prefix P rung h all =
    let range = live-rung rules prefix rung h in
    All-filter_numbers P (λ r. is_live rules (prefix ++ r ∷ [])) 1 (length rules.prices) rung range.0 (omega arith) h all

-- ---- the rungs of an obeying path lie on the ladder

all_rungs : (rules : Rulebook) (path : List ℕ) → are_rungs rules path ≡ true → AllByRecursion (λ rung. (1 ≤ rung) × (rung ≤ length rules.prices)) path
all_rungs rules [] h = tt
all_rungs rules (rung ∷ path) h = let parts = and_parts _ _ h in (is_rung-parts rung (length rules.prices) parts.0, all_rungs rules path parts.1)

pub rungs_of : (rules : Rulebook) (prefix rest : List ℕ) → obeys rules (prefix ++ rest) ≡ true → AllByRecursion (λ rung. (1 ≤ rung) × (rung ≤ length rules.prices)) rest
rungs_of rules prefix rest h = all_rungs rules rest (are_rungs-append rules prefix rest (obeys-are_rungs rules (prefix ++ rest) h))
