-- A sum over all outcomes, by lists of all their demands.
use Rattle.std.proofs.Common.{◌≡◌, ℕ, ◌+◌, ◌-◌, ◌*◌, ◌^◌, ◌≤◌, ℤ, pos, ◌+ℤ◌, ◌*ℤ◌, ◌≤ℤ◌, refl, sym, ap, ap₂, ◌∙◌, subst, arith, suc, zero, List, [], ◌∷◌, ◌++◌, length, take, drop, append_assoc, append-nil, mul_comm}
use Rattle.std.proofs.Math.Seq.{take-length}
use lib.IntN.{+ℤ_idr}
use Rattle.clr_num.specs.Lists.{all_lists, numbers}
use Rattle.clr_num.specs.Sums.{sum_over}
use Rattle.clr_rules.specs.Rules.{IsPath}
use Rattle.clr_season.specs.Season.{Season, IsSeason, demands}
use Rattle.clr_average.proofs.Ring.{linear}
use Rattle.clr_average.proofs.Sums.{sum_over-same, sum_over-numbers_more}
use Rattle.clr_model.specs.Policies.{branch, const_tree}
use Rattle.clr_model.specs.Revenue.{full_stocks, revenue}
use Rattle.clr_model.specs.Expected.{chance, earned, season_earned}
use Rattle.clr_model.proofs.Sums.{sum_over-all_lists}
use Rattle.clr_model.proofs.Weeks.{chances_sum_lem}
use Rattle.clr_model.proofs.Steps.{week_chance-pos}
use Rattle.clr_model.proofs.PathBounds.{whole_const}
use Rattle.clr_plain.specs.Plain.{weeks_of, outcome_of, flat_chance, flat_part, sum_after}

-- ---- lists of lists as one list

sum_cut : (xs : List ℕ) (n m : ℕ) (k : List ℕ → List ℕ → ℤ) → sum_over (all_lists xs (n + m)) (λ l. k (take n l) (drop n l)) ≡ sum_over (all_lists xs n) (λ a. sum_over (all_lists xs m) (λ b. k a b))
sum_cut xs zero m k = let e : 0 + m ≡ m = omega arith in ap (λ c. sum_over (all_lists xs c) (λ l. k [] l)) e ∙ sym (+ℤ_idr (sum_over (all_lists xs m) (k [])))
sum_cut xs (suc n) m k =
    let e : suc n + m ≡ suc (n + m) = omega arith in
    ap (λ c. sum_over (all_lists xs c) (λ l. k (take (suc n) l) (drop (suc n) l))) e
    ∙ (sum_over-all_lists xs (n + m) (λ l. k (take (suc n) l) (drop (suc n) l))
    ∙ (sum_over-same xs _ (λ x. sum_over (all_lists xs n) (λ a. sum_over (all_lists xs m) (λ b. k (x ∷ a) b))) (λ x. sum_cut xs n m (λ a b. k (x ∷ a) b))
    ∙ sym (sum_over-all_lists xs n (λ a. sum_over (all_lists xs m) (λ b. k a b)))))

sum_weeks : (xs : List ℕ) (stores weeks : ℕ) (f : List (List ℕ) → ℤ) → sum_over (all_lists (all_lists xs stores) weeks) f ≡ sum_over (all_lists xs (weeks * stores)) (λ l. f (weeks_of stores weeks l))
sum_weeks xs stores zero f = let e : 0 * stores ≡ 0 = omega arith in sym (ap (λ c. sum_over (all_lists xs c) (λ l. f [])) e)
sum_weeks xs stores (suc weeks) f =
    let e : suc weeks * stores ≡ stores + weeks * stores = omega arith in
    sum_over-all_lists (all_lists xs stores) weeks f
    ∙ (sum_over-same (all_lists xs stores) _ (λ w. sum_over (all_lists xs (weeks * stores)) (λ l. f (w ∷ weeks_of stores weeks l))) (λ w. sum_weeks xs stores weeks (λ rest. f (w ∷ rest)))
    ∙ (sym (sum_cut xs stores (weeks * stores) (λ a b. f (a ∷ weeks_of stores weeks b)))
    ∙ ap (λ c. sum_over (all_lists xs c) (λ l. f (weeks_of stores (suc weeks) l))) (sym e)))

branch_const : (path : List ℕ) (stores : ℕ) (l : List ℕ) → branch (const_tree path) (weeks_of stores (length path) l) ≡ path
branch_const [] stores l = refl
branch_const (rung ∷ path) stores l = ap (λ t. rung ∷ t) (branch_const path stores (drop stores l))

-- ---- the whole sum

pub earned_is : (season : Season) (path : List ℕ) → length path ≡ season.rules.weeks → sum_after season (flat_part season path) (length path * length season.stores) [] ≡ season_earned season (const_tree path)
unfolding earned
earned_is season path weeks =
    sum_over-same (all_lists (demands season) (length path * length season.stores)) (flat_part season path) _ (λ l. ap (λ p. chance season 0 p (outcome_of season path l) *ℤ revenue season 1 (full_stocks season) p (outcome_of season path l)) (sym (branch_const path (length season.stores) l)))
    ∙ (sym (sum_weeks (demands season) (length season.stores) (length path) (λ outcome. chance season 0 (branch (const_tree path) outcome) outcome *ℤ revenue season 1 (full_stocks season) (branch (const_tree path) outcome) outcome))
    ∙ ap (λ n. earned season 0 n 1 (full_stocks season) (const_tree path)) weeks)

pub mass_is : (season : Season) (path : List ℕ) → IsSeason season → IsPath season.rules path → sum_after season (flat_chance season path) (length path * length season.stores) [] ≡ pos (season.base ^ (length path * length season.stores))
mass_is season path ok is =
    sum_over-same (all_lists (demands season) (length path * length season.stores)) (flat_chance season path) _ (λ l. ap (λ p. chance season 0 p (outcome_of season path l)) (sym (branch_const path (length season.stores) l)))
    ∙ (sym (sum_weeks (demands season) (length season.stores) (length path) (λ outcome. chance season 0 (branch (const_tree path) outcome) outcome))
    ∙ (chances_sum_lem season 0 (length path) (const_tree path) ok (let e : length path ≡ season.rules.weeks = is.weeks in omega arith) (whole_const season path is.rungs)
    ∙ ap (λ n. pos (season.base ^ n)) (mul_comm (length season.stores) (length path))))

pub mass_small_whole : (season : Season) (path : List ℕ) (n : ℕ) → IsSeason season → IsPath season.rules path → n ≡ length path * length season.stores → season.base ^ (length season.stores * season.rules.weeks) ≤ 10 ^ 18 → sum_after season (flat_chance season path) n [] ≤ℤ pos (10 ^ 18)
mass_small_whole season path n ok is size small =
    let all : sum_after season (flat_chance season path) n [] ≡ pos (season.base ^ (length path * length season.stores)) = ap (λ k. sum_after season (flat_chance season path) k []) size ∙ mass_is season path ok is in
    let same : season.base ^ (length path * length season.stores) ≡ season.base ^ (length season.stores * season.rules.weeks) = ap (λ k. season.base ^ k) (mul_comm (length path) (length season.stores) ∙ ap (λ t. length season.stores * t) is.weeks) in
    let few : season.base ^ (length path * length season.stores) ≤ 10 ^ 18 = subst (λ k. k ≤ 10 ^ 18) (sym same) small in
    omega (arith, linear)

-- ---- one place of the list

pub place_more : (season : Season) (f : List ℕ → ℤ) (count : ℕ) (begun : List ℕ) → sum_after season f (suc count) begun ≡ sum_over (demands season) (λ d. sum_after season f count (begun ++ d ∷ []))
place_more season f count begun =
    sum_over-all_lists (demands season) count (λ rest. f (begun ++ rest))
    ∙ sum_over-same (demands season) _ (λ d. sum_after season f count (begun ++ d ∷ [])) (λ d. sum_over-same (all_lists (demands season) count) _ _ (λ rest. ap f (sym (append_assoc begun (d ∷ []) rest))))

pub no_place : (season : Season) (f : List ℕ → ℤ) (asked : List ℕ) → sum_after season f (length asked - length asked) (take (length asked) asked) ≡ f asked
no_place season f asked =
    let none : length asked - length asked ≡ 0 = omega arith in
    ap (λ n. sum_after season f n (take (length asked) asked)) none ∙ (+ℤ_idr (f (take (length asked) asked ++ [])) ∙ ap f (append-nil (take (length asked) asked) ∙ take-length asked))

-- ---- chances are not negative

chance-pos : (season : Season) (done : ℕ) (path : List ℕ) (outcome : List (List ℕ)) → (k : ℕ) × (chance season done path outcome ≡ pos k)
chance-pos season done [] outcome = (1, refl)
chance-pos season done (rung ∷ path) [] = (1, refl)
chance-pos season done (rung ∷ path) (week ∷ outcome) =
    let r = chance-pos season (suc done) path outcome in
    let w = week_chance-pos season (suc done) rung week in
    (w.0 * r.0, ap₂ ◌*ℤ◌ w.1 r.1)

pub sum_over-natural : {X : Type 0} (xs : List X) (f : X → ℤ) → ((x : X) → (k : ℕ) × (f x ≡ pos k)) → (k : ℕ) × (sum_over xs f ≡ pos k)
sum_over-natural [] f h = (0, refl)
sum_over-natural (x ∷ xs) f h =
    let r = sum_over-natural xs f h in
    let here = h x in
    (here.0 + r.0, ap₂ ◌+ℤ◌ here.1 r.1)

pub mass-pos : (season : Season) (path : List ℕ) (count : ℕ) (begun : List ℕ) → (k : ℕ) × (sum_after season (flat_chance season path) count begun ≡ pos k)
mass-pos season path count begun = sum_over-natural (all_lists (demands season) count) (λ rest. flat_chance season path (begun ++ rest)) (λ rest. chance-pos season 0 path (outcome_of season path (begun ++ rest)))

-- the first numbers of a list are no more than all
pub front_le : (f : ℕ → ℤ) (count more : ℕ) → ((d : ℕ) → (k : ℕ) × (f d ≡ pos k)) → sum_over (numbers 0 count) f ≤ℤ sum_over (numbers 0 (count + more)) f
front_le f count zero h = let e : count + 0 ≡ count = omega arith in rw e (omega (arith, linear))
front_le f count (suc more) h =
    let e : count + suc more ≡ suc (count + more) = omega arith in
    let rest : sum_over (numbers 0 count) f ≤ℤ sum_over (numbers 0 (count + more)) f = front_le f count more h in
    let all : sum_over (numbers 0 (suc (count + more))) f ≡ sum_over (numbers 0 (count + more)) f +ℤ f (0 + (count + more)) = sum_over-numbers_more 0 (count + more) f in
    let here = h (0 + (count + more)) in
    let some : f (0 + (count + more)) ≡ pos here.0 = here.1 in
    rw e (omega (arith, linear))
