-- A walk that meets more prefixes.
use Rattle.std.proofs.Common.{◌≡◌, ℕ, ◌+◌, ◌-◌, ◌<◌, ◌≤◌, nat_lt, ℤ, Bool, true, false, not, IsTrue, ◌↔◌, if◌then◌else◌, refl, sym, ap, ap₂, ◌∙◌, subst, arith, suc, zero, List, [], ◌∷◌, ◌++◌, length, take, append_assoc, append-nil, length-append, eqb, eq-eqb, add-one}
use Rattle.std.specs.List.{filter, flat_map}
use Rattle.std.proofs.lemmas.List.{take-append-le}
use Rattle.std.proofs.lemmas.List.Elements.{filter-append}
use Rattle.std.proofs.lemmas.Grind.{flat_map-append}
use Rattle.std.proofs.lemmas.Bool.Decides.{nat_tests}
use Rattle.clr_num.specs.Lists.{numbers}
use Rattle.clr_walk.specs.Prefixes.{Terms, IsChosen}
use Rattle.clr_walk.specs.Tight.{is_whole, reaches, tight, IsSearched}
use Rattle.clr_walk.specs.Walks.{IsWalked, Leaves, Takes, entered, under}
use Rattle.clr_walk.specs.declared.walk.Walk.{Walk}
use Rattle.clr_walk.proofs.Choosing.{IsKept}

-- ---- what is taken of a list

pub take_all : {X : Type 0} (n : ℕ) (xs : List X) → length xs ≤ n → take n xs ≡ xs
take_all zero [] p = refl
take_all zero (x ∷ xs) p = absurd (omega arith)
take_all (suc n) [] p = refl
take_all (suc n) (x ∷ xs) p = ap (λ t. x ∷ t) (take_all n xs (omega arith))

-- a whole prefix that is still taken
met : (terms : Terms) (seeds seen : List (List ℕ)) (nodes : ℕ) (path : List ℕ) → length seen < nodes → is_whole terms path ≡ true →
    seeds ++ filter (is_whole terms) (take nodes (seen ++ path ∷ [])) ≡ (seeds ++ filter (is_whole terms) (take nodes seen)) ++ path ∷ []
met terms seeds seen nodes path room whole =
    let fits : length (seen ++ path ∷ []) ≤ nodes = longer (length-append seen (path ∷ [])) in
    ap (λ t. seeds ++ filter (is_whole terms) t) (take_all nodes (seen ++ path ∷ []) fits)
    ∙ (ap (λ t. seeds ++ t) (filter-append (is_whole terms) seen (path ∷ []))
    ∙ (ap (λ b. seeds ++ (filter (is_whole terms) seen ++ (if b then path ∷ [] else []))) whole
    ∙ (sym (append_assoc seeds (filter (is_whole terms) seen) (path ∷ []))
    ∙ ap (λ t. (seeds ++ filter (is_whole terms) t) ++ path ∷ []) (sym (take_all nodes seen (omega arith))))))
  where
    longer : length (seen ++ path ∷ []) ≡ length seen + 1 → length (seen ++ path ∷ []) ≤ nodes
    longer e = omega arith

-- the walk takes a whole path
pub met_path : (terms : Terms) (seeds seen : List (List ℕ)) (nodes : ℕ) (path best best_after : List ℕ) (left left_after : ℕ) (more : Bool) (low low_after : ℤ) → IsWalked terms seeds nodes seen left more best low → 1 ≤ left → left_after ≡ left - 1 → length path ≡ terms.weeks →
    ((candidates : List (List ℕ)) → IsKept terms candidates best low → IsKept terms (candidates ++ path ∷ []) best_after low_after) → IsWalked terms seeds nodes (seen ++ path ∷ []) left_after more best_after low_after
met_path terms seeds seen nodes path best best_after left left_after more low low_after walked some left_is whole keeps =
    let room : length seen < nodes = roomy walked.left_is in
    let kept = keeps (seeds ++ filter (is_whole terms) (take nodes seen)) (record { chosen = walked.chosen; value_is = walked.low_is }) in
    record {
      left_is = count walked.left_is (length-append seen (path ∷ []));
      more_is = walked.more_is ∙ still room (length-append seen (path ∷ []));
      chosen = subst (λ cs. IsChosen terms cs best_after) (sym (met terms seeds seen nodes path room (eq-eqb (length path) terms.weeks whole))) kept.chosen;
      low_is = kept.value_is;
    }
  where
    roomy : left ≡ nodes - length seen → length seen < nodes
    roomy e = omega arith

    count : left ≡ nodes - length seen → length (seen ++ path ∷ []) ≡ length seen + 1 → left_after ≡ nodes - length (seen ++ path ∷ [])
    count e f = omega arith

    still : length seen < nodes → length (seen ++ path ∷ []) ≡ length seen + 1 → nat_lt nodes (length seen) ≡ nat_lt nodes (length (seen ++ path ∷ []))
    still p f = grind (arith, nat_tests)

-- the walk takes a path that is not whole
pub met_part : (terms : Terms) (seeds seen : List (List ℕ)) (nodes : ℕ) (path best : List ℕ) (left left_after : ℕ) (more : Bool) (low : ℤ) → IsWalked terms seeds nodes seen left more best low → 1 ≤ left → left_after ≡ left - 1 → length path < terms.weeks → IsWalked terms seeds nodes (seen ++ path ∷ []) left_after more best low
met_part terms seeds seen nodes path best left left_after more low walked some left_is part =
    let room : length seen < nodes = roomy walked.left_is in
    record {
      left_is = count walked.left_is (length-append seen (path ∷ []));
      more_is = walked.more_is ∙ still room (length-append seen (path ∷ []));
      chosen = subst (λ xs. IsChosen terms (seeds ++ xs) best) (sym (same room (longer room (length-append seen (path ∷ []))))) walked.chosen;
      low_is = walked.low_is;
    }
  where
    roomy : left ≡ nodes - length seen → length seen < nodes
    roomy e = omega arith

    count : left ≡ nodes - length seen → length (seen ++ path ∷ []) ≡ length seen + 1 → left_after ≡ nodes - length (seen ++ path ∷ [])
    count e f = omega arith

    still : length seen < nodes → length (seen ++ path ∷ []) ≡ length seen + 1 → nat_lt nodes (length seen) ≡ nat_lt nodes (length (seen ++ path ∷ []))
    still p f = grind (arith, nat_tests)

    longer : length seen < nodes → length (seen ++ path ∷ []) ≡ length seen + 1 → length (seen ++ path ∷ []) ≤ nodes
    longer p f = omega arith

    shorter : (a b : ℕ) → a < b → eqb a b ≡ false
    shorter a b p = grind (arith, nat_tests)

    same : length seen < nodes → length (seen ++ path ∷ []) ≤ nodes → filter (is_whole terms) (take nodes (seen ++ path ∷ [])) ≡ filter (is_whole terms) (take nodes seen)
    same room fits =
        ap (filter (is_whole terms)) (take_all nodes (seen ++ path ∷ []) fits)
        ∙ (filter-append (is_whole terms) seen (path ∷ [])
        ∙ (ap (λ b. filter (is_whole terms) seen ++ (if b then path ∷ [] else [])) (shorter (length path) terms.weeks part)
        ∙ (append-nil (filter (is_whole terms) seen) ∙ ap (filter (is_whole terms)) (sym (take_all nodes seen (omega arith))))))

-- where nothing is left to take, there are more
pub met_more : (terms : Terms) (seeds seen : List (List ℕ)) (nodes : ℕ) (path best : List ℕ) (left : ℕ) (more : Bool) (low : ℤ) → IsWalked terms seeds nodes seen left more best low → left ≡ 0 → IsWalked terms seeds nodes (seen ++ path ∷ []) left true best low
met_more terms seeds seen nodes path best left more low walked none =
    let over : nodes ≤ length seen = filled walked.left_is in
    record {
      left_is = count walked.left_is (length-append seen (path ∷ []));
      more_is = past over (length-append seen (path ∷ []));
      chosen = subst (λ t. IsChosen terms (seeds ++ filter (is_whole terms) t) best) (sym (take-append-le nodes seen (path ∷ []) over)) walked.chosen;
      low_is = walked.low_is;
    }
  where
    filled : left ≡ nodes - length seen → nodes ≤ length seen
    filled e = omega arith

    count : left ≡ nodes - length seen → length (seen ++ path ∷ []) ≡ length seen + 1 → left ≡ nodes - length (seen ++ path ∷ [])
    count e f = omega arith

    past : nodes ≤ length seen → length (seen ++ path ∷ []) ≡ length seen + 1 → true ≡ nat_lt nodes (length (seen ++ path ∷ []))
    past p f = grind (arith, nat_tests)

-- a walk that has met its fill stays as it is
pub full : (terms : Terms) (seeds seen added : List (List ℕ)) (nodes left : ℕ) (more : Bool) (best : List ℕ) (low : ℤ) → IsWalked terms seeds nodes seen left more best low → more ≡ true → IsWalked terms seeds nodes (seen ++ added) left more best low
full terms seeds seen added nodes left more best low walked is =
    let over : nodes < length seen = past (sym walked.more_is ∙ is) in
    record {
      left_is = count over walked.left_is (length-append seen added);
      more_is = walked.more_is ∙ still over (length-append seen added);
      chosen = subst (λ t. IsChosen terms (seeds ++ filter (is_whole terms) t) best) (sym (take-append-le nodes seen added (omega arith))) walked.chosen;
      low_is = walked.low_is;
    }
  where
    past : nat_lt nodes (length seen) ≡ true → nodes < length seen
    past e = grind (arith, nat_tests)

    count : nodes < length seen → left ≡ nodes - length seen → length (seen ++ added) ≡ length seen + length added → left ≡ nodes - length (seen ++ added)
    count o e f = omega arith

    still : nodes < length seen → length (seen ++ added) ≡ length seen + length added → nat_lt nodes (length seen) ≡ nat_lt nodes (length (seen ++ added))
    still o f = grind (arith, nat_tests)

-- ---- one after another

pub takes_none : (terms : Terms) (walk : Walk) → Takes terms [] walk walk
takes_none terms walk seeds seen nodes walked = subst (λ xs. IsWalked terms seeds nodes xs walk.left walk.more walk.best.items walk.low) (sym (append-nil seen)) walked

-- nothing is taken at a prefix that is not live
pub leaves_dead : (terms : Terms) (seed : ℤ) (prefix : List ℕ) (to_go : ℕ) (walk : Walk) → terms.live prefix ≡ false → Leaves terms seed prefix to_go walk walk
leaves_dead terms seed prefix to_go walk dead behind none =
    subst (λ xs. Takes terms xs walk walk) (sym (ap (λ b. if b then prefix ∷ (if reaches terms seed prefix then behind else []) else []) dead)) (takes_none terms walk)

pub takes_both : (terms : Terms) (xs ys : List (List ℕ)) (a b c : Walk) → Takes terms xs a b → Takes terms ys b c → Takes terms (xs ++ ys) a c
takes_both terms xs ys a b c p q seeds seen nodes walked = subst (λ zs. IsWalked terms seeds nodes zs c.left c.more c.best.items c.low) (append_assoc seen xs ys) (q seeds (seen ++ xs) nodes (p seeds seen nodes walked))

numbers_more : (from count : ℕ) → numbers from (suc count) ≡ numbers from count ++ (from + count) ∷ []
numbers_more from zero = let e : from ≡ from + 0 = omega arith in ap (λ n. n ∷ []) e
numbers_more from (suc count) = let e : suc from + count ≡ from + suc count = omega arith in ap (λ t. from ∷ t) (numbers_more (suc from) count ∙ ap (λ n. numbers (suc from) count ++ n ∷ []) e)

-- what is taken below a rung, and at it
pub rung_more : (f : ℕ → List (List ℕ)) (below : ℕ) → flat_map f (numbers 1 (below + 1)) ≡ flat_map f (numbers 1 below) ++ f (below + 1)
rung_more f below =
    ap (λ n. flat_map f (numbers 1 n)) (add-one below)
    ∙ (ap (flat_map f) (numbers_more 1 below)
    ∙ (flat_map-append f (numbers 1 below) ((1 + below) ∷ [])
    ∙ ap (λ t. flat_map f (numbers 1 below) ++ t) (append-nil (f (1 + below)) ∙ ap f swap)))
  where
    swap : 1 + below ≡ below + 1
    swap = omega arith

pub entered_open : (terms : Terms) (seed : ℤ) (prefix : List ℕ) (behind : List (List ℕ)) → IsTrue (terms.live prefix) → IsTrue (reaches terms seed prefix) → entered terms seed prefix behind ≡ (prefix ∷ []) ++ behind
entered_open terms seed prefix behind live reached =
    ap₂ (λ a b. if a then prefix ∷ (if b then behind else []) else []) live reached

-- weeks to go
pub under_weeks : (terms : Terms) (seed : ℤ) (prefix : List ℕ) (weeks rest : ℕ) → weeks ≡ rest + 1 → under terms seed prefix weeks ≡ flat_map (λ rung. entered terms seed (prefix ++ rung ∷ []) (under terms seed (prefix ++ rung ∷ []) rest)) (numbers 1 terms.rungs)
under_weeks terms seed prefix weeks rest e = ap (under terms seed prefix) (e ∙ add-one rest)

pub entered_shut : (terms : Terms) (seed : ℤ) (prefix : List ℕ) (behind : List (List ℕ)) → IsTrue (terms.live prefix) → reaches terms seed prefix ≡ false → entered terms seed prefix behind ≡ prefix ∷ []
entered_shut terms seed prefix behind live not_reached = ap₂ (λ a b. if a then prefix ∷ (if b then behind else []) else []) live not_reached

pub under_none : (terms : Terms) (seed : ℤ) (prefix : List ℕ) (weeks : ℕ) → weeks ≡ 0 → under terms seed prefix weeks ≡ []
under_none terms seed prefix weeks e = ap (under terms seed prefix) e

pub takes_more : (terms : Terms) (f : ℕ → List (List ℕ)) (below : ℕ) (a b c : Walk) → Takes terms (flat_map f (numbers 1 below)) a b → Takes terms (f (below + 1)) b c → Takes terms (flat_map f (numbers 1 (below + 1))) a c
takes_more terms f below a b c p q = subst (λ xs. Takes terms xs a c) (sym (rung_more f below)) (takes_both terms (flat_map f (numbers 1 below)) (f (below + 1)) a b c p q)

take_of_take : {X : Type 0} (n : ℕ) (xs : List X) → take n (take (suc n) xs) ≡ take n xs
take_of_take zero xs = refl
take_of_take (suc n) [] = refl
take_of_take (suc n) (x ∷ xs) = ap (λ t. x ∷ t) (take_of_take n xs)

pub take_within : {X : Type 0} (n : ℕ) (xs ys : List X) → take (n + 1) xs ≡ take (n + 1) ys → take n xs ≡ take n ys
take_within {X = X} n xs ys e = sym (shorter xs) ∙ (ap (take n) e ∙ shorter ys)
  where
    shorter : (zs : List X) → take n (take (n + 1) zs) ≡ take n zs
    shorter zs = ap (λ k. take n (take k zs)) (add-one n) ∙ take_of_take n zs

-- ---- the beginning and the end

pub begins : (terms : Terms) (seeds : List (List ℕ)) (nodes : ℕ) (first : List ℕ) (seed : ℤ) → IsChosen terms seeds first → seed ≡ terms.low first → IsWalked terms seeds nodes [] nodes false first seed
begins terms seeds nodes first seed chosen is = record {
  left_is = whole nodes;
  more_is = none nodes;
  chosen = subst (λ cs. IsChosen terms cs first) (sym (append-nil seeds) ∙ ap (λ xs. seeds ++ filter (is_whole terms) xs) (sym (take_all nodes [] (least nodes)))) chosen;
  low_is = is;
}
  where
    whole : (n : ℕ) → n ≡ n - 0
    whole n = omega arith

    none : (n : ℕ) → false ≡ nat_lt n 0
    none n = grind (arith, nat_tests)

    least : (n : ℕ) → 0 ≤ n
    least n = omega arith

pub ends_searched : (terms : Terms) (seeds : List (List ℕ)) (nodes left : ℕ) (more : Bool) (best : List ℕ) (low seed : ℤ) → IsWalked terms seeds nodes (tight terms seed) left more best low → IsSearched terms seed seeds nodes best low (not more)
ends_searched terms seeds nodes left more best low seed walked = record {
  chosen = walked.chosen;
  low_is = walked.low_is;
  best_is = counts more nodes (length (tight terms seed)) walked.more_is;
}
  where
    forth : (n k : ℕ) → not (nat_lt n k) ≡ true → k ≤ n
    forth n k h = grind (arith, nat_tests)

    back : (n k : ℕ) → k ≤ n → not (nat_lt n k) ≡ true
    back n k h = grind (arith, nat_tests)

    counts : (b : Bool) (n k : ℕ) → b ≡ nat_lt n k → IsTrue (not b) ↔ (k ≤ n)
    counts b n k e = subst (λ c. IsTrue (not c) ↔ (k ≤ n)) (sym e) (forth n k, back n k)

-- nothing lies behind a whole prefix
pub entered_whole : (terms : Terms) (seed : ℤ) (prefix : List ℕ) (behind : List (List ℕ)) → IsTrue (terms.live prefix) → behind ≡ [] → entered terms seed prefix behind ≡ prefix ∷ []
entered_whole terms seed prefix behind live none = ap (λ xs. entered terms seed prefix xs) none ∙ either (reaches terms seed prefix)
  where
    either : (reached : Bool) → (if terms.live prefix then prefix ∷ (if reached then [] else []) else []) ≡ prefix ∷ []
    either true = ap (λ b. if b then prefix ∷ [] else []) live
    either false = ap (λ b. if b then prefix ∷ [] else []) live
