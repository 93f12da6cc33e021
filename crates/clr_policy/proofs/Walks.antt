-- The first breach of the branches of a policy, part by part.
use Rattle.std.proofs.Common.{◌≡◌, List, [], ◌∷◌, ◌++◌, ℕ, zero, suc, ◌+◌, ◌-◌, ◌<◌, ◌≤◌, min, length, map, take, drop, refl, sym, ap, ◌∙◌, subst, arith, Bool, true, false, Option, Some, None, Result, Ok, Err, not, append_assoc, append-nil, length-append}
use Rattle.std.specs.Prelude.{◌&&◌, nat_le, if◌then◌else◌}
use Rattle.std.specs.Option.{option_map_or}
use Rattle.std.proofs.lemmas.Bool.{and_parts}
use Rattle.std.proofs.lemmas.List.{length-map, map-append, take-append-drop, take-append-le}
use Rattle.std.proofs.Math.Seq.{take-append-add}
use Rattle.clr_num.specs.Lists.{numbers}
use Rattle.clr_rules.specs.Rules.{Rulebook, first_broken, keeps_rules, keeps_rise, keeps_window, keeps_frozen, keeps_number, keeps_spacing, keeps_first_cut, are_rungs, HasSummary, IsRulebook, IsInRange, summary, breaks_first, next_summary, next_if_kept, may_follow}
use Rattle.clr_rules.specs.declared.season_rules.Rule.{Rule}
use Rattle.clr_rules.specs.declared.season_rules.Rule.TheVariants.{Rise, Window, Frozen, Number, Spacing, FirstCut}
use Rattle.clr_rules.specs.declared.season_rules.Summary.{Summary}
use Rattle.clr_rules.proofs.SummaryLemmas.{keeps-prefix, keeps-more, summary-more}
use Rattle.clr_rules.proofs.LiveLists.{in_range, reached-by, empty-keeps}
use Rattle.clr_rules.proofs.Sweeps.{kept_some, kept_none}
use Rattle.clr_rules.proofs.Breach.{unbroken}
use Rattle.clr_rules.proofs.WeekTests.{length_more}
use Rattle.clr_policy.specs.Written.{Written, choose, branches, IsPolicyFor}
use Rattle.clr_season.specs.Season.{Season}
use Rattle.clr_policy.specs.PolicyFile.{branch_after, most_branches}
use Rattle.clr_policy.specs.Breaches.{first_found, breach, first_breach, behind, Finds}
use Rattle.clr_policy.specs.declared.branches.Breach.{Breach}
use Rattle.clr_policy.proofs.Parts.{some_branch}

-- ---- the first at which something is found

pub none_at : {X : Type 0} (find : ℕ → Option X) (from count : ℕ) → ((n : ℕ) → from ≤ n → n < from + count → find n ≡ None) → first_found find (numbers from count) ≡ None
none_at find from zero none = refl
none_at find from (suc count) none = rw (none from (omega arith) (omega arith)) (none_at find (suc from) count (λ n p q. none n (omega arith) (omega arith)))

pub found_at : {X : Type 0} (find : ℕ → Option X) (from before more : ℕ) (x : X) → ((n : ℕ) → from ≤ n → n < from + before → find n ≡ None) → find (from + before) ≡ Some x → first_found find (numbers from (before + suc more)) ≡ Some x
found_at find from zero more x none here =
    let count : 0 + suc more ≡ suc more = omega arith in
    let at : from + 0 ≡ from = omega arith in
    rw (count, subst (λ n. find n ≡ Some x) at here) refl
found_at find from (suc before) more x none here =
    let count : suc before + suc more ≡ suc (before + suc more) = omega arith in
    let at : from + suc before ≡ suc from + before = omega arith in
    rw (count, none from (omega arith) (omega arith)) (found_at find (suc from) before more x (λ n p q. none n (omega arith) (omega arith)) (subst (λ n. find n ≡ Some x) at here))

pub all_none : {X : Type 0} (find : ℕ → Option X) (from count n : ℕ) → first_found find (numbers from count) ≡ None → from ≤ n → n < from + count → find n ≡ None
all_none find from zero n none low high = absurd (off low high)
  where
    off : from ≤ n → n < from + 0 → ⊥
    off p q = omega arith
all_none {X = X} find from (suc count) n none low high = by_first (find from) refl (nat_le n from) refl none (λ e more. all_none find (suc from) count n e more (omega (arith, high)))
  where
    by_first : (o : Option X) → find from ≡ o → (b : Bool) → nat_le n from ≡ b → option_map_or (λ x. Some x) o (first_found find (numbers (suc from) count)) ≡ None →
        (first_found find (numbers (suc from) count) ≡ None → suc from ≤ n → find n ≡ None) → find n ≡ None
    by_first (Some x) is b at e later = cc e
    by_first None is true at e later = let same : from ≡ n = grind (arith, at, low) in subst (λ k. find k ≡ None) same is
    by_first None is false at e later = let more : suc from ≤ n = grind (arith, at) in later e more

-- ---- what a prefix that keeps the rules breaks

kept-none : (a b c d e f : Bool) → (a && (b && (c && (d && (e && f))))) ≡ true →
    (if not a then Some Rise else (if not b then Some Window else (if not c then Some Frozen else (if not d then Some Number else (if not e then Some Spacing else (if not f then Some FirstCut else None)))))) ≡ None
kept-none true true true true true true h = refl
kept-none true true true true true false h = cc h
kept-none true true true true false f h = cc h
kept-none true true true false e f h = cc h
kept-none true true false d e f h = cc h
kept-none true false c d e f h = cc h
kept-none false b c d e f h = cc h

none-kept : (a b c d e f : Bool) →
    (if not a then Some Rise else (if not b then Some Window else (if not c then Some Frozen else (if not d then Some Number else (if not e then Some Spacing else (if not f then Some FirstCut else None)))))) ≡ None →
    (a && (b && (c && (d && (e && f))))) ≡ true
none-kept true true true true true true h = refl
none-kept true true true true true false h = cc h
none-kept true true true true false f h = cc h
none-kept true true true false e f h = cc h
none-kept true true false d e f h = cc h
none-kept true false c d e f h = cc h
none-kept false b c d e f h = cc h

keeps-unbroken : (rules : Rulebook) (path : List ℕ) → keeps_rules rules path ≡ true → first_broken rules path ≡ None
keeps-unbroken rules path keeps =
    kept-none (keeps_rise path) (keeps_window rules path) (keeps_frozen rules path) (keeps_number rules path) (keeps_spacing rules path) (keeps_first_cut rules path)
    (and_parts (are_rungs rules path) (keeps_rise path && (keeps_window rules path && (keeps_frozen rules path && (keeps_number rules path && (keeps_spacing rules path && keeps_first_cut rules path))))) keeps).1

take-keeps : (rules : Rulebook) (path : List ℕ) (n : ℕ) → keeps_rules rules path ≡ true → first_broken rules (take n path) ≡ None
take-keeps rules path n keeps = keeps-unbroken rules (take n path) (keeps-prefix rules (take n path) (drop n path) (ap (keeps_rules rules) (take-append-drop n path) ∙ keeps))

pub keeps-no_breach : (rules : Rulebook) (path : List ℕ) → keeps_rules rules path ≡ true → breach rules path ≡ None
keeps-no_breach rules path keeps = none_at (λ week. first_broken rules (take week path)) 1 (length path) (λ n p q. take-keeps rules path n keeps)

-- a list of rungs of which no week breaks a rule keeps the rules
pub no_breach-keeps : (rules : Rulebook) (path : List ℕ) → are_rungs rules path ≡ true → breach rules path ≡ None → keeps_rules rules path ≡ true
no_breach-keeps rules [] rungs none = empty-keeps rules
no_breach-keeps rules (first ∷ rest) rungs none =
    let path : List ℕ = first ∷ rest in
    let last : first_broken rules (take (length path) path) ≡ None = all_none (λ week. first_broken rules (take week path)) 1 (length path) (length path) none (omega arith) (omega arith) in
    let whole : take (length path) path ≡ path = take-all path in
    rw rungs
    (none-kept (keeps_rise path) (keeps_window rules path) (keeps_frozen rules path) (keeps_number rules path) (keeps_spacing rules path) (keeps_first_cut rules path)
    (subst (λ list. first_broken rules list ≡ None) whole last))
  where
    take-all : (xs : List ℕ) → take (length xs) xs ≡ xs
    take-all [] = refl
    take-all (x ∷ xs) = ap (λ t. x ∷ t) (take-all xs)

-- ---- the branches of a part

-- a breach right behind a prefix that keeps the rules is that of each branch that goes on so
breach-here : (rules : Rulebook) (prefix rest : List ℕ) (rung : ℕ) (rule : Rule) → keeps_rules rules prefix ≡ true → first_broken rules (prefix ++ rung ∷ []) ≡ Some rule → breach rules (prefix ++ rung ∷ rest) ≡ Some rule
breach-here rules prefix rest rung rule keeps here =
    let long : length (prefix ++ rung ∷ rest) ≡ length prefix + suc (length rest) = length-append prefix (rung ∷ rest) in
    let next : take (1 + length prefix) (prefix ++ rung ∷ rest) ≡ prefix ++ rung ∷ [] = let order : 1 + length prefix ≡ length prefix + 1 = omega arith in rw order (take-append-add prefix (rung ∷ rest) 1) in
    rw long
    (found_at (λ week. first_broken rules (take week (prefix ++ rung ∷ rest))) 1 (length prefix) (length rest) rule
    (λ n p q. ap (first_broken rules) (take-append-le n prefix (rung ∷ rest) (omega arith)) ∙ take-keeps rules prefix n keeps)
    (ap (first_broken rules) next ∙ here))

behind-rung : (prefix : List ℕ) (rung : ℕ) (paths : List (List ℕ)) → behind prefix (map (λ rest. rung ∷ rest) paths) ≡ behind (prefix ++ rung ∷ []) paths
behind-rung prefix rung [] = refl
behind-rung prefix rung (path ∷ paths) = rw (append_assoc prefix (rung ∷ []) path) (ap (λ t. (prefix ++ rung ∷ path) ∷ t) (behind-rung prefix rung paths))

first_breach-append : (rules : Rulebook) (ended : ℕ) (xs ys : List (List ℕ)) → first_breach rules ended (xs ++ ys) ≡ option_map_or (λ b. Some b) (first_breach rules ended xs) (first_breach rules (ended + length xs) ys)
first_breach-append rules ended [] ys = let none : ended + 0 ≡ ended = omega arith in rw none refl
first_breach-append rules ended (x ∷ xs) ys = by_first (breach rules x) (first_breach-append rules (ended + 1) xs ys)
  where
    more : ended + suc (length xs) ≡ (ended + 1) + length xs
    more = omega arith

    by_first : (o : Option Rule) → first_breach rules (ended + 1) (xs ++ ys) ≡ option_map_or (λ b. Some b) (first_breach rules (ended + 1) xs) (first_breach rules ((ended + 1) + length xs) ys) →
        option_map_or (λ rule. Some (record { branch = branch_after ended; rule = rule })) o (first_breach rules (ended + 1) (xs ++ ys)) ≡ option_map_or (λ b. Some b) (option_map_or (λ rule. Some (record { branch = branch_after ended; rule = rule })) o (first_breach rules (ended + 1) xs)) (first_breach rules (ended + suc (length xs)) ys)
    by_first (Some rule) rest = refl
    by_first None rest = rest ∙ ap (λ n. option_map_or (λ b. Some b) (first_breach rules (ended + 1) xs) (first_breach rules n ys)) (sym more)

-- ---- the walk

pub range_of : (rules : Rulebook) (done : ℕ) (s : Summary) (prefix : List ℕ) → IsRulebook rules → done ≤ rules.weeks → HasSummary rules done s prefix → IsInRange rules s
range_of rules done s prefix book early has = in_range rules done s book early (reached-by rules done s prefix has)

pub longer : (rules : Rulebook) (done : ℕ) (s after : Summary) (rung : ℕ) (prefix : List ℕ) → HasSummary rules done s prefix → Some after ≡ next_if_kept rules done s rung → HasSummary rules (suc done) after (prefix ++ rung ∷ [])
longer rules done s after rung prefix has is =
    let (kept, next) = kept_some rules done s after rung is in
    record {
      weeks = length_more prefix rung ∙ ap suc has.weeks;
      keeps = keeps-more rules prefix rung ∙ rw has.keeps (subst (λ t. may_follow rules (length prefix) t rung ≡ true) (sym has.same) (subst (λ n. may_follow rules n s rung ≡ true) (sym has.weeks) kept));
      same = summary-more rules prefix rung ∙ (ap (λ t. next_summary rules t rung) has.same ∙ sym next);
    }

pub some_next : (rules : Rulebook) (done : ℕ) (s : Summary) (rung : ℕ) → 1 ≤ rung → rung ≤ length rules.prices → None ≡ breaks_first rules done s rung → None ≡ next_if_kept rules done s rung → ⊥
some_next rules done s rung low high none no_next =
    let clash : true ≡ false = sym (unbroken rules done s rung low high (sym none)) ∙ kept_none rules done s rung no_next in
    cc clash

pub left_after : (season : Season) (done left : ℕ) (after : Written) → season.rules.weeks - done ≡ suc left → IsPolicyFor season left after → IsPolicyFor season (season.rules.weeks - (done + 1)) after
left_after season done left after is policy = let e : left ≡ season.rules.weeks - (done + 1) = omega (arith, is) in subst (λ n. IsPolicyFor season n after) e policy

-- what the parts find, put together

pub ends : (rules : Rulebook) (prefix : List ℕ) (count ended now : ℕ) → keeps_rules rules prefix ≡ true → min count most_branches ≡ ended → now ≡ min (ended + 1) most_branches → Finds rules count (behind prefix ([] ∷ [])) (Ok now)
ends rules prefix count ended now keeps held is =
    (rw (keeps-no_breach rules (prefix ++ []) (ap (keeps_rules rules) (append-nil prefix) ∙ keeps)) refl, grind (arith, is, held))

pub goes_on : (rules : Rulebook) (prefix : List ℕ) (rung count : ℕ) (paths : List (List ℕ)) (result : Result ℕ Breach) → Finds rules count (behind (prefix ++ rung ∷ []) paths) result → Finds rules count (behind prefix (map (λ rest. rung ∷ rest) paths)) result
goes_on rules prefix rung count paths result is = rw (behind-rung prefix rung paths) is

pub breaks : (rules : Rulebook) (prefix : List ℕ) (rung count ended branch : ℕ) (after : Written) (rule : Rule) → keeps_rules rules prefix ≡ true → first_broken rules (prefix ++ rung ∷ []) ≡ Some rule →
    min count most_branches ≡ ended → branch ≡ min (ended + 1) most_branches → first_breach rules count (behind prefix (branches (choose rung after))) ≡ Some (record { branch = branch; rule = rule })
breaks rules prefix rung count ended branch after rule keeps here held is =
    let (first, rest, e) = some_branch after in
    let number : branch_after count ≡ branch = grind (arith, is, held) in
    rw (e, breach-here rules prefix first rung rule keeps here, number) refl

pub first_of_two : (rules : Rulebook) (prefix : List ℕ) (count : ℕ) (below above : Written) (breach : Breach) → first_breach rules count (behind prefix (branches below)) ≡ Some breach →
    first_breach rules count (behind prefix (branches below ++ branches above)) ≡ Some breach
first_of_two rules prefix count below above breach is =
    rw (map-append (λ rest. prefix ++ rest) (branches below) (branches above), first_breach-append rules count (behind prefix (branches below)) (behind prefix (branches above)), is) refl

pub second_of_two : (rules : Rulebook) (prefix : List ℕ) (count : ℕ) (below above : Written) (result : Result ℕ Breach) → first_breach rules count (behind prefix (branches below)) ≡ None →
    Finds rules (count + length (branches below)) (behind prefix (branches above)) result → Finds rules count (behind prefix (branches below ++ branches above)) result
second_of_two rules prefix count below above (Ok now) none is =
    let size : length (behind prefix (branches below)) ≡ length (branches below) = length-map (branches below) (λ rest. prefix ++ rest) in
    let whole : length (behind prefix (branches below ++ branches above)) ≡ length (branches below) + length (behind prefix (branches above)) =
    ap length (map-append (λ rest. prefix ++ rest) (branches below) (branches above)) ∙ (length-append (behind prefix (branches below)) (behind prefix (branches above)) ∙ ap (λ n. n + length (behind prefix (branches above))) size) in
    let more : count + (length (branches below) + length (behind prefix (branches above))) ≡ (count + length (branches below)) + length (behind prefix (branches above)) = omega arith in (
      rw (map-append (λ rest. prefix ++ rest) (branches below) (branches above), first_breach-append rules count (behind prefix (branches below)) (behind prefix (branches above)), none, size) is.0,
      rw (whole, more) is.1,
    )
second_of_two rules prefix count below above (Err breach) none is =
    let size : length (behind prefix (branches below)) ≡ length (branches below) = length-map (branches below) (λ rest. prefix ++ rest) in
    rw (map-append (λ rest. prefix ++ rest) (branches below) (branches above), first_breach-append rules count (behind prefix (branches below)) (behind prefix (branches above)), none, size) is

pub ended_is : (prefix : List ℕ) (count later : ℕ) (paths : List (List ℕ)) → later ≡ min (count + length (behind prefix paths)) most_branches → min (count + length paths) most_branches ≡ later
ended_is prefix count later paths is = sym (is ∙ ap (λ n. min (count + n) most_branches) (length-map paths (λ rest. prefix ++ rest)))

-- ---- the whole policy

pub has_none : (rules : Rulebook) (s : Summary) → s ≡ summary rules [] → HasSummary rules 0 s []
has_none rules s is = record { weeks = refl; keeps = empty-keeps rules; same = sym is }

pub behind-none : (paths : List (List ℕ)) → behind [] paths ≡ paths
behind-none [] = refl
behind-none (path ∷ paths) = ap (λ t. path ∷ t) (behind-none paths)
