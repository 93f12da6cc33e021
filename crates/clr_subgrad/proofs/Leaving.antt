-- Where the masses of a summary go.
use Rattle.std.proofs.Common.{◌≡◌, ℕ, zero, suc, ◌+◌, ◌≤◌, Bool, true, false, cond, ◌&&◌, ◌==◌, ◌*◌, ◌/◌, refl, [], ◌∷◌, add_assoc, zero-mul, sym, ap, ◌∙◌, subst, arith, List, Some, take, length, get_or, sum}
use Rattle.std.proofs.lemmas.Bool.{and_parts}
use Rattle.std.proofs.lemmas.List.Sums.{sum_by_more, sum_by-cons}
use Rattle.std.specs.List.{sum_by}
use Rattle.clr_num.specs.Lists.{numbers}
use Rattle.clr_rules.specs.declared.season_rules.Summary.{Summary}
use Rattle.clr_rules.specs.LiveSummaries.{IsIn, at_week, is_live_summary, leads_at, live_pairs}
use Rattle.clr_rules.specs.Rules.{IsRulebook, Rulebook, is_live, may_follow, next_if_kept, next_summary, summary}
use Rattle.clr_rules.proofs.LiveLaw.{live_pairs_lem}
use Rattle.clr_rules.proofs.LiveLists.{live-prefix}
use Rattle.clr_rules.proofs.Sweeps.{kept_some}
use Rattle.clr_rules.specs.LiveSummaries.{same_summary}
use Rattle.clr_season.specs.Season.{Season, demands, weight}
use Rattle.clr_model.specs.Revenue.{left}
use Rattle.clr_mult.specs.Tables.{Table, usage_at}
use Rattle.clr_subgrad.specs.Masses.{CameIn, IsUsed, arriving}
use Rattle.clr_subgrad.proofs.Spreads.{sum_last}
use Rattle.clr_subgrad.proofs.Using.{sizes_both, within_as}

-- the summary after a rung that leads on is live
pub next_in : (rules : Rulebook) (done : ℕ) (s next : Summary) (rung : ℕ) (pairs : List (ℕ × Summary)) → IsRulebook rules → suc done ≤ rules.weeks → pairs ≡ live_pairs rules → leads_at rules done s rung ≡ true → Some next ≡ next_if_kept rules done s rung →
    IsIn (at_week (suc done) pairs) next
next_in rules done s next rung pairs book early is leads kept =
    let live : is_live_summary rules (suc done) (next_summary rules s rung) ≡ true = (and_parts (may_follow rules done s rung) (is_live_summary rules (suc done) (next_summary rules s rung)) leads).1 in
    let same : next ≡ next_summary rules s rung = (kept_some rules done s next rung kept).1 in
    subst (λ (ps : List (ℕ × Summary)). IsIn (at_week (suc done) ps) next) (sym is)
    (subst (IsIn (at_week (suc done) (live_pairs rules))) (sym same) (((live_pairs_lem rules book).pairs (suc done) (next_summary rules s rung)).1 (early, live-prefix rules (suc done) (next_summary rules s rung) live)))

pub some_part : (b : Bool) (n : ℕ) → cond b n 0 ≤ n
some_part true n = omega arith
some_part false n = omega arith

-- the masses of one choice are some of the masses
pub chosen_fits : (masses : List ℕ) (test : ℕ → Bool) (count : ℕ) → count ≤ length masses → sum_by (λ x. cond (test x) (get_or masses x 0) 0) (numbers 0 count) ≤ sum (take count masses)
chosen_fits masses test zero h = omega arith
chosen_fits masses test (suc count) h =
    let e : count + 1 ≡ suc count = omega arith in
    let before : sum_by (λ x. cond (test x) (get_or masses x 0) 0) (numbers 0 count) ≤ sum (take count masses) = chosen_fits masses test count (omega arith) in
    subst (λ n. sum_by (λ x. cond (test x) (get_or masses x 0) 0) (numbers 0 n) ≤ sum (take n masses)) e
    (subst (λ n. n ≤ sum (take (count + 1) masses)) (sym (sum_last (λ x. cond (test x) (get_or masses x 0) 0) count))
    (subst (λ n. sum_by (λ x. cond (test x) (get_or masses x 0) 0) (numbers 0 count) + cond (test count) (get_or masses count 0) 0 ≤ n) (sym (sum_by_more (λ x. x) masses count 0 (omega arith)))
    (omega (arith, before, some_part (test count) (get_or masses count 0)))))

-- ---- one mass more

pub came_both : (width : ℕ) (list : List Summary) (f g h : Summary → ℕ → ℕ) (before now after : List ℕ) → ((t : Summary) (rest : ℕ) → h t rest ≡ f t rest + g t rest) → CameIn width list f before now → CameIn width list g now after → CameIn width list h before after
came_both width list f g h before now after e a b = λ place stock s at lt.
    b place stock s at lt
    ∙ (ap (λ n. n + g s stock) (a place stock s at lt) ∙ (add_assoc (get_or before (place * width + stock) 0) (f s stock) (g s stock) ∙ ap (λ n. get_or before (place * width + stock) 0 + n) (sym (e s stock))))

pub came_same : (width : ℕ) (list : List Summary) (f h : Summary → ℕ → ℕ) (before after : List ℕ) → ((t : Summary) (rest : ℕ) → h t rest ≡ f t rest) → CameIn width list f before after → CameIn width list h before after
came_same width list f h before after e a = λ place stock s at lt. a place stock s at lt ∙ ap (λ n. get_or before (place * width + stock) 0 + n) (sym (e s stock))

pub used_both : (store week : ℕ) (f g h : ℕ → ℕ) (before now after : Table ℕ) → ((r : ℕ) → h r ≡ f r + g r) → IsUsed store week f before now → IsUsed store week g now after → IsUsed store week h before after
used_both store week f g h before now after e a b = record {
  sizes = sizes_both after now before b.sizes a.sizes;
  count = b.count ∙ a.count;
  entries = λ s w r within.
      b.entries s w r (within_as now before s w r a.sizes within)
      ∙ (ap (λ n. n + cond ((s == store) && (w == week)) (g r) 0) (a.entries s w r within)
      ∙ (add_assoc (usage_at before s w r) (cond ((s == store) && (w == week)) (f r) 0) (cond ((s == store) && (w == week)) (g r) 0)
      ∙ ap (λ n. usage_at before s w r + n) (joined ((s == store) && (w == week)) r)));
}
  where
    joined : (b : Bool) (r : ℕ) → cond b (f r) 0 + cond b (g r) 0 ≡ cond b (h r) 0
    joined true r = sym (e r)
    joined false r = refl

pub used_same : (store week : ℕ) (f h : ℕ → ℕ) (before after : Table ℕ) → ((r : ℕ) → h r ≡ f r) → IsUsed store week f before after → IsUsed store week h before after
used_same store week f h before after e a = record {
  sizes = a.sizes;
  count = a.count;
  entries = λ s w r within. a.entries s w r within ∙ ap (λ n. usage_at before s w r + cond ((s == store) && (w == week)) n 0) (sym (e r));
}

-- a mass of zero
pub sum_zero : {X : Type 0} (f : X → ℕ) (xs : List X) → ((x : X) → f x ≡ 0) → sum_by f xs ≡ 0
sum_zero f [] h = refl
sum_zero f (x ∷ xs) h = let rest : sum_by f xs ≡ 0 = sum_zero f xs h in let here : f x ≡ 0 = h x in omega (arith, sum_by-cons f x xs, rest, here)

none_shared : (base : ℕ) → 0 / base ≡ 0
none_shared base = omega arith

pub arriving_none : (season : Season) (store done : ℕ) (s : Summary) (stock rung mass : ℕ) (t : Summary) (rest : ℕ) → mass ≡ 0 → arriving season store done s stock rung mass t rest ≡ 0
arriving_none season store done s stock rung mass t rest none =
    subst (λ n. arriving season store done s stock rung n t rest ≡ 0) (sym none)
    (sum_zero (λ demand. cond (same_summary t (next_summary season.rules s rung) && (rest == left stock demand)) (0 * weight season store (suc done) rung demand / season.base) 0) (demands season)
    (λ demand. by_test (same_summary t (next_summary season.rules s rung) && (rest == left stock demand)) (weight season store (suc done) rung demand)))
  where
    by_test : (b : Bool) (w : ℕ) → cond b (0 * w / season.base) 0 ≡ 0
    by_test true w = ap (λ n. n / season.base) (zero-mul w) ∙ none_shared season.base
    by_test false w = refl

pub plus_zero : (a b : ℕ) → b ≡ 0 → a + b ≡ a
plus_zero a b e = omega arith

pub chosen_none : (b : Bool) (n : ℕ) → n ≡ 0 → cond b n 0 ≡ 0
chosen_none true n e = e
chosen_none false n e = refl

-- the first summary is live where some path obeys
pub start_in : (rules : Rulebook) (pairs : List (ℕ × Summary)) → IsRulebook rules → pairs ≡ live_pairs rules → is_live rules [] ≡ true → IsIn (at_week 0 pairs) (summary rules [])
start_in rules pairs book is live =
    subst (λ (ps : List (ℕ × Summary)). IsIn (at_week 0 ps) (summary rules [])) (sym is) (((live_pairs_lem rules book).pairs 0 (summary rules [])).1 (omega arith, ([], refl, live, refl)))
