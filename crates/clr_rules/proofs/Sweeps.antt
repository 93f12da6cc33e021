-- The two sweeps: flags that a week sets for the next, and the summaries that lead to a live one.
use Rattle.std.proofs.Common.{IsTrue, ◌≡◌, ◌↔◌, ℕ, ◌+◌, ◌*◌, ◌<◌, ◌≤◌, Bool, true, false, cond, ◌&&◌, ◌||◌, refl, sym, ap, ap₂, ◌∙◌, subst, arith, suc, zero, List, [], ◌∷◌, ◌++◌, length, map, get_or, set, take, drop, replicate, append-nil, le_refl, nat_lt, ◌⊎◌, inl, inr, Some, None, slice_get, lt-ltb, le-ltb}
use Rattle.std.specs.List.{list_any, filter}
use Rattle.std.proofs.lemmas.List.{get_or-set_same, get_or-set_other, get_or-map, get_or-replicate, same_lists, get_or_default, take_more, take_all, length-map, length-replicate, length-set, length_push, get_or_push, get_or_append_left, drop_all, ext_get_or}
use Rattle.std.proofs.lemmas.Option.{slice_get_within, slice_get-get_or}
use Rattle.std.proofs.lemmas.Bool.{and_parts, and_from, cases_eq, false_from_ne_true}
use Rattle.std.proofs.lemmas.List.Folds.{list_any-append}
use mathlib.Core.Bool.{and-true, and-false, or-true, or-false}
use mathlib.Core.Path.{fun_ext}
use Rattle.clr_rules.specs.declared.season_rules.Summary.{Summary}
use Rattle.clr_num.specs.Lists.{numbers}
use Rattle.clr_rules.specs.Rules.{Rulebook, rungs, most_markdowns, IsRulebook, IsInRange, may_follow, next_summary, next_if_kept, summary}
use Rattle.clr_rules.specs.LiveSummaries.{all_summaries, summaries, same_summary, is_live_summary, live_summaries, is_reached, reached_summaries, leads_to, leads_at, leads_on, IsHeld, IsIn, IsGridOf, place_in, picked}
use Rattle.clr_rules.proofs.ListTests.{any-at, any-witness, none_any}
use Rattle.clr_rules.proofs.GridLemmas.{length-all, get-place, of_place, length-numbers, get_or-mapped, map-numbers_more}
use Rattle.clr_rules.proofs.FlagLemmas.{picked-map}
use Rattle.clr_rules.proofs.LiveLists.{same_is, same_self, bool_ext, reached_more, reached_back, reached-by, live-reached, in_rungs, earlier_week, last_week, empty-keeps, in_range, held, ranged, reached-witness}

abbrev pub place_of : Rulebook → Summary → ℕ
place_of rules s = place_in (suc (most_markdowns rules)) rules.spacing s

pub get-place_of : (rules : Rulebook) (s : Summary) → IsInRange rules s → slice_get (summaries rules) (place_of rules s) ≡ Some s
get-place_of rules s h = get-place (length rules.prices) (suc (most_markdowns rules)) rules.spacing s (held rules s h)

-- a summary stands at its place alone
pub one_place : (rules : Rulebook) (i : ℕ) (t : Summary) → slice_get (summaries rules) i ≡ Some t → IsInRange rules t × (i ≡ place_of rules t)
one_place rules i t h =
    let low : i < length (summaries rules) = slice_get_within (summaries rules) i t h in
    let (s, is_held, is) = of_place (length rules.prices) (suc (most_markdowns rules)) rules.spacing i (subst (λ n. i < n) (length-all (length rules.prices) (suc (most_markdowns rules)) rules.spacing) low) in
    let there = get-place (length rules.prices) (suc (most_markdowns rules)) rules.spacing s is_held in
    let same : Some s ≡ Some t = sym there ∙ (ap (slice_get (summaries rules)) is ∙ h) in
    let equal : s ≡ t = cc in
    (subst (IsInRange rules) equal (ranged rules s is_held), sym is ∙ ap (place_of rules) equal)

-- ---- what a filter keeps

pub in_filter : (test : Summary → Bool) (list : List Summary) (k : ℕ) (s : Summary) → slice_get (filter test list) k ≡ Some s → (test s ≡ true) × IsIn list s
in_filter test [] k s h = cc
in_filter test (x ∷ list) k s h = go (test x) refl (λ j there. in_filter test list j s there) k h
  where
    go : (b : Bool) → test x ≡ b → ((j : ℕ) → slice_get (filter test list) j ≡ Some s → (test s ≡ true) × IsIn list s) →
        (k : ℕ) → slice_get (cond b (x ∷ filter test list) (filter test list)) k ≡ Some s → (test s ≡ true) × IsIn (x ∷ list) s
    go true e next zero h = let same : x ≡ s = cc in (ap test (sym same) ∙ e, (0, h))
    go true e next (suc k) h = let (good, (j, there)) = next k h in (good, (suc j, there))
    go false e next k h = let (good, (j, there)) = next k h in (good, (suc j, there))

pub filter_has : (test : Summary → Bool) (list : List Summary) (j : ℕ) (s : Summary) → slice_get list j ≡ Some s → test s ≡ true → IsIn (filter test list) s
filter_has test [] j s h good = cc
filter_has test (x ∷ list) zero s h good =
    let same : s ≡ x = cc in
    subst (λ b. IsIn (cond b (x ∷ filter test list) (filter test list)) s) (sym (ap test (sym same) ∙ good)) (0, h)
filter_has test (x ∷ list) (suc j) s h good = go (test x) (filter_has test list j s h good)
  where
    go : (b : Bool) → IsIn (filter test list) s → IsIn (cond b (x ∷ filter test list) (filter test list)) s
    go true (k, there) = (suc k, there)
    go false there = there

pub in_reached : (rules : Rulebook) (done : ℕ) (s : Summary) → IsIn (reached_summaries rules done) s → is_reached rules done s ≡ true
in_reached rules done s (k, h) = (in_filter (is_reached rules done) (summaries rules) k s h).0

-- ---- forward

-- so far: flags of the summaries to which a rung below this one leads, beside those that were set
abbrev pub AreMarked : Rulebook → ℕ → Summary → List Bool → ℕ → List Bool → Type 0
AreMarked rules done s before rung flags =
    (i : ℕ) (t : Summary) → slice_get (summaries rules) i ≡ Some t → get_or flags i false ≡ (get_or before i false || (leads_to rules done s t && nat_lt t.last rung))

pub none_marked : (rules : Rulebook) (done : ℕ) (s : Summary) (before : List Bool) → AreMarked rules done s before 1 before
none_marked rules done s before i t h =
    let range = (one_place rules i t h).0 in
    sym (ap (λ b. get_or before i false || (leads_to rules done s t && b)) (le-ltb t.last 1 range.low) ∙ (ap (λ b. get_or before i false || b) (and-false (leads_to rules done s t)) ∙ or-false (get_or before i false)))

pub all_marked : (rules : Rulebook) (done : ℕ) (s : Summary) (before flags : List Bool) (rung : ℕ) → AreMarked rules done s before rung flags → rung ≡ length rules.prices + 1 →
    (i : ℕ) (t : Summary) → slice_get (summaries rules) i ≡ Some t → get_or flags i false ≡ (get_or before i false || leads_to rules done s t)
all_marked rules done s before flags rung so_far end i t h =
    let range = (one_place rules i t h).0 in
    so_far i t h ∙ ap (λ b. get_or before i false || b) (ap (λ b. leads_to rules done s t && b) (lt-ltb t.last rung (below range.high)) ∙ and-true (leads_to rules done s t))
  where
    below : t.last ≤ length rules.prices → t.last < rung
    below p = omega arith

-- a summary with another last rung: the next rung changes nothing
other_rung : (leads : Bool) (last rung : ℕ) → (last ≡ rung → leads ≡ false) → (leads && nat_lt last rung) ≡ (leads && nat_lt last (rung + 1))
other_rung leads last rung h = go (cases_eq last rung)
  where
    go : (last ≡ rung) ⊎ (last ≡ rung → ⊥) → (leads && nat_lt last rung) ≡ (leads && nat_lt last (rung + 1))
    go (inl e) = ap (λ b. b && nat_lt last rung) (h e) ∙ sym (ap (λ b. b && nat_lt last (rung + 1)) (h e))
    go (inr n) = ap (λ b. leads && b) (same last rung n)
      where
        same : (a b : ℕ) → (a ≡ b → ⊥) → nat_lt a b ≡ nat_lt a (b + 1)
        same a b n = grind arith

pub rung_unkept : (rules : Rulebook) (done : ℕ) (s : Summary) (before flags : List Bool) (rung : ℕ) → AreMarked rules done s before rung flags → may_follow rules done s rung ≡ false → AreMarked rules done s before (rung + 1) flags
rung_unkept rules done s before flags rung so_far unkept i t h =
    so_far i t h ∙ ap (λ b. get_or before i false || b) (other_rung (leads_to rules done s t) t.last rung
    (λ e. ap (λ r. may_follow rules done s r && same_summary t (next_summary rules s r)) e ∙ ap (λ b. b && same_summary t (next_summary rules s rung)) unkept))

pub rung_kept : (rules : Rulebook) (done : ℕ) (s : Summary) (before flags : List Bool) (rung : ℕ) → AreMarked rules done s before rung flags → may_follow rules done s rung ≡ true →
    IsInRange rules (next_summary rules s rung) → place_of rules (next_summary rules s rung) < length flags → AreMarked rules done s before (rung + 1) (set flags (place_of rules (next_summary rules s rung)) true)
rung_kept rules done s before flags rung so_far kept range low i t h = go (cases_eq i (place_of rules (next_summary rules s rung)))
  where
    there : slice_get (summaries rules) (place_of rules (next_summary rules s rung)) ≡ Some (next_summary rules s rung)
    there = get-place_of rules (next_summary rules s rung) range

    below : (r : ℕ) → nat_lt r (r + 1) ≡ true
    below r = grind arith

    leads : (u : Summary) → u ≡ next_summary rules s rung → (leads_to rules done s u && nat_lt u.last (rung + 1)) ≡ true
    leads u e = ap (λ u. leads_to rules done s u && nat_lt u.last (rung + 1)) e
        ∙ and_from (leads_to rules done s (next_summary rules s rung)) (nat_lt rung (rung + 1))
        (and_from (may_follow rules done s rung) (same_summary (next_summary rules s rung) (next_summary rules s rung)) kept (same_self (next_summary rules s rung)))
        (below rung)

    not_there : (i ≡ place_of rules (next_summary rules s rung) → ⊥) → t.last ≡ rung → leads_to rules done s t ≡ false
    not_there n e = false_from_ne_true (leads_to rules done s t) (λ l.
        let is : t ≡ next_summary rules s t.last = same_is t (next_summary rules s t.last) (and_parts (may_follow rules done s t.last) (same_summary t (next_summary rules s t.last)) l).1 in
        let next : t ≡ next_summary rules s rung = is ∙ ap (next_summary rules s) e in
        n ((one_place rules i t h).1 ∙ ap (place_of rules) next))

    go : (i ≡ place_of rules (next_summary rules s rung)) ⊎ (i ≡ place_of rules (next_summary rules s rung) → ⊥) →
        get_or (set flags (place_of rules (next_summary rules s rung)) true) i false ≡ (get_or before i false || (leads_to rules done s t && nat_lt t.last (rung + 1)))
    go (inl e) =
        let both : Some (next_summary rules s rung) ≡ Some t = sym there ∙ (ap (slice_get (summaries rules)) (sym e) ∙ h) in
        let same : t ≡ next_summary rules s rung = cc in
        ap (λ k. get_or (set flags (place_of rules (next_summary rules s rung)) true) k false) e
        ∙ (get_or-set_same flags (place_of rules (next_summary rules s rung)) true false low
        ∙ sym (ap (λ b. get_or before i false || b) (leads t same) ∙ or-true (get_or before i false)))
    go (inr n) =
        get_or-set_other flags (place_of rules (next_summary rules s rung)) i true false n
        ∙ (so_far i t h ∙ ap (λ b. get_or before i false || b) (other_rung (leads_to rules done s t) t.last rung (not_there n)))

-- what some summary of a week leads to is what is reached a week later
pub reached_next : (rules : Rulebook) (done : ℕ) (t : Summary) → IsRulebook rules → done < rules.weeks → list_any (λ s. leads_to rules done s t) (reached_summaries rules done) ≡ is_reached rules (suc done) t
reached_next rules done t is early = bool_ext _ _ forward back
  where
    forward : list_any (λ s. leads_to rules done s t) (reached_summaries rules done) ≡ true → is_reached rules (suc done) t ≡ true
    forward h =
        let (s, good, there) = any-witness (λ s. leads_to rules done s t) (reached_summaries rules done) h in
        let parts = and_parts (may_follow rules done s t.last) (same_summary t (next_summary rules s t.last)) good in
        ap (is_reached rules (suc done)) (same_is t (next_summary rules s t.last) parts.1) ∙ reached_more rules done s t.last (in_reached rules done s there) parts.0

    back : is_reached rules (suc done) t ≡ true → list_any (λ s. leads_to rules done s t) (reached_summaries rules done) ≡ true
    back h =
        let (s, rung, reached, follows, next) = reached_back rules done t h in
        let range : IsInRange rules s = in_range rules done s is (omega arith) reached in
        let (k, there) = filter_has (is_reached rules done) (summaries rules) (place_of rules s) s (get-place_of rules s range) reached in
        any-at (λ s. leads_to rules done s t) (reached_summaries rules done) k s there
        (subst (λ u. leads_to rules done s u ≡ true) next
        (and_from (may_follow rules done s rung) (same_summary (next_summary rules s rung) (next_summary rules s rung)) follows (same_self (next_summary rules s rung))))

-- flags that say a test of each summary pick what the test keeps
pub picked_by : (rules : Rulebook) (flags : List Bool) (test : Summary → Bool) → length flags ≡ length (summaries rules) → ((i : ℕ) (t : Summary) → slice_get (summaries rules) i ≡ Some t → get_or flags i false ≡ test t) →
    picked flags (summaries rules) ≡ filter test (summaries rules)
picked_by rules flags test long flag =
    ap (λ fs. picked fs (summaries rules)) (same_lists flags (map test (summaries rules)) (long ∙ sym (length-map (summaries rules) test))
    (λ k d low.
    let low' : k < length (summaries rules) = subst (λ n. k < n) long low in
    let default : Summary = record { last = 1; count = 0; age = 1 } in
    get_or_default flags k d false low
    ∙ (flag k (get_or (summaries rules) k default) (slice_get-get_or (summaries rules) k default low')
    ∙ sym (get_or-map test (summaries rules) k default d low'))))
    ∙ picked-map test (summaries rules)

-- ---- what `next` says

pub kept_some : (rules : Rulebook) (done : ℕ) (s t : Summary) (rung : ℕ) → Some t ≡ next_if_kept rules done s rung → (may_follow rules done s rung ≡ true) × (t ≡ next_summary rules s rung)
kept_some rules done s t rung h = go (may_follow rules done s rung) h
  where
    go : (b : Bool) → Some t ≡ cond b (Some (next_summary rules s rung)) None → (b ≡ true) × (t ≡ next_summary rules s rung)
    go true h = (refl, cc)
    go false h = cc

pub kept_none : (rules : Rulebook) (done : ℕ) (s : Summary) (rung : ℕ) → None ≡ next_if_kept rules done s rung → may_follow rules done s rung ≡ false
kept_none rules done s rung h = go (may_follow rules done s rung) h
  where
    go : (b : Bool) → None ≡ cond b (Some (next_summary rules s rung)) None → b ≡ false
    go true h = cc
    go false h = refl

-- ---- backward

-- no rung below this one leads to a live summary
abbrev pub NoneBelow : Rulebook → ℕ → Summary → ℕ → Type 0
NoneBelow rules done s rung = (r : ℕ) → 1 ≤ r → r < rung → leads_at rules done s r ≡ false

pub none_leads : (rules : Rulebook) (done : ℕ) (s : Summary) (rung : ℕ) → NoneBelow rules done s rung → rung ≡ length rules.prices + 1 → false ≡ leads_on rules done s
none_leads rules done s rung none end = sym (none_any (leads_at rules done s) 1 (length rules.prices) (λ r low high. none r low (omega arith)))

-- a rung whose next summary stands among the live ones
pub rung_leads : (rules : Rulebook) (done : ℕ) (s t : Summary) (rung : ℕ) (next : List Summary) → Some t ≡ next_if_kept rules done s rung → next ≡ live_summaries rules (suc done) → IsIn next t → leads_at rules done s rung ≡ true
rung_leads rules done s t rung next h is there =
    let kept = kept_some rules done s t rung h in
    let (k, here) = subst (λ list. IsIn list t) is there in
    let live : is_live_summary rules (suc done) t ≡ true = (in_filter (is_live_summary rules (suc done)) (summaries rules) k t here).0 in
    and_from (may_follow rules done s rung) (is_live_summary rules (suc done) (next_summary rules s rung)) kept.0 (ap (is_live_summary rules (suc done)) (sym kept.1) ∙ live)

pub one_leads : (rules : Rulebook) (done : ℕ) (s t : Summary) (rung : ℕ) (next : List Summary) → 1 ≤ rung → rung < length rules.prices + 1 → Some t ≡ next_if_kept rules done s rung → next ≡ live_summaries rules (suc done) → IsIn next t →
    true ≡ leads_on rules done s
one_leads rules done s t rung next low high h is there = sym (in_rungs rules (leads_at rules done s) rung low (omega arith) (rung_leads rules done s t rung next h is there))

pub none_more : (rules : Rulebook) (done : ℕ) (s : Summary) (rung : ℕ) → NoneBelow rules done s rung → leads_at rules done s rung ≡ false → NoneBelow rules done s (rung + 1)
none_more rules done s rung none here r low high = go (cases_eq r rung)
  where
    go : (r ≡ rung) ⊎ (r ≡ rung → ⊥) → leads_at rules done s r ≡ false
    go (inl e) = ap (leads_at rules done s) e ∙ here
    go (inr n) = none r low (omega arith)

pub not_kept_no_lead : (rules : Rulebook) (done : ℕ) (s : Summary) (rung : ℕ) → None ≡ next_if_kept rules done s rung → leads_at rules done s rung ≡ false
not_kept_no_lead rules done s rung h = ap (λ b. b && is_live_summary rules (suc done) (next_summary rules s rung)) (kept_none rules done s rung h)

-- a live summary stands in the list
pub live_in : (rules : Rulebook) (done : ℕ) (t : Summary) → IsRulebook rules → done ≤ rules.weeks → is_live_summary rules done t ≡ true → IsIn (live_summaries rules done) t
live_in rules done t is early live =
    let range = in_range rules done t is early (live-reached rules done t live) in
    filter_has (is_live_summary rules done) (summaries rules) (place_of rules t) t (get-place_of rules t range) live

pub not_live_no_lead : (rules : Rulebook) (done : ℕ) (s t : Summary) (rung : ℕ) (next : List Summary) → IsRulebook rules → done < rules.weeks → Some t ≡ next_if_kept rules done s rung → next ≡ live_summaries rules (suc done) → (IsIn next t → ⊥) →
    leads_at rules done s rung ≡ false
not_live_no_lead rules done s t rung next book early h is absent =
    false_from_ne_true (leads_at rules done s rung) (λ leads.
    let kept = kept_some rules done s t rung h in
    let live : is_live_summary rules (suc done) (next_summary rules s rung) ≡ true = (and_parts (may_follow rules done s rung) (is_live_summary rules (suc done) (next_summary rules s rung)) leads).1 in
    absent (subst (λ list. IsIn list t) (sym is) (live_in rules (suc done) t book (omega arith) (ap (is_live_summary rules (suc done)) kept.1 ∙ live))))

-- ---- for the loops

pub on_grid : (rules : Rulebook) (t : Summary) (rungs counts ages : ℕ) → IsGridOf rules rungs counts ages → IsInRange rules t → IsHeld rungs counts ages t
on_grid rules t rungs counts ages grid range =
    let is_held = held rules t range in
    record { low = is_held.low; high = subst (λ n. t.last ≤ n) (sym grid.rungs_are) is_held.high; count = subst (λ n. t.count < n) (sym grid.counts_are) is_held.count; young = is_held.young; old = subst (λ n. t.age ≤ n) (sym grid.ages_are) is_held.old }

pub held_next : (rules : Rulebook) (done : ℕ) (s t : Summary) (rung rungs counts ages : ℕ) → IsRulebook rules → IsGridOf rules rungs counts ages → done < rules.weeks → is_reached rules done s ≡ true → Some t ≡ next_if_kept rules done s rung →
    IsHeld rungs counts ages t
held_next rules done s t rung rungs counts ages book grid early reached h =
    let kept = kept_some rules done s t rung h in
    let range = in_range rules (suc done) t book (omega arith) (ap (is_reached rules (suc done)) kept.1 ∙ reached_more rules done s rung reached kept.0) in
    on_grid rules t rungs counts ages grid range

pub length-grid : (rules : Rulebook) (rungs counts ages : ℕ) → IsGridOf rules rungs counts ages → length (summaries rules) ≡ (rungs * counts) * ages
length-grid rules rungs counts ages grid =
    length-all (length rules.prices) (suc (most_markdowns rules)) rules.spacing
    ∙ (λ i. (sym grid.rungs_are i * sym grid.counts_are i) * sym grid.ages_are i)

pub place-grid : (rules : Rulebook) (t : Summary) (rungs counts ages : ℕ) → IsGridOf rules rungs counts ages → place_in counts ages t ≡ place_of rules t
place-grid rules t rungs counts ages grid = λ i. place_in (grid.counts_are i) (grid.ages_are i) t

pub all-grid : (rules : Rulebook) (rungs counts ages : ℕ) → IsGridOf rules rungs counts ages → summaries rules ≡ all_summaries rungs counts ages
all-grid rules rungs counts ages grid = λ i. all_summaries (sym grid.rungs_are i) (sym grid.counts_are i) (sym grid.ages_are i)

-- one rung more, where it keeps the rules
pub marks_next : (rules : Rulebook) (done : ℕ) (s t : Summary) (before flags now : List Bool) (rung place rungs counts ages : ℕ) → IsRulebook rules → IsGridOf rules rungs counts ages → done < rules.weeks → is_reached rules done s ≡ true →
    Some t ≡ next_if_kept rules done s rung → AreMarked rules done s before rung flags → place ≡ place_in counts ages t → place < length flags → now ≡ set flags place true → AreMarked rules done s before (rung + 1) now
marks_next rules done s t before flags now rung place rungs counts ages book grid early reached h so_far place_is low now_is =
    let kept = kept_some rules done s t rung h in
    let range : IsInRange rules (next_summary rules s rung) = in_range rules (suc done) (next_summary rules s rung) book (omega arith) (reached_more rules done s rung reached kept.0) in
    let there : place ≡ place_of rules (next_summary rules s rung) = place_is ∙ (place-grid rules t rungs counts ages grid ∙ ap (place_of rules) kept.1) in
    subst (λ list. AreMarked rules done s before (rung + 1) list) (sym (now_is ∙ ap (λ k. set flags k true) there))
    (rung_kept rules done s before flags rung so_far kept.0 range (subst (λ k. k < length flags) there low))

pub marks_same : (rules : Rulebook) (done : ℕ) (s : Summary) (before flags now : List Bool) (rung : ℕ) → None ≡ next_if_kept rules done s rung → AreMarked rules done s before rung flags → now ≡ flags → AreMarked rules done s before (rung + 1) now
marks_same rules done s before flags now rung h so_far same =
    subst (λ list. AreMarked rules done s before (rung + 1) list) (sym same) (rung_unkept rules done s before flags rung so_far (kept_none rules done s rung h))

-- ---- a week from the week before

pub record AreFlagsOf (rules : Rulebook) (done : ℕ) (flags : List Bool) (from : List Summary) : Type 0 where
  pub size : length flags ≡ length (summaries rules)
  pub marks : (i : ℕ) (t : Summary) → slice_get (summaries rules) i ≡ Some t → get_or flags i false ≡ list_any (λ s. leads_to rules done s t) from

pub no_flags : (rules : Rulebook) (done n : ℕ) (flags : List Bool) → flags ≡ replicate n false → n ≡ length (summaries rules) → AreFlagsOf rules done flags []
no_flags rules done n flags is size = record {
  size = ap length is ∙ (length-replicate n false ∙ size);
  marks = λ i t h. ap (λ list. get_or list i false) is ∙ get_or-replicate n i false false (subst (λ m. i < m) (sym size) (slice_get_within (summaries rules) i t h));
}

any-snoc : (p : Summary → Bool) (xs : List Summary) (x : Summary) → list_any p (xs ++ x ∷ []) ≡ (list_any p xs || p x)
any-snoc p xs x = list_any-append p xs (x ∷ []) ∙ ap (λ b. list_any p xs || b) (or-false (p x))

pub more_flags : (rules : Rulebook) (done k : ℕ) (before now : List Bool) (list : List Summary) (s : Summary) → k < length list → get_or list k s ≡ s → AreFlagsOf rules done before (take k list) → length now ≡ length before →
    ((i : ℕ) (t : Summary) → slice_get (summaries rules) i ≡ Some t → get_or now i false ≡ (get_or before i false || leads_to rules done s t)) → AreFlagsOf rules done now (take (k + 1) list)
more_flags rules done k before now list s low is so_far long step = record {
  size = long ∙ so_far.size;
  marks = λ i t h. step i t h ∙ (ap (λ b. b || leads_to rules done s t) (so_far.marks i t h)
      ∙ (sym (any-snoc (λ s. leads_to rules done s t) (take k list) s) ∙ ap (list_any (λ s. leads_to rules done s t)) (sym (take_more list k s low ∙ ap (λ x. take k list ++ x ∷ []) is))));
}

pub next_picked : (rules : Rulebook) (done k : ℕ) (flags : List Bool) (list : List Summary) → IsRulebook rules → done < rules.weeks → list ≡ reached_summaries rules done → length list ≤ k → AreFlagsOf rules done flags (take k list) →
    picked flags (summaries rules) ≡ reached_summaries rules (suc done)
next_picked rules done k flags list book early is end all =
    picked_by rules flags (is_reached rules (suc done)) all.size
    (λ i t h. all.marks i t h ∙ (ap (list_any (λ s. leads_to rules done s t)) (take_all k list end ∙ is) ∙ reached_next rules done t book early))

-- ---- the first week

pub first_picked : (rules : Rulebook) (n place counts ages rungs : ℕ) (flags now : List Bool) → IsRulebook rules → IsGridOf rules rungs counts ages → flags ≡ replicate n false → n ≡ length (summaries rules) → place ≡ place_in counts ages (summary rules []) → now ≡ set flags place true →
    picked now (summaries rules) ≡ reached_summaries rules 0
first_picked rules n place counts ages rungs flags now book grid is size place_is now_is =
    picked_by rules now (is_reached rules 0) (ap length now_is ∙ (length-set flags place true ∙ (ap length is ∙ (length-replicate n false ∙ size)))) flag
  where
    start : IsInRange rules (summary rules [])
    start = in_range rules 0 (summary rules []) book (omega arith) (reached-by rules 0 (summary rules []) [] (record { weeks = refl; keeps = empty-keeps rules; same = refl }))

    there : place ≡ place_of rules (summary rules [])
    there = place_is ∙ place-grid rules (summary rules []) rungs counts ages grid

    start_at : slice_get (summaries rules) (place_of rules (summary rules [])) ≡ Some (summary rules [])
    start_at = get-place_of rules (summary rules []) start

    low : place < length flags
    low = subst (λ k. k < length flags) (sym there) (subst (λ m. place_of rules (summary rules []) < m) (sym (ap length is ∙ (length-replicate n false ∙ size))) (slice_get_within (summaries rules) (place_of rules (summary rules [])) (summary rules []) start_at))

    only : (t : Summary) → is_reached rules 0 t ≡ true → t ≡ summary rules []
    only t h = let (prefix, has) = reached-witness rules 0 t h in go prefix has.weeks has.same
      where
        go : (prefix : List ℕ) → length prefix ≡ 0 → summary rules prefix ≡ t → t ≡ summary rules []
        go [] long same = sym same
        go (x ∷ prefix) long same = absurd (none long)
          where
            none : suc (length prefix) ≡ 0 → ⊥
            none h = omega arith

    flag : (i : ℕ) (t : Summary) → slice_get (summaries rules) i ≡ Some t → get_or now i false ≡ is_reached rules 0 t
    flag i t h = ap (λ list. get_or list i false) now_is ∙ go (cases_eq i place)
      where
        go : (i ≡ place) ⊎ (i ≡ place → ⊥) → get_or (set flags place true) i false ≡ is_reached rules 0 t
        go (inl e) =
            let both : Some (summary rules []) ≡ Some t = sym start_at ∙ (ap (slice_get (summaries rules)) (sym (e ∙ there)) ∙ h) in
            let same : summary rules [] ≡ t = cc in
            ap (λ k. get_or (set flags place true) k false) e ∙ (get_or-set_same flags place true false low
            ∙ sym (reached-by rules 0 t [] (record { weeks = refl; keeps = empty-keeps rules; same = same })))
        go (inr n) =
            get_or-set_other flags place i true false n
            ∙ (ap (λ list. get_or list i false) is ∙ (get_or-replicate _ i false false (subst (λ m. i < m) (sym size) (slice_get_within (summaries rules) i t h))
            ∙ sym (false_from_ne_true (is_reached rules 0 t) (λ r. n ((one_place rules i t h).1 ∙ (ap (place_of rules) (only t r) ∙ sym there))))))

-- ---- a live week

pub record AreLiveFlags (rules : Rulebook) (done k : ℕ) (flags : List Bool) : Type 0 where
  pub size : length flags ≡ k
  pub marks : (i : ℕ) (t : Summary) → i < k → slice_get (summaries rules) i ≡ Some t → get_or flags i false ≡ is_live_summary rules done t

pub no_live_flags : (rules : Rulebook) (done : ℕ) → AreLiveFlags rules done 0 []
no_live_flags rules done = record { size = refl; marks = λ i t low h. absurd (none i low) }
  where
    none : (i : ℕ) → i < 0 → ⊥
    none i h = omega arith

pub has_reached : (rules : Rulebook) (done i : ℕ) (s : Summary) (list : List Summary) (b : Bool) → slice_get (summaries rules) i ≡ Some s → list ≡ reached_summaries rules done → (IsTrue b ↔ IsIn list s) → b ≡ is_reached rules done s
has_reached rules done i s list b there is h =
    bool_ext b (is_reached rules done s) (λ e. in_reached rules done s (subst (λ xs. IsIn xs s) is (h.0 e)))
    (λ e. h.1 (subst (λ xs. IsIn xs s) (sym is) (filter_has (is_reached rules done) (summaries rules) i s there e)))

pub more_live : (rules : Rulebook) (done k : ℕ) (flags now : List Bool) (s : Summary) (b leads : Bool) (list : List Summary) → done < rules.weeks → AreLiveFlags rules done k flags → slice_get (summaries rules) k ≡ Some s → list ≡ reached_summaries rules done →
    (IsTrue b ↔ IsIn list s) → leads ≡ leads_on rules done s → now ≡ flags ++ (b && leads) ∷ [] → AreLiveFlags rules done (k + 1) now
more_live rules done k flags now s b leads list early so_far there is h leads_is now_is = record {
  size = ap length now_is ∙ (length_push flags (b && leads) ∙ ap (λ n. n + 1) so_far.size);
  marks = λ i t low at. ap (λ xs. get_or xs i false) now_is ∙ go i t at (cases_eq i k) low;
}
  where
    value : (b && leads) ≡ is_live_summary rules done s
    value = ap₂ ◌&&◌ (has_reached rules done k s list b there is h) leads_is ∙ sym (earlier_week rules done s early)

    go : (i : ℕ) (t : Summary) → slice_get (summaries rules) i ≡ Some t → (i ≡ k) ⊎ (i ≡ k → ⊥) → i < k + 1 → get_or (flags ++ (b && leads) ∷ []) i false ≡ is_live_summary rules done t
    go i t at (inl e) low =
        let both : Some s ≡ Some t = sym there ∙ (ap (slice_get (summaries rules)) (sym e) ∙ at) in
        let same : s ≡ t = cc in
        get_or_push flags (b && leads) false i (so_far.size ∙ sym e) ∙ (value ∙ ap (is_live_summary rules done) same)
    go i t at (inr n) low =
        let before : i < k = omega arith in
        get_or_append_left flags ((b && leads) ∷ []) false i (subst (λ m. i < m) (sym so_far.size) before) ∙ so_far.marks i t before at

pub live_picked : (rules : Rulebook) (done k : ℕ) (flags : List Bool) → AreLiveFlags rules done k flags → k ≡ length (summaries rules) → picked flags (summaries rules) ≡ live_summaries rules done
live_picked rules done k flags all end =
    picked_by rules flags (is_live_summary rules done) (all.size ∙ end) (λ i t h. all.marks i t (subst (λ m. i < m) (sym end) (slice_get_within (summaries rules) i t h)) h)

-- ---- what a loop reads

-- a written part of a list in its place
pub written_back : (items now : List Bool) (len : ℕ) → length now ≡ length items → len ≡ length items → take len (now ++ drop (length now) items) ≡ now
written_back items now len same size =
    ap (take len) (ap (λ t. now ++ t) (drop_all (length now) items (subst (λ n. length items ≤ n) (sym same) (le_refl (length items)))) ∙ append-nil now)
    ∙ take_all len now (subst (λ n. n ≤ len) (sym same) (subst (λ n. length items ≤ n) (sym size) (le_refl (length items))))

pub candidate_at : (rules : Rulebook) (list : List Summary) (i : ℕ) (s : Summary) → list ≡ summaries rules → i < length list → get_or list i s ≡ s → slice_get (summaries rules) i ≡ Some s
candidate_at rules list i s is low at = ap (λ (xs : List Summary). slice_get xs i) (sym is) ∙ (slice_get-get_or list i s low ∙ ap (λ t. Some t) at)

pub item_reached : (rules : Rulebook) (done i : ℕ) (list : List Summary) (s : Summary) → list ≡ reached_summaries rules done → i < length list → get_or list i s ≡ s → is_reached rules done s ≡ true
item_reached rules done i list s is low at = in_reached rules done s (subst (λ xs. IsIn xs s) is (i, slice_get-get_or list i s low ∙ ap (λ t. Some t) at))

-- ---- lists of weeks

pub get_week : (f : ℕ → List Summary) (n k : ℕ) → k < n → get_or (map f (numbers 0 n)) k [] ≡ f k
get_week f n k low = get_or-mapped f 0 n k [] low ∙ ap f (none k)
  where
    none : (m : ℕ) → 0 + m ≡ m
    none m = omega arith

pub length-weeks : (f : ℕ → List Summary) (n : ℕ) → length (map f (numbers 0 n)) ≡ n
length-weeks f n = length-map (numbers 0 n) f ∙ length-numbers 0 n

pub push_week : (f : ℕ → List Summary) (n : ℕ) (weeks now : List (List Summary)) (week : List Summary) → weeks ≡ map f (numbers 0 (suc n)) → week ≡ f (suc n) → now ≡ weeks ++ week ∷ [] → now ≡ map f (numbers 0 (suc (n + 1)))
push_week f n weeks now week so_far is now_is =
    now_is ∙ (ap₂ (λ ws w. ws ++ w ∷ []) so_far (is ∙ ap f (none (suc n))) ∙ (sym (map-numbers_more f 0 (suc n)) ∙ ap (λ m. map f (numbers 0 (suc m))) (next n)))
  where
    none : (m : ℕ) → m ≡ 0 + m
    none m = omega arith

    next : (m : ℕ) → suc m ≡ m + 1
    next m = omega arith

-- so far: reached summaries below this length, and live ones from it on
pub record AreLiveFrom (rules : Rulebook) (done : ℕ) (weeks : List (List Summary)) : Type 0 where
  pub size : length weeks ≡ suc rules.weeks
  pub early : (k : ℕ) → k < done → get_or weeks k [] ≡ reached_summaries rules k
  pub late : (k : ℕ) → done ≤ k → k ≤ rules.weeks → get_or weeks k [] ≡ live_summaries rules k

pub last_live : (rules : Rulebook) (weeks : List (List Summary)) → weeks ≡ map (reached_summaries rules) (numbers 0 (suc rules.weeks)) → AreLiveFrom rules rules.weeks weeks
last_live rules weeks is = record {
  size = ap length is ∙ length-weeks (reached_summaries rules) (suc rules.weeks);
  early = λ k low. ap (λ (ws : List (List Summary)). get_or ws k []) is ∙ get_week (reached_summaries rules) (suc rules.weeks) k (omega arith);
  late = λ k low high. ap (λ (ws : List (List Summary)). get_or ws k []) is ∙ (get_week (reached_summaries rules) (suc rules.weeks) k (omega arith)
      ∙ (let here : k ≡ rules.weeks = omega arith in ap (reached_summaries rules) here ∙ (ap (λ (test : Summary → Bool). filter test (summaries rules)) (fun_ext (λ s. sym (last_week rules s))) ∙ ap (live_summaries rules) (sym here))));
}

pub one_live : (rules : Rulebook) (done : ℕ) (weeks now : List (List Summary)) (week : List Summary) → done < rules.weeks → AreLiveFrom rules (suc done) weeks → week ≡ live_summaries rules done → now ≡ set weeks done week → AreLiveFrom rules done now
one_live rules done weeks now week early so_far is now_is = record {
  size = ap length now_is ∙ (length-set weeks done week ∙ so_far.size);
  early = λ k low. ap (λ (ws : List (List Summary)). get_or ws k []) now_is ∙ (get_or-set_other weeks done k week [] (λ e. omega arith) ∙ so_far.early k (omega arith));
  late = λ k low high. ap (λ (ws : List (List Summary)). get_or ws k []) now_is ∙ go k (cases_eq k done) low high;
}
  where
    go : (k : ℕ) → (k ≡ done) ⊎ (k ≡ done → ⊥) → done ≤ k → k ≤ rules.weeks → get_or (set weeks done week) k [] ≡ live_summaries rules k
    go k (inl e) low high =
        ap (λ n. get_or (set weeks done week) n []) e ∙ (get_or-set_same weeks done week [] (subst (λ n. done < n) (sym so_far.size) (omega arith)) ∙ (is ∙ ap (live_summaries rules) (sym e)))
    go k (inr n) low high = get_or-set_other weeks done k week [] n ∙ so_far.late k (omega arith) high

pub all_live : (rules : Rulebook) (weeks : List (List Summary)) → AreLiveFrom rules 0 weeks → weeks ≡ map (live_summaries rules) (numbers 0 (suc rules.weeks))
all_live rules weeks all =
    ext_get_or [] weeks (map (live_summaries rules) (numbers 0 (suc rules.weeks))) (all.size ∙ sym (length-weeks (live_summaries rules) (suc rules.weeks)))
    (λ k low. let short : k < suc rules.weeks = subst (λ n. k < n) all.size low in
    all.late k (omega arith) (omega arith) ∙ sym (get_week (live_summaries rules) (suc rules.weeks) k short))
