-- The summary decides whether the next week keeps the rules, and what the next summary is.
use Rattle.std.proofs.Common.{IsTrue, ◌≡◌, ℕ, ◌+◌, ◌-◌, ◌*◌, ◌<◌, ◌≤◌, min, Bool, true, false, not, cond, ◌&&◌, ◌||◌, refl, sym, ap, ap₂, ◌∙◌, arith, suc, zero, List, [], ◌∷◌, ◌++◌, length, nat_le, nat_lt, ◌==◌, count_by, append_assoc, append-nil, le-leb, le_refl, lt-ltb, le-ltb}
use Rattle.std.specs.List.{list_all, list_any, filter}
use mathlib.Core.Path.{fun_ext}
use Rattle.clr_num.specs.Lists.{numbers, all_lists}
use Rattle.clr_rules.specs.Rules.{Rulebook, price, window, rung_at, rung_before, is_markdown, is_first_markdown, markdowns, keeps_rise, keeps_window, keeps_frozen, keeps_number, keeps_spacing, keeps_first_cut, are_rungs, keeps_rules, obeys, last_markdown, age_after, summary, SameSummarySameRest, step_rise, step_window, step_frozen, step_number, step_spacing, step_first_cut, may_follow, next_summary, IsLiveSummary, NextBySummary, is_live, rungs, live_rungs}
use Rattle.clr_rules.specs.declared.season_rules.Summary.{Summary}
use Rattle.clr_rules.proofs.LiveLemmas.{live_witness, live_from}
use Rattle.std.proofs.lemmas.Bool.{and_parts, and_from, false_from_ne_true}
use mathlib.Core.Bool.{and-true, true-and, and_assoc}
use Rattle.clr_rules.proofs.WeekTests.{and_middle, all-one_more, all-same, all-and, all-true, count-one_more, count-same, none-count, length_more, rung_at-more, rung_at-last, rung_before-more, is_markdown-more, moves, is_markdown-last, each_week-more}

-- ---- each rule, with one week more

pub rise-more : (rules : Rulebook) (prefix : List ℕ) (rung : ℕ) → keeps_rise (prefix ++ rung ∷ []) ≡ (keeps_rise prefix && step_rise (summary rules prefix) rung)
rise-more rules prefix rung =
    each_week-more prefix rung (λ path week. nat_le (rung_before path week) (rung_at path week)) (nat_le (rung_at prefix (length prefix)) rung)
    (λ t low high. ap₂ nat_le (rung_before-more prefix rung t (omega arith)) (rung_at-more prefix rung t high))
    (ap₂ nat_le (rung_before-more prefix rung (suc (length prefix)) (le_refl (suc (length prefix)))) (rung_at-last prefix rung))

pub window-more : (rules : Rulebook) (prefix : List ℕ) (rung : ℕ) → keeps_window rules (prefix ++ rung ∷ []) ≡ (keeps_window rules prefix && step_window rules (length prefix) rung)
window-more rules prefix rung =
    each_week-more prefix rung (λ path week. nat_le (window rules week).from (rung_at path week) && nat_le (rung_at path week) (window rules week).to) (step_window rules (length prefix) rung)
    (λ t low high. ap (λ r. nat_le (window rules t).from r && nat_le r (window rules t).to) (rung_at-more prefix rung t high))
    (ap (λ r. nat_le (window rules (suc (length prefix))).from r && nat_le r (window rules (suc (length prefix))).to) (rung_at-last prefix rung))

pub frozen-more : (rules : Rulebook) (prefix : List ℕ) (rung : ℕ) → keeps_frozen rules (prefix ++ rung ∷ []) ≡ (keeps_frozen rules prefix && step_frozen rules (length prefix) (summary rules prefix) rung)
frozen-more rules prefix rung =
    each_week-more prefix rung (λ path week. not ((window rules week).frozen && is_markdown path week)) (step_frozen rules (length prefix) (summary rules prefix) rung)
    (λ t low high. ap (λ b. not ((window rules t).frozen && b)) (is_markdown-more prefix rung t high))
    (ap (λ b. not ((window rules (suc (length prefix))).frozen && b)) (is_markdown-last prefix rung))

pub markdowns-more : (prefix : List ℕ) (rung : ℕ) → markdowns (prefix ++ rung ∷ []) ≡ markdowns prefix + cond (moves prefix rung) 1 0
markdowns-more prefix rung =
    ap (λ n. count_by (is_markdown (prefix ++ rung ∷ [])) (numbers 1 n)) (length_more prefix rung)
    ∙ (count-one_more (is_markdown (prefix ++ rung ∷ [])) (length prefix)
    ∙ ap₂ (λ k b. k + cond b 1 0) (count-same (is_markdown (prefix ++ rung ∷ [])) (is_markdown prefix) (length prefix) (λ t low high. is_markdown-more prefix rung t high)) (is_markdown-last prefix rung))

pub number-more : (rules : Rulebook) (prefix : List ℕ) (rung : ℕ) → keeps_number rules (prefix ++ rung ∷ []) ≡ (keeps_number rules prefix && step_number rules (summary rules prefix) rung)
number-more rules prefix rung = ap (λ k. nat_le k rules.markdowns) (markdowns-more prefix rung) ∙ monotone (markdowns prefix) (cond (moves prefix rung) 1 0) rules.markdowns
  where
    monotone : (k b m : ℕ) → nat_le (k + b) m ≡ (nat_le k m && nat_le (k + b) m)
    monotone k b m = grind arith

-- the last markdown week
pub last_markdown-le : (path : List ℕ) (n : ℕ) → last_markdown path n ≤ n
last_markdown-le path zero = omega arith
last_markdown-le path (suc n) = go (is_markdown path (suc n)) (last_markdown-le path n)
  where
    go : (b : Bool) → last_markdown path n ≤ n → cond b (suc n) (last_markdown path n) ≤ suc n
    go true h = omega arith
    go false h = omega arith

last_markdown-same : (prefix : List ℕ) (rung n : ℕ) → n ≤ length prefix → last_markdown (prefix ++ rung ∷ []) n ≡ last_markdown prefix n
last_markdown-same prefix rung zero h = refl
last_markdown-same prefix rung (suc n) h = ap₂ (λ b k. cond b (suc n) k) (is_markdown-more prefix rung (suc n) h) (last_markdown-same prefix rung n (omega arith))

-- all markdown weeks lie so far before a week where the last of them does
far_enough : ℕ → ℕ → ℕ → Bool
far_enough spacing week zero = true
far_enough spacing week (suc last) = nat_le (suc last + spacing) week

all_far : (path : List ℕ) (spacing week n : ℕ) → list_all (λ t. not (is_markdown path t) || nat_le (t + spacing) week) (numbers 1 n) ≡ far_enough spacing week (last_markdown path n)
unfolding far_enough
all_far path spacing week zero = refl
all_far path spacing week (suc n) =
    all-one_more (λ t. not (is_markdown path t) || nat_le (t + spacing) week) n
    ∙ (ap (λ b. b && (not (is_markdown path (suc n)) || nat_le (suc n + spacing) week)) (all_far path spacing week n)
    ∙ go (is_markdown path (suc n)) (last_markdown path n) (last_markdown-le path n))
  where
    go : (b : Bool) (k : ℕ) → k ≤ n → (far_enough spacing week k && (not b || nat_le (suc n + spacing) week)) ≡ far_enough spacing week (cond b (suc n) k)
    go true zero h = true-and _
    go true (suc k) h = nearer k n spacing week h
      where
        nearer : (k n s w : ℕ) → suc k ≤ n → (nat_le (suc k + s) w && nat_le (suc n + s) w) ≡ nat_le (suc n + s) w
        nearer k n s w h = grind arith
    go false k h = and-true (far_enough spacing week k)

far_by_age : (spacing done last : ℕ) → last ≤ done → far_enough spacing (suc done) last ≡ nat_le spacing (age_after spacing done last)
unfolding far_enough
far_by_age spacing done zero h = sym (le-leb spacing spacing (le_refl spacing))
far_by_age spacing done (suc last) h = far spacing done last h
  where
    far : (s d k : ℕ) → suc k ≤ d → nat_le (suc k + s) (suc d) ≡ nat_le s (min s (d + 1 - suc k))
    far s d k h = grind arith

-- two weeks of a path: no two markdown weeks nearer than the spacing
abbrev apart : ℕ → List ℕ → ℕ → ℕ → Bool
apart spacing path earlier later = not (nat_lt earlier later && is_markdown path earlier && is_markdown path later) || nat_le (earlier + spacing) later

apart_last : (m e : Bool) (k w g : ℕ) → k < w → (not (nat_lt k w && e && m) || nat_le (k + g) w) ≡ (not m || (not e || nat_le (k + g) w))
apart_last true true k w g h = ap (λ b. not (b && true && true) || nat_le (k + g) w) (lt-ltb k w h)
apart_last true false k w g h = ap (λ b. not (b && false && true) || nat_le (k + g) w) (lt-ltb k w h)
apart_last false true k w g h = ap (λ b. not (b && true && false) || nat_le (k + g) w) (lt-ltb k w h)
apart_last false false k w g h = ap (λ b. not (b && false && false) || nat_le (k + g) w) (lt-ltb k w h)

apart_back : (e m : Bool) (k w g : ℕ) → w ≤ k → (not (nat_lt k w && e && m) || nat_le (k + g) w) ≡ true
apart_back e m k w g h = ap (λ b. not (b && e && m) || nat_le (k + g) w) (le-ltb k w h)

all_or : (m : Bool) (test : ℕ → Bool) (n : ℕ) → list_all (λ t. not m || test t) (numbers 1 n) ≡ (not m || list_all test (numbers 1 n))
all_or true test n = all-same (λ t. false || test t) test n (λ t low high. refl)
all_or false test n = all-true (λ t. true || test t) n (λ t low high. refl)

pub spacing-more : (rules : Rulebook) (prefix : List ℕ) (rung : ℕ) → keeps_spacing rules (prefix ++ rung ∷ []) ≡ (keeps_spacing rules prefix && step_spacing rules (summary rules prefix) rung)
spacing-more rules prefix rung =
    let g : ℕ = rules.spacing in
    let n : ℕ = length prefix in
    let more : List ℕ = prefix ++ rung ∷ [] in
    let inner : ℕ → Bool = λ e. list_all (apart g more e) (numbers 1 (suc n)) in
    let back : inner (suc n) ≡ true = all-true (apart g more (suc n)) (suc n) (λ t low high. apart_back (is_markdown more (suc n)) (is_markdown more t) (suc n) t g high) in
    let early : (e : ℕ) → 1 ≤ e → e ≤ n → inner e ≡ (list_all (apart g prefix e) (numbers 1 n) && (not (moves prefix rung) || (not (is_markdown prefix e) || nat_le (e + g) (suc n))))
    = λ e low high.
    all-one_more (apart g more e) n
    ∙ ap₂ ◌&&◌
    (all-same (apart g more e) (apart g prefix e) n (λ t l h. ap₂ (λ a b. not (nat_lt e t && a && b) || nat_le (e + g) t) (is_markdown-more prefix rung e high) (is_markdown-more prefix rung t h)))
    (ap₂ (λ a b. not (nat_lt e (suc n) && a && b) || nat_le (e + g) (suc n)) (is_markdown-more prefix rung e high) (is_markdown-last prefix rung)
    ∙ apart_last (moves prefix rung) (is_markdown prefix e) e (suc n) g (omega arith)) in
    let last : list_all (λ e. not (moves prefix rung) || (not (is_markdown prefix e) || nat_le (e + g) (suc n))) (numbers 1 n) ≡ step_spacing rules (summary rules prefix) rung
    = all_or (moves prefix rung) (λ e. not (is_markdown prefix e) || nat_le (e + g) (suc n)) n
    ∙ ap (λ b. not (moves prefix rung) || b) (all_far prefix g (suc n) n ∙ far_by_age g n (last_markdown prefix n) (last_markdown-le prefix n)) in
    ap (λ k. list_all (λ e. list_all (apart g more e) (numbers 1 k)) (numbers 1 k)) (length_more prefix rung)
    ∙ (all-one_more inner n
    ∙ (ap₂ ◌&&◌
    (all-same inner (λ e. list_all (apart g prefix e) (numbers 1 n) && (not (moves prefix rung) || (not (is_markdown prefix e) || nat_le (e + g) (suc n)))) n early
    ∙ (all-and (λ e. list_all (apart g prefix e) (numbers 1 n)) (λ e. not (moves prefix rung) || (not (is_markdown prefix e) || nat_le (e + g) (suc n))) (numbers 1 n)
    ∙ ap (λ b. list_all (λ e. list_all (apart g prefix e) (numbers 1 n)) (numbers 1 n) && b) last))
    back
    ∙ and-true _))

pub first_cut-more : (rules : Rulebook) (prefix : List ℕ) (rung : ℕ) → keeps_first_cut rules (prefix ++ rung ∷ []) ≡ (keeps_first_cut rules prefix && step_first_cut rules (summary rules prefix) rung)
first_cut-more rules prefix rung =
    each_week-more prefix rung (λ path week. not (is_first_markdown path week) || nat_le ((100 - rules.first_cut) * price rules 1) (100 * price rules (rung_at path week))) (step_first_cut rules (summary rules prefix) rung)
    (λ t low high. ap₂ (λ b r. not b || nat_le ((100 - rules.first_cut) * price rules 1) (100 * price rules r))
    (ap₂ ◌&&◌ (is_markdown-more prefix rung t high) (no_earlier t (omega arith))) (rung_at-more prefix rung t high))
    (ap₂ (λ b r. not b || nat_le ((100 - rules.first_cut) * price rules 1) (100 * price rules r))
    (ap₂ ◌&&◌ (is_markdown-last prefix rung) (ap (λ n. list_all (λ e. not (is_markdown (prefix ++ rung ∷ []) e)) (numbers 1 n)) (back (length prefix)) ∙ (earlier (length prefix) (le_refl (length prefix)) ∙ none-count (is_markdown prefix) (length prefix))))
    (rung_at-last prefix rung))
  where
    back : (n : ℕ) → suc n - 1 ≡ n
    back n = omega arith

    earlier : (n : ℕ) → n ≤ length prefix → list_all (λ e. not (is_markdown (prefix ++ rung ∷ []) e)) (numbers 1 n) ≡ list_all (λ e. not (is_markdown prefix e)) (numbers 1 n)
    earlier n h = all-same (λ e. not (is_markdown (prefix ++ rung ∷ []) e)) (λ e. not (is_markdown prefix e)) n (λ t low high. ap not (is_markdown-more prefix rung t (omega arith)))

    no_earlier : (t : ℕ) → t - 1 ≤ length prefix → list_all (λ e. not (is_markdown (prefix ++ rung ∷ []) e)) (numbers 1 (t - 1)) ≡ list_all (λ e. not (is_markdown prefix e)) (numbers 1 (t - 1))
    no_earlier t h = earlier (t - 1) h

rungs-more : (rules : Rulebook) (prefix : List ℕ) (rung : ℕ) → are_rungs rules (prefix ++ rung ∷ []) ≡ (are_rungs rules prefix && (nat_le 1 rung && nat_le rung (length rules.prices)))
rungs-more rules [] rung = and-true _ ∙ sym (true-and _)
rungs-more rules (x ∷ prefix) rung = ap (λ b. (nat_le 1 x && nat_le x (length rules.prices)) && b) (rungs-more rules prefix rung) ∙ sym (and_assoc _ (are_rungs rules prefix) _)

-- ---- all rules together

seven : (a b c d e f g p q r s t u v : Bool) →
    ((a && p) && ((b && q) && ((c && r) && ((d && s) && ((e && t) && ((f && u) && (g && v))))))) ≡ ((a && (b && (c && (d && (e && (f && g)))))) && (p && (q && (r && (s && (t && (u && v)))))))
seven a b c d e f g p q r s t u v =
    ap (λ x. (a && p) && ((b && q) && ((c && r) && ((d && s) && ((e && t) && x))))) (and_middle f u g v)
    ∙ (ap (λ x. (a && p) && ((b && q) && ((c && r) && ((d && s) && x)))) (and_middle e t (f && g) (u && v))
    ∙ (ap (λ x. (a && p) && ((b && q) && ((c && r) && x))) (and_middle d s (e && (f && g)) (t && (u && v)))
    ∙ (ap (λ x. (a && p) && ((b && q) && x)) (and_middle c r (d && (e && (f && g))) (s && (t && (u && v))))
    ∙ (ap (λ x. (a && p) && x) (and_middle b q (c && (d && (e && (f && g)))) (r && (s && (t && (u && v)))))
    ∙ and_middle a p (b && (c && (d && (e && (f && g))))) (q && (r && (s && (t && (u && v)))))))))

pub keeps-more : (rules : Rulebook) (prefix : List ℕ) (rung : ℕ) → keeps_rules rules (prefix ++ rung ∷ []) ≡ (keeps_rules rules prefix && may_follow rules (length prefix) (summary rules prefix) rung)
keeps-more rules prefix rung =
    let s : Summary = summary rules prefix in
    ap₂ ◌&&◌ (rungs-more rules prefix rung) (ap₂ ◌&&◌ (rise-more rules prefix rung) (ap₂ ◌&&◌ (window-more rules prefix rung) (ap₂ ◌&&◌ (frozen-more rules prefix rung)
    (ap₂ ◌&&◌ (number-more rules prefix rung) (ap₂ ◌&&◌ (spacing-more rules prefix rung) (first_cut-more rules prefix rung))))))
    ∙ seven (are_rungs rules prefix) (keeps_rise prefix) (keeps_window rules prefix) (keeps_frozen rules prefix) (keeps_number rules prefix) (keeps_spacing rules prefix) (keeps_first_cut rules prefix)
    (nat_le 1 rung && nat_le rung (length rules.prices)) (step_rise s rung) (step_window rules (length prefix) rung) (step_frozen rules (length prefix) s rung) (step_number rules s rung) (step_spacing rules s rung) (step_first_cut rules s rung)

pub summary-more : (rules : Rulebook) (prefix : List ℕ) (rung : ℕ) → summary rules (prefix ++ rung ∷ []) ≡ next_summary rules (summary rules prefix) rung
summary-more rules prefix rung = same _ _ _ _ _ _ last (markdowns-more prefix rung) age
  where
    same : (a b c d e f : ℕ) → a ≡ d → b ≡ e → c ≡ f → ◌≡◌ {A = Summary} (record { last = a; count = b; age = c }) (record { last = d; count = e; age = f })
    same a b c d e f p q r = λ i. record { last = p i; count = q i; age = r i }

    last : rung_at (prefix ++ rung ∷ []) (length (prefix ++ rung ∷ [])) ≡ rung
    last = ap (rung_at (prefix ++ rung ∷ [])) (length_more prefix rung) ∙ rung_at-last prefix rung

    by_last : (b : Bool) (k : ℕ) → k ≤ length prefix → age_after rules.spacing (suc (length prefix)) (cond b (suc (length prefix)) k) ≡ min rules.spacing (cond b 0 (age_after rules.spacing (length prefix) k) + 1)
    by_last true k h = here rules.spacing (length prefix)
      where
        here : (g n : ℕ) → min g (suc n + 1 - suc n) ≡ min g (0 + 1)
        here g n = omega arith
    by_last false zero h = omega arith
    by_last false (suc k) h = later rules.spacing (length prefix) k h
      where
        later : (g n k : ℕ) → suc k ≤ n → min g (suc n + 1 - suc k) ≡ min g (min g (n + 1 - suc k) + 1)
        later g n k h = omega arith

    age : age_after rules.spacing (length (prefix ++ rung ∷ [])) (last_markdown (prefix ++ rung ∷ []) (length (prefix ++ rung ∷ []))) ≡ min rules.spacing (cond (moves prefix rung) 0 (age_after rules.spacing (length prefix) (last_markdown prefix (length prefix))) + 1)
    age = ap (λ n. age_after rules.spacing n (last_markdown (prefix ++ rung ∷ []) n)) (length_more prefix rung)
        ∙ (ap₂ (λ b k. age_after rules.spacing (suc (length prefix)) (cond b (suc (length prefix)) k)) (is_markdown-last prefix rung) (last_markdown-same prefix rung (length prefix) (le_refl (length prefix)))
        ∙ by_last (moves prefix rung) (last_markdown prefix (length prefix)) (last_markdown-le prefix (length prefix)))

-- ---- what a path keeps, each prefix of it keeps

pub keeps-prefix : (rules : Rulebook) (prefix rest : List ℕ) → keeps_rules rules (prefix ++ rest) ≡ true → keeps_rules rules prefix ≡ true
keeps-prefix rules prefix [] h = ap (keeps_rules rules) (sym (append-nil prefix)) ∙ h
keeps-prefix rules prefix (rung ∷ rest) h =
    let longer : keeps_rules rules (prefix ++ rung ∷ []) ≡ true = keeps-prefix rules (prefix ++ rung ∷ []) rest (ap (keeps_rules rules) (append_assoc prefix (rung ∷ []) rest) ∙ h) in
    (and_parts _ _ (sym (keeps-more rules prefix rung) ∙ longer)).0

obeys_not : (rules : Rulebook) (path : List ℕ) → (keeps_rules rules path ≡ true → ⊥) → obeys rules path ≡ false
obeys_not rules path h = false_from_ne_true (obeys rules path) (λ o. h (and_parts _ _ o).1)

pub same_summary_same_rest_lem : SameSummarySameRest
same_summary_same_rest_lem rules prefix other long keeps keeps' same [] =
    ap₂ ◌&&◌ (ap (λ n. n == rules.weeks) (ap length (append-nil prefix) ∙ (long ∙ sym (ap length (append-nil other)))))
    ((ap (keeps_rules rules) (append-nil prefix) ∙ keeps) ∙ sym (ap (keeps_rules rules) (append-nil other) ∙ keeps'))
same_summary_same_rest_lem rules prefix other long keeps keeps' same (rung ∷ rest) =
    go (may_follow rules (length prefix) (summary rules prefix) rung) refl
    (λ k k'. same_summary_same_rest_lem rules (prefix ++ rung ∷ []) (other ++ rung ∷ []) (length_more prefix rung ∙ (ap suc long ∙ sym (length_more other rung))) k k'
    (summary-more rules prefix rung ∙ (ap (λ s. next_summary rules s rung) same ∙ sym (summary-more rules other rung))) rest)
  where
    go : (b : Bool) → may_follow rules (length prefix) (summary rules prefix) rung ≡ b →
        (keeps_rules rules (prefix ++ rung ∷ []) ≡ true → keeps_rules rules (other ++ rung ∷ []) ≡ true → obeys rules ((prefix ++ rung ∷ []) ++ rest) ≡ obeys rules ((other ++ rung ∷ []) ++ rest)) →
        obeys rules (prefix ++ (rung ∷ rest)) ≡ obeys rules (other ++ (rung ∷ rest))
    go true e next =
        let here : keeps_rules rules (prefix ++ rung ∷ []) ≡ true = keeps-more rules prefix rung ∙ and_from _ _ keeps e in
        let there : keeps_rules rules (other ++ rung ∷ []) ≡ true = keeps-more rules other rung ∙ and_from _ _ keeps' (ap₂ (λ n s. may_follow rules n s rung) (sym long) (sym same) ∙ e) in
        ap (obeys rules) (sym (append_assoc prefix (rung ∷ []) rest)) ∙ (next here there ∙ ap (obeys rules) (append_assoc other (rung ∷ []) rest))
    go false e next =
        obeys_not rules (prefix ++ (rung ∷ rest)) (λ k. clash (sym e ∙ (and_parts _ _ (sym (keeps-more rules prefix rung) ∙ keeps-prefix rules (prefix ++ rung ∷ []) rest (ap (keeps_rules rules) (append_assoc prefix (rung ∷ []) rest) ∙ k))).1))
        ∙ sym (obeys_not rules (other ++ (rung ∷ rest)) (λ k. clash (sym (ap₂ (λ n s. may_follow rules n s rung) (sym long) (sym same) ∙ e) ∙ (and_parts _ _ (sym (keeps-more rules other rung) ∙ keeps-prefix rules (other ++ rung ∷ []) rest (ap (keeps_rules rules) (append_assoc other (rung ∷ []) rest) ∙ k))).1)))
      where
        clash : false ≡ true → ⊥
        clash h = cc

-- ---- so the same rungs keep both live

pub live_same : (rules : Rulebook) (prefix other : List ℕ) (rung : ℕ) → length prefix ≡ length other → keeps_rules rules prefix ≡ true → keeps_rules rules other ≡ true → summary rules prefix ≡ summary rules other →
    is_live rules (prefix ++ rung ∷ []) ≡ is_live rules (other ++ rung ∷ [])
live_same rules prefix other rung long keeps keeps' same =
    ap₂ (λ n (f : List ℕ → Bool). list_any f (all_lists (rungs rules) n))
    (ap (λ n. rules.weeks - n) (length_more prefix rung ∙ (ap suc long ∙ sym (length_more other rung))))
    (fun_ext (λ rest. ap (obeys rules) (append_assoc prefix (rung ∷ []) rest) ∙ (same_summary_same_rest_lem rules prefix other long keeps keeps' same (rung ∷ rest) ∙ ap (obeys rules) (sym (append_assoc other (rung ∷ []) rest)))))

pub live_rungs_same : (rules : Rulebook) (prefix other : List ℕ) → length prefix ≡ length other → keeps_rules rules prefix ≡ true → keeps_rules rules other ≡ true → summary rules prefix ≡ summary rules other →
    live_rungs rules prefix ≡ live_rungs rules other
live_rungs_same rules prefix other long keeps keeps' same =
    ap (λ (test : ℕ → Bool). filter test (rungs rules)) (fun_ext (λ rung. live_same rules prefix other rung long keeps keeps' same))

-- a live prefix keeps the rules
pub live-keeps : (rules : Rulebook) (prefix : List ℕ) → is_live rules prefix ≡ true → keeps_rules rules prefix ≡ true
live-keeps rules prefix h =
    let (rest, good) = live_witness rules prefix h in
    keeps-prefix rules prefix rest (and_parts _ _ good).1

pub summary_one_more : (rules : Rulebook) (prefix other : List ℕ) (rung : ℕ) → summary rules prefix ≡ summary rules other → summary rules (prefix ++ rung ∷ []) ≡ summary rules (other ++ rung ∷ [])
summary_one_more rules prefix other rung same = summary-more rules prefix rung ∙ (ap (λ s. next_summary rules s rung) same ∙ sym (summary-more rules other rung))

-- ---- the next week, by the summary

true_left : (a b : Bool) → a ≡ true → (a && b) ≡ b
true_left true b h = true-and b
true_left false b h = cc

pub next_by_summary_lem : NextBySummary
next_by_summary_lem rules prefix rung keeps = record {
  keeps = keeps-more rules prefix rung ∙ true_left (keeps_rules rules prefix) _ keeps;
  next = summary-more rules prefix rung;
  live = (forward, back);
}
  where
    forward : IsTrue (is_live rules (prefix ++ rung ∷ [])) → IsTrue (may_follow rules (length prefix) (summary rules prefix) rung) × IsLiveSummary rules (suc (length prefix)) (next_summary rules (summary rules prefix) rung)
    forward live = (
      (and_parts (keeps_rules rules prefix) (may_follow rules (length prefix) (summary rules prefix) rung) (sym (keeps-more rules prefix rung) ∙ live-keeps rules (prefix ++ rung ∷ []) live)).1,
      (prefix ++ rung ∷ [], length_more prefix rung, live, summary-more rules prefix rung),
    )

    back : IsTrue (may_follow rules (length prefix) (summary rules prefix) rung) × IsLiveSummary rules (suc (length prefix)) (next_summary rules (summary rules prefix) rung) → IsTrue (is_live rules (prefix ++ rung ∷ []))
    back h =
        let (other, long, live, same) = h.1 in
        let (rest, good) = live_witness rules other live in
        let here : keeps_rules rules (prefix ++ rung ∷ []) ≡ true = keeps-more rules prefix rung ∙ and_from (keeps_rules rules prefix) (may_follow rules (length prefix) (summary rules prefix) rung) keeps h.0 in
        live_from rules (prefix ++ rung ∷ []) rest
        (same_summary_same_rest_lem rules (prefix ++ rung ∷ []) other (length_more prefix rung ∙ sym long) here (live-keeps rules other live) (summary-more rules prefix rung ∙ sym same) rest ∙ good)
