-- The first rule that the next week breaks, by the summary and by the prefix.
use Rattle.std.proofs.Common.{◌≡◌, ℕ, ◌≤◌, Bool, true, false, not, cond, ◌&&◌, refl, sym, ap, ap₂, ◌∙◌, List, [], ◌∷◌, ◌++◌, length, nat_le, Option, Some, None, le-leb}
use Rattle.clr_rules.specs.declared.season_rules.Summary.{Summary}
use Rattle.clr_rules.specs.declared.season_rules.Rule.{Rule}
use Rattle.clr_rules.specs.declared.season_rules.Rule.TheVariants.{Rise, Window as WindowRule, Frozen, Number, Spacing, FirstCut}
use Rattle.clr_rules.specs.Rules.{Rulebook, keeps_rules, keeps_rise, keeps_window, keeps_frozen, keeps_number, keeps_spacing, keeps_first_cut, are_rungs, summary, HasSummary, longer_summary, first_broken, breaks_first, may_follow, next_summary, next_if_kept, step_rise, step_window, step_frozen, step_number, step_spacing, step_first_cut}
use Rattle.std.proofs.lemmas.Bool.{and_parts}
use Rattle.clr_rules.proofs.SummaryLemmas.{rise-more, window-more, frozen-more, number-more, spacing-more, first_cut-more, next_by_summary_lem}

-- the first of six tests that fails
abbrev pub first_of : Bool → Bool → Bool → Bool → Bool → Bool → Option Rule
first_of a b c d e f =
    cond (not a) (Some Rise) (cond (not b) (Some WindowRule) (cond (not c) (Some Frozen) (cond (not d) (Some Number) (cond (not e) (Some Spacing) (cond (not f) (Some FirstCut) None)))))

none-kept : (a b c d e f : Bool) → first_of a b c d e f ≡ None → (a && (b && (c && (d && (e && f))))) ≡ true
none-kept false b c d e f h = cc
none-kept true false c d e f h = cc
none-kept true true false d e f h = cc
none-kept true true true false e f h = cc
none-kept true true true true false f h = cc
none-kept true true true true true false h = cc
none-kept true true true true true true h = refl

some-broken : (a b c d e f : Bool) (x : Rule) → first_of a b c d e f ≡ Some x → (a && (b && (c && (d && (e && f))))) ≡ false
some-broken false b c d e f x h = refl
some-broken true false c d e f x h = refl
some-broken true true false d e f x h = refl
some-broken true true true false e f x h = refl
some-broken true true true true false f x h = refl
some-broken true true true true true false x h = refl
some-broken true true true true true true x h = cc

both : (r a : Bool) (v : Bool) → r ≡ true → a ≡ v → (r && a) ≡ v
both true true v p q = q
both true false v p q = q
both false a v p q = cc

in_ladder : (rung count : ℕ) → 1 ≤ rung → rung ≤ count → (nat_le 1 rung && nat_le rung count) ≡ true
in_ladder rung count low high = both (nat_le 1 rung) (nat_le rung count) true (le-leb 1 rung low) (le-leb rung count high)

pub unbroken : (rules : Rulebook) (done : ℕ) (s : Summary) (rung : ℕ) → 1 ≤ rung → rung ≤ length rules.prices → breaks_first rules done s rung ≡ None → may_follow rules done s rung ≡ true
unbroken rules done s rung low high h =
    both (nat_le 1 rung && nat_le rung (length rules.prices)) _ true (in_ladder rung (length rules.prices) low high)
    (none-kept (step_rise s rung) (step_window rules done rung) (step_frozen rules done s rung) (step_number rules s rung) (step_spacing rules s rung) (step_first_cut rules s rung) h)

pub breached : (rules : Rulebook) (done : ℕ) (s : Summary) (rung : ℕ) (rule : Rule) → 1 ≤ rung → rung ≤ length rules.prices → breaks_first rules done s rung ≡ Some rule → may_follow rules done s rung ≡ false
breached rules done s rung rule low high h =
    both (nat_le 1 rung && nat_le rung (length rules.prices)) _ false (in_ladder rung (length rules.prices) low high)
    (some-broken (step_rise s rung) (step_window rules done rung) (step_frozen rules done s rung) (step_number rules s rung) (step_spacing rules s rung) (step_first_cut rules s rung) rule h)

pub next-kept : (rules : Rulebook) (done : ℕ) (s : Summary) (rung : ℕ) (t : Summary) → 1 ≤ rung → rung ≤ length rules.prices → breaks_first rules done s rung ≡ None → t ≡ next_summary rules s rung → Some t ≡ next_if_kept rules done s rung
next-kept rules done s rung t low high h e =
    ap (λ x. Some x) e ∙ sym (ap (λ b. cond b (Some (next_summary rules s rung)) None) (unbroken rules done s rung low high h))

pub next-broken : (rules : Rulebook) (done : ℕ) (s : Summary) (rung : ℕ) (rule : Rule) → 1 ≤ rung → rung ≤ length rules.prices → breaks_first rules done s rung ≡ Some rule → None ≡ next_if_kept rules done s rung
next-broken rules done s rung rule low high h =
    sym (ap (λ b. cond b (Some (next_summary rules s rung)) None) (breached rules done s rung rule low high h))

kept_so_far : (whole before step : Bool) → whole ≡ (before && step) → before ≡ true → whole ≡ step
kept_so_far whole true true h p = h
kept_so_far whole true false h p = h
kept_so_far whole false step h p = cc

-- after a prefix that keeps the rules
pub breaks-by_prefix : (rules : Rulebook) (prefix : List ℕ) (rung : ℕ) → keeps_rules rules prefix ≡ true → first_broken rules (prefix ++ rung ∷ []) ≡ breaks_first rules (length prefix) (summary rules prefix) rung
breaks-by_prefix rules prefix rung keeps =
    let more = and_parts (are_rungs rules prefix) (keeps_rise prefix && (keeps_window rules prefix && (keeps_frozen rules prefix && (keeps_number rules prefix && (keeps_spacing rules prefix && keeps_first_cut rules prefix))))) keeps in
    let rise = and_parts (keeps_rise prefix) (keeps_window rules prefix && (keeps_frozen rules prefix && (keeps_number rules prefix && (keeps_spacing rules prefix && keeps_first_cut rules prefix)))) more.1 in
    let window = and_parts (keeps_window rules prefix) (keeps_frozen rules prefix && (keeps_number rules prefix && (keeps_spacing rules prefix && keeps_first_cut rules prefix))) rise.1 in
    let frozen = and_parts (keeps_frozen rules prefix) (keeps_number rules prefix && (keeps_spacing rules prefix && keeps_first_cut rules prefix)) window.1 in
    let number = and_parts (keeps_number rules prefix) (keeps_spacing rules prefix && keeps_first_cut rules prefix) frozen.1 in
    let spacing = and_parts (keeps_spacing rules prefix) (keeps_first_cut rules prefix) number.1 in
    let a = kept_so_far _ _ _ (rise-more rules prefix rung) rise.0 in
    let b = kept_so_far _ _ _ (window-more rules prefix rung) window.0 in
    let c = kept_so_far _ _ _ (frozen-more rules prefix rung) frozen.0 in
    let d = kept_so_far _ _ _ (number-more rules prefix rung) number.0 in
    let e = kept_so_far _ _ _ (spacing-more rules prefix rung) spacing.0 in
    let f = kept_so_far _ _ _ (first_cut-more rules prefix rung) spacing.1 in
    λ i. first_of (a i) (b i) (c i) (d i) (e i) (f i)

pub broken-by_prefix : (rules : Rulebook) (done : ℕ) (s : Summary) (rung : ℕ) (prefix : List ℕ) → HasSummary rules done s prefix → breaks_first rules done s rung ≡ first_broken rules (prefix ++ rung ∷ [])
broken-by_prefix rules done s rung prefix h =
    sym (breaks-by_prefix rules prefix rung h.keeps ∙ ap₂ (λ n t. breaks_first rules n t rung) h.weeks h.same)

pub next-by_prefix : (rules : Rulebook) (done : ℕ) (s : Summary) (rung : ℕ) (prefix : List ℕ) → HasSummary rules done s prefix → next_if_kept rules done s rung ≡ longer_summary rules (prefix ++ rung ∷ [])
next-by_prefix rules done s rung prefix h =
    let follows = next_by_summary_lem rules prefix rung h.keeps in
    sym (ap₂ (λ b t. cond b (Some t) None) follows.keeps follows.next ∙ ap₂ (λ n t. next_if_kept rules n t rung) h.weeks h.same)
