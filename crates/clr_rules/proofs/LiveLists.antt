-- The summaries of live prefixes as lists: what the two sweeps make, and what stands in it.
use Rattle.std.proofs.Common.{◌≡◌, ℕ, ◌+◌, ◌-◌, ◌<◌, ◌≤◌, min, Bool, true, false, not, cond, ◌&&◌, refl, sym, ap, ap₂, ◌∙◌, subst, arith, suc, zero, List, [], ◌∷◌, ◌++◌, length, nat_le, ◌==◌, eqb→eq, eq-eqb, append_assoc, append-nil, leb→le, le-leb}
use Rattle.std.specs.List.{list_any}
use Rattle.std.specs.Bool.{passes}
use Rattle.clr_rules.specs.declared.season_rules.Summary.{Summary}
use Rattle.clr_rules.specs.Rules.{Rulebook, rungs, keeps_rules, are_rungs, obeys, is_live, summary, most_markdowns, IsRulebook, IsInRange, IsLiveSummary, HasSummary, may_follow, next_summary, turns, step_rise, step_window, step_frozen, step_number}
use Rattle.clr_rules.specs.LiveSummaries.{same_summary, is_live_summary, is_reached, leads_at, leads_on, IsHeld}
use Rattle.std.proofs.lemmas.Bool.{and_parts, and_from}
use Rattle.clr_rules.proofs.ListTests.{all_lists-witness, any-witness, any-numbers}
use Rattle.clr_rules.proofs.LiveLemmas.{any-rungs, live_from, live_witness, live-next, live-rung}
use Rattle.clr_rules.proofs.SummaryLemmas.{keeps-more, summary-more, live-keeps, next_by_summary_lem}
use Rattle.clr_rules.proofs.WeekTests.{length_more}

-- ---- tests of equality

pub same_is : (s t : Summary) → same_summary s t ≡ true → s ≡ t
same_is s t h =
    let one = and_parts (s.last == t.last) ((s.count == t.count) && (s.age == t.age)) h in
    let two = and_parts (s.count == t.count) (s.age == t.age) one.1 in
    let a : s.last ≡ t.last = eqb→eq s.last t.last (passes _ one.0) in
    let b : s.count ≡ t.count = eqb→eq s.count t.count (passes _ two.0) in
    let c : s.age ≡ t.age = eqb→eq s.age t.age (passes _ two.1) in
    λ i. record { last = a i; count = b i; age = c i }

pub same_self : (s : Summary) → same_summary s s ≡ true
same_self s = and_from _ _ (eq-eqb s.last s.last refl) (and_from _ _ (eq-eqb s.count s.count refl) (eq-eqb s.age s.age refl))

pub bool_ext : (a b : Bool) → (a ≡ true → b ≡ true) → (b ≡ true → a ≡ true) → a ≡ b
bool_ext true true f g = refl
bool_ext true false f g = sym (f refl)
bool_ext false true f g = g refl
bool_ext false false f g = refl

-- ---- the tests, and what they say

pub reached-witness : (rules : Rulebook) (done : ℕ) (s : Summary) → is_reached rules done s ≡ true → (prefix : List ℕ) × HasSummary rules done s prefix
reached-witness rules done s h =
    let (prefix, good, long) = all_lists-witness (λ prefix. keeps_rules rules prefix && same_summary s (summary rules prefix)) (rungs rules) done h in
    let parts = and_parts (keeps_rules rules prefix) (same_summary s (summary rules prefix)) good in
    (prefix, record { weeks = long; keeps = parts.0; same = sym (same_is s (summary rules prefix) parts.1) })

keeps-rungs : (rules : Rulebook) (prefix : List ℕ) → keeps_rules rules prefix ≡ true → are_rungs rules prefix ≡ true
keeps-rungs rules prefix h = (and_parts _ _ h).0

same_as : (s t : Summary) → t ≡ s → same_summary s t ≡ true
same_as s t e = ap (same_summary s) e ∙ same_self s

pub reached-by : (rules : Rulebook) (done : ℕ) (s : Summary) (prefix : List ℕ) → HasSummary rules done s prefix → is_reached rules done s ≡ true
reached-by rules done s prefix h =
    subst (λ n. is_reached rules n s ≡ true) h.weeks
    (any-rungs rules (λ prefix. keeps_rules rules prefix && same_summary s (summary rules prefix)) prefix (keeps-rungs rules prefix h.keeps)
    (and_from (keeps_rules rules prefix) (same_summary s (summary rules prefix)) h.keeps (same_as s (summary rules prefix) h.same)))

pub live-prefix : (rules : Rulebook) (done : ℕ) (s : Summary) → is_live_summary rules done s ≡ true → IsLiveSummary rules done s
live-prefix rules done s h =
    let (prefix, good, long) = all_lists-witness (λ prefix. is_live rules prefix && same_summary s (summary rules prefix)) (rungs rules) done h in
    let parts = and_parts (is_live rules prefix) (same_summary s (summary rules prefix)) good in
    (prefix, long, parts.0, sym (same_is s (summary rules prefix) parts.1))

pub live-by : (rules : Rulebook) (done : ℕ) (s : Summary) → IsLiveSummary rules done s → is_live_summary rules done s ≡ true
live-by rules done s (prefix, long, live, same) =
    subst (λ n. is_live_summary rules n s ≡ true) long
    (any-rungs rules (λ prefix. is_live rules prefix && same_summary s (summary rules prefix)) prefix (keeps-rungs rules prefix (live-keeps rules prefix live))
    (and_from (is_live rules prefix) (same_summary s (summary rules prefix)) live (same_as s (summary rules prefix) same)))

pub live-reached : (rules : Rulebook) (done : ℕ) (s : Summary) → is_live_summary rules done s ≡ true → is_reached rules done s ≡ true
live-reached rules done s h =
    let (prefix, long, live, same) = live-prefix rules done s h in
    reached-by rules done s prefix (record { weeks = long; keeps = live-keeps rules prefix live; same = same })

-- ---- the last week, and a week before it

pub last_week : (rules : Rulebook) (s : Summary) → is_live_summary rules rules.weeks s ≡ is_reached rules rules.weeks s
last_week rules s = bool_ext _ _ (live-reached rules rules.weeks s) (λ h. let (prefix, has) = reached-witness rules rules.weeks s h in
    live-by rules rules.weeks s (prefix, has.weeks, live_from rules prefix [] (ap (obeys rules) (append-nil prefix) ∙ and_from _ _ (eq-eqb (length prefix) rules.weeks has.weeks) has.keeps), has.same))

pub in_rungs : (rules : Rulebook) (test : ℕ → Bool) (rung : ℕ) → 1 ≤ rung → rung ≤ length rules.prices → test rung ≡ true → list_any test (rungs rules) ≡ true
in_rungs rules test rung low high h = any-numbers test 1 (length rules.prices) rung low (omega arith) h

-- after a prefix that keeps the rules a rung leads to a live summary exactly where the longer prefix is live
pub leads-live : (rules : Rulebook) (done : ℕ) (s : Summary) (prefix : List ℕ) (rung : ℕ) → HasSummary rules done s prefix → leads_at rules done s rung ≡ is_live rules (prefix ++ rung ∷ [])
leads-live rules done s prefix rung has =
    sym (ap₂ (λ n t. leads_at rules n t rung) has.weeks has.same) ∙ bool_ext (leads_at rules (length prefix) (summary rules prefix) rung) (is_live rules (prefix ++ rung ∷ [])) forward back
  where
    forward : leads_at rules (length prefix) (summary rules prefix) rung ≡ true → is_live rules (prefix ++ rung ∷ []) ≡ true
    forward h =
        let parts = and_parts (may_follow rules (length prefix) (summary rules prefix) rung) (is_live_summary rules (suc (length prefix)) (next_summary rules (summary rules prefix) rung)) h in
        (next_by_summary_lem rules prefix rung has.keeps).live.1 (parts.0, live-prefix rules (suc (length prefix)) (next_summary rules (summary rules prefix) rung) parts.1)

    back : is_live rules (prefix ++ rung ∷ []) ≡ true → leads_at rules (length prefix) (summary rules prefix) rung ≡ true
    back h =
        let there = (next_by_summary_lem rules prefix rung has.keeps).live.0 h in
        and_from (may_follow rules (length prefix) (summary rules prefix) rung) (is_live_summary rules (suc (length prefix)) (next_summary rules (summary rules prefix) rung)) there.0 (live-by rules (suc (length prefix)) (next_summary rules (summary rules prefix) rung) there.1)

-- a front of a live prefix is live
pub live-front : (rules : Rulebook) (prefix : List ℕ) (rung : ℕ) → is_live rules (prefix ++ rung ∷ []) ≡ true → is_live rules prefix ≡ true
live-front rules prefix rung live =
    let (rest, good) = live_witness rules (prefix ++ rung ∷ []) live in
    live_from rules prefix (rung ∷ rest) (ap (obeys rules) (sym (append_assoc prefix (rung ∷ []) rest)) ∙ good)

pub earlier_week : (rules : Rulebook) (done : ℕ) (s : Summary) → done < rules.weeks → is_live_summary rules done s ≡ (is_reached rules done s && leads_on rules done s)
earlier_week rules done s early = bool_ext _ _ forward back
  where
    forward : is_live_summary rules done s ≡ true → (is_reached rules done s && leads_on rules done s) ≡ true
    forward h =
        let (prefix, long, live, same) = live-prefix rules done s h in
        let (rung, next) = live-next rules prefix live (subst (λ n. n < rules.weeks) (sym long) early) in
        let range = live-rung rules prefix rung next in
        let has : HasSummary rules done s prefix = record { weeks = long; keeps = live-keeps rules prefix live; same = same } in
        and_from (is_reached rules done s) (leads_on rules done s) (live-reached rules done s h)
        (in_rungs rules (leads_at rules done s) rung range.0 range.1 (leads-live rules done s prefix rung has ∙ next))

    back : (is_reached rules done s && leads_on rules done s) ≡ true → is_live_summary rules done s ≡ true
    back h =
        let parts = and_parts (is_reached rules done s) (leads_on rules done s) h in
        let (prefix, has) = reached-witness rules done s parts.0 in
        let (rung, good, there) = any-witness (leads_at rules done s) (rungs rules) parts.1 in
        live-by rules done s (prefix, has.weeks, live-front rules prefix rung (sym (leads-live rules done s prefix rung has) ∙ good), has.same)

-- ---- one week more

pub split_last : (list : List ℕ) (n : ℕ) → length list ≡ suc n → (front : List ℕ) × (last : ℕ) × (list ≡ front ++ last ∷ []) × (length front ≡ n)
split_last [] n h = cc
split_last (x ∷ []) n h = ([], x, refl, omega arith)
split_last (x ∷ (y ∷ list)) zero h = absurd (none h)
  where
    none : suc (suc (length list)) ≡ 1 → ⊥
    none h = omega arith
split_last (x ∷ (y ∷ list)) (suc n) h =
    let (front, last, is, long) = split_last (y ∷ list) n (less h) in (x ∷ front, last, ap (λ t. x ∷ t) is, ap suc long)
  where
    less : suc (suc (length list)) ≡ suc (suc n) → suc (length list) ≡ suc n
    less h = omega arith

pub reached_more : (rules : Rulebook) (done : ℕ) (s : Summary) (rung : ℕ) → is_reached rules done s ≡ true → may_follow rules done s rung ≡ true → is_reached rules (suc done) (next_summary rules s rung) ≡ true
reached_more rules done s rung reached follows =
    let (prefix, has) = reached-witness rules done s reached in
    reached-by rules (suc done) (next_summary rules s rung) (prefix ++ rung ∷ []) (record {
      weeks = length_more prefix rung ∙ ap suc has.weeks;
      keeps = keeps-more rules prefix rung ∙ and_from (keeps_rules rules prefix) (may_follow rules (length prefix) (summary rules prefix) rung) has.keeps (ap₂ (λ n t. may_follow rules n t rung) has.weeks has.same ∙ follows);
      same = summary-more rules prefix rung ∙ ap (λ t. next_summary rules t rung) has.same;
    })

pub reached_back : (rules : Rulebook) (done : ℕ) (t : Summary) → is_reached rules (suc done) t ≡ true → (s : Summary) × (rung : ℕ) × (is_reached rules done s ≡ true) × (may_follow rules done s rung ≡ true) × (next_summary rules s rung ≡ t)
reached_back rules done t reached =
    let (path, has) = reached-witness rules (suc done) t reached in
    let (prefix, rung, is, long) = split_last path done has.weeks in
    let parts = and_parts (keeps_rules rules prefix) (may_follow rules (length prefix) (summary rules prefix) rung) (sym (keeps-more rules prefix rung) ∙ (ap (keeps_rules rules) (sym is) ∙ has.keeps)) in (
      summary rules prefix,
      rung,
      reached-by rules done (summary rules prefix) prefix (record { weeks = long; keeps = parts.0; same = refl }),
      ap (λ n. may_follow rules n (summary rules prefix) rung) (sym long) ∙ parts.1,
      sym (summary-more rules prefix rung) ∙ (ap (summary rules) (sym is) ∙ has.same),
    )

-- ---- what is reached lies in range

pub record IsBounded (rules : Rulebook) (done : ℕ) (s : Summary) : Type 0 where
  pub low : 1 ≤ s.last
  pub high : s.last ≤ length rules.prices
  pub allowed : s.count ≤ rules.markdowns
  pub lower : s.count < s.last
  pub weeks : s.count ≤ done
  pub young : 1 ≤ s.age
  pub old : s.age ≤ rules.spacing

pub rung_range : (rules : Rulebook) (done : ℕ) (s : Summary) (rung : ℕ) → may_follow rules done s rung ≡ true → (1 ≤ rung) × (rung ≤ length rules.prices)
rung_range rules done s rung h =
    let rung_ok = and_parts (nat_le 1 rung) (nat_le rung (length rules.prices)) (and_parts (nat_le 1 rung && nat_le rung (length rules.prices)) _ h).0 in
    (leb→le 1 rung (passes _ rung_ok.0), leb→le rung (length rules.prices) (passes _ rung_ok.1))

bounded_more : (rules : Rulebook) (done : ℕ) (s : Summary) (rung : ℕ) → 1 ≤ rules.spacing → IsBounded rules done s → may_follow rules done s rung ≡ true → IsBounded rules (suc done) (next_summary rules s rung)
bounded_more rules done s rung near b h =
    let range = rung_range rules done s rung h in
    let one = (and_parts (nat_le 1 rung && nat_le rung (length rules.prices)) _ h).1 in
    let rise = and_parts (step_rise s rung) _ one in
    let window = and_parts (step_window rules done rung) _ rise.1 in
    let frozen = and_parts (step_frozen rules done s rung) _ window.1 in
    let number = and_parts (step_number rules s rung) _ frozen.1 in
    let no_less : s.last ≤ rung = leb→le s.last rung (passes _ rise.0) in
    let few : s.count + cond (turns s rung) 1 0 ≤ rules.markdowns = leb→le _ rules.markdowns (passes _ number.0) in
    let counted = lower (rung == s.last) refl no_less in
    record {
      low = range.0;
      high = range.1;
      allowed = few;
      lower = counted.0;
      weeks = counted.1;
      young = young (turns s rung);
      old = old (turns s rung);
    }
  where
    lower : (e : Bool) → (rung == s.last) ≡ e → s.last ≤ rung → (s.count + cond (not (rung == s.last)) 1 0 < rung) × (s.count + cond (not (rung == s.last)) 1 0 ≤ suc done)
    lower true e le = subst (λ x. (s.count + cond (not x) 1 0 < rung) × (s.count + cond (not x) 1 0 ≤ suc done)) (sym e) (same_rung b.lower b.weeks le)
      where
        same_rung : s.count < s.last → s.count ≤ done → s.last ≤ rung → (s.count + 0 < rung) × (s.count + 0 ≤ suc done)
        same_rung p q r = (omega arith, omega arith)
    lower false e le = subst (λ x. (s.count + cond (not x) 1 0 < rung) × (s.count + cond (not x) 1 0 ≤ suc done)) (sym e) (other_rung (differ e) b.lower b.weeks le)
      where
        differ : (rung == s.last) ≡ false → rung ≡ s.last → ⊥
        differ f g = let clash : true ≡ false = sym (eq-eqb rung s.last g) ∙ f in cc

        other_rung : (rung ≡ s.last → ⊥) → s.count < s.last → s.count ≤ done → s.last ≤ rung → (s.count + 1 < rung) × (s.count + 1 ≤ suc done)
        other_rung n p q r = (omega arith, omega arith)

    young : (t : Bool) → 1 ≤ min rules.spacing (cond t 0 s.age + 1)
    young true = omega arith
    young false = omega arith

    old : (t : Bool) → min rules.spacing (cond t 0 s.age + 1) ≤ rules.spacing
    old true = omega arith
    old false = omega arith

pub bounded : (rules : Rulebook) (done : ℕ) (s : Summary) → 1 ≤ rules.spacing → 1 ≤ length rules.prices → is_reached rules done s ≡ true → IsBounded rules done s
bounded rules zero s near some reached =
    let (prefix, has) = reached-witness rules zero s reached in go prefix has.weeks has.same
  where
    start : IsBounded rules 0 (summary rules [])
    start = record { low = omega arith; high = some; allowed = omega arith; lower = omega arith; weeks = omega arith; young = near; old = omega arith }

    go : (prefix : List ℕ) → length prefix ≡ 0 → summary rules prefix ≡ s → IsBounded rules 0 s
    go [] long same = subst (IsBounded rules 0) same start
    go (x ∷ prefix) long same = absurd (none long)
      where
        none : suc (length prefix) ≡ 0 → ⊥
        none h = omega arith
bounded rules (suc done) t near some reached =
    let (s, rung, before, follows, is) = reached_back rules done t reached in
    subst (IsBounded rules (suc done)) is (bounded_more rules done s rung near (bounded rules done s near some before) follows)

pub in_range : (rules : Rulebook) (done : ℕ) (s : Summary) → IsRulebook rules → done ≤ rules.weeks → is_reached rules done s ≡ true → IsInRange rules s
in_range rules done s is early reached =
    let b = bounded rules done s is.near is.ladder.some reached in
    record { low = b.low; high = b.high; count = least s.count rules.markdowns (length rules.prices) rules.weeks done s.last b.allowed b.lower b.high b.weeks early; young = b.young; old = b.old }
  where
    least : (c m l w d last : ℕ) → c ≤ m → c < last → last ≤ l → c ≤ d → d ≤ w → c ≤ min m (min (l - 1) w)
    least c m l w d last p q r t u = omega arith

pub held : (rules : Rulebook) (s : Summary) → IsInRange rules s → IsHeld (length rules.prices) (suc (most_markdowns rules)) rules.spacing s
held rules s h = record { low = h.low; high = h.high; count = below h.count; young = h.young; old = h.old }
  where
    below : s.count ≤ most_markdowns rules → s.count < suc (most_markdowns rules)
    below p = omega arith

pub ranged : (rules : Rulebook) (s : Summary) → IsHeld (length rules.prices) (suc (most_markdowns rules)) rules.spacing s → IsInRange rules s
ranged rules s h = record { low = h.low; high = h.high; count = above h.count; young = h.young; old = h.old }
  where
    above : s.count < suc (most_markdowns rules) → s.count ≤ most_markdowns rules
    above p = omega arith

-- no weeks keep the rules
pub empty-keeps : (rules : Rulebook) → keeps_rules rules [] ≡ true
empty-keeps rules = number (min 0 rules.markdowns) (omega arith)
  where
    number : (k : ℕ) → k ≡ 0 → keeps_rules rules [] ≡ true
    number k h = ap (λ b. true && (true && (true && (true && (b && (true && true)))))) (le-leb 0 rules.markdowns (omega arith))
