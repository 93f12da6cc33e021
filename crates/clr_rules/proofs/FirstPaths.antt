-- The first obeying path, week by week, and whether there is one.
use Rattle.std.proofs.Common.{◌≡◌, ◌⊎◌, ℕ, ◌+◌, ◌<◌, ◌≤◌, true, false, refl, sym, ap, ap₂, ◌∙◌, subst, arith, suc, List, [], ◌∷◌, ◌++◌, length, append-nil, inl, inr, Some}
use Rattle.std.proofs.lemmas.Bool.{and_parts, cases_order, false_from_ne_true, both_ways}
use Rattle.std.proofs.lemmas.List.{nil_from_length}
use Rattle.clr_rules.specs.declared.season_rules.Summary.{Summary}
use Rattle.clr_rules.specs.Rules.{Rulebook, IsPath, IsRulebook, HasSummary, is_live, next_if_kept, next_summary, obeys, rung_at, summary}
use Rattle.clr_rules.specs.LiveSummaries.{IsAmong, at_week, is_live_summary, is_reached, leads_at, leads_on, live_pairs, live_summaries}
use Rattle.clr_rules.specs.FirstPath.{ComesBefore, IsFirstObeying, IsLeastLead, OneFirstObeying, SomeOrNoneObeys}
use Rattle.clr_rules.proofs.LiveLaw.{week_is}
use Rattle.clr_rules.proofs.LiveLemmas.{live-rung, live-whole, live_from, live_witness, obeys-are_rungs, obeys-length}
use Rattle.clr_rules.proofs.LiveLists.{earlier_week, leads-live, live-by, live-front, split_last}
use Rattle.clr_rules.proofs.SummaryLemmas.{live-keeps, summary-more}
use Rattle.clr_rules.proofs.Sweeps.{NoneBelow, kept_some, none_leads, not_live_no_lead, rung_leads}
use Rattle.clr_rules.proofs.WeekTests.{length_more, rung_at-last, rung_at-more}

-- ---- the order of lists

-- it stands where both lists get a week more
before_more : (path other : List ℕ) (rung last : ℕ) → length path ≡ length other → ComesBefore path other → ComesBefore (path ++ rung ∷ []) (other ++ last ∷ [])
before_more path other rung last long h = record {
  week = h.week;
  first = h.first;
  last = let more = length_more path rung in let here = h.last in omega arith;
  same = λ earlier low high. rung_at-more path rung earlier (below earlier high h.last) ∙ (h.same earlier low high ∙ sym (rung_at-more other last earlier (subst (λ n. earlier ≤ n) long (below earlier high h.last))));
  less = let a = rung_at-more path rung h.week h.last in let b = rung_at-more other last h.week (subst (λ n. h.week ≤ n) long h.last) in let c = h.less in omega arith;
}
  where
    below : (earlier : ℕ) → earlier < h.week → h.week ≤ length path → earlier ≤ length path
    below earlier p q = omega arith

-- the lesser rung in the last week
before_last : (path : List ℕ) (rung last : ℕ) → rung < last → ComesBefore (path ++ rung ∷ []) (path ++ last ∷ [])
before_last path rung last h = record {
  week = suc (length path);
  first = omega arith;
  last = let more = length_more path rung in omega arith;
  same = λ earlier low high. rung_at-more path rung earlier (below earlier high) ∙ sym (rung_at-more path last earlier (below earlier high));
  less = let a = rung_at-last path rung in let b = rung_at-last path last in omega arith;
}
  where
    below : (earlier : ℕ) → earlier < suc (length path) → earlier ≤ length path
    below earlier p = omega arith

before_once : (path other : List ℕ) → ComesBefore path other → ComesBefore other path → ⊥
before_once path other h g =
    elim (cases_order h.week g.week) [
      | inl same ↦ both (subst (λ week. rung_at path week < rung_at other week) same h.less) g.less
      | inr apart ↦ elim apart [ inl earlier ↦ unequal (g.same h.week h.first earlier) h.less | inr later ↦ unequal (h.same g.week g.first later) g.less ]
    ]
  where
    both : {a b : ℕ} → a < b → b < a → ⊥
    both p q = omega arith

    unequal : {a b : ℕ} → b ≡ a → a < b → ⊥
    unequal p q = omega arith

pub one_first_obeying_lem : OneFirstObeying
one_first_obeying_lem rules path other p q =
    elim (p.first other q.obeying) [
      | inl e ↦ sym e
      | inr before ↦ elim (q.first path p.obeying) [ inl e ↦ e | inr after ↦ absurd (before_once path other before after) ]
    ]

-- ---- whether some path obeys

pub some_or_none_obeys_lem : SomeOrNoneObeys
some_or_none_obeys_lem rules = record {
  some = (live_witness rules [], λ h. live_from rules [] h.0 h.1);
  none = (λ unlive path obeying. both_ways (is_live rules []) unlive (live_from rules [] path obeying), λ none. false_from_ne_true (is_live rules []) (λ live. let (path, obeying) = live_witness rules [] live in none path obeying));
}

-- ---- week by week

-- so far: a live prefix of a length, with its summary, that comes before all others
pub record IsFirstLive (rules : Rulebook) (done : ℕ) (s : Summary) (path : List ℕ) : Type 0 where
  pub weeks : length path ≡ done
  pub live : is_live rules path ≡ true
  pub same : summary rules path ≡ s
  pub first : (other : List ℕ) → length other ≡ done → is_live rules other ≡ true → (other ≡ path) ⊎ ComesBefore path other

pub none_done : (rules : Rulebook) (s : Summary) (path : List ℕ) → is_live rules [] ≡ true → s ≡ summary rules [] → path ≡ [] → IsFirstLive rules 0 s path
none_done rules s path live start empty =
    subst (λ (list : List ℕ). IsFirstLive rules 0 s list) (sym empty)
    (record { weeks = refl; live = live; same = sym start; first = λ other long _. inl (nil_from_length other long) })

pub here_live : (rules : Rulebook) (done : ℕ) (s : Summary) (path : List ℕ) → IsFirstLive rules done s path → is_live_summary rules done s ≡ true
here_live rules done s path f = live-by rules done s (path, f.weeks, f.live, f.same)

longer_first : (rules : Rulebook) (done : ℕ) (s : Summary) (path : List ℕ) (rung : ℕ) (next : Summary) → IsFirstLive rules done s path → IsLeastLead rules done s rung next → IsFirstLive rules (suc done) next (path ++ rung ∷ [])
longer_first rules done s path rung next f lead = record {
  weeks = length_more path rung ∙ ap suc f.weeks;
  live = sym (leads-live rules done s path rung has) ∙ lead.leads;
  same = summary-more rules path rung ∙ (ap (λ t. next_summary rules t rung) f.same ∙ sym lead.next_is);
  first = first;
}
  where
    has : HasSummary rules done s path
    has = record { weeks = f.weeks; keeps = live-keeps rules path f.live; same = f.same }

    by_rung : (last : ℕ) → is_live rules (path ++ last ∷ []) ≡ true → (path ++ last ∷ [] ≡ path ++ rung ∷ []) ⊎ ComesBefore (path ++ rung ∷ []) (path ++ last ∷ [])
    by_rung last live =
        elim (cases_order last rung) [
          | inl e ↦ inl (ap (λ r. path ++ r ∷ []) e)
          | inr apart ↦ elim apart [
            | inl lesser ↦ absurd (both_ways (leads_at rules done s last) (lead.least last (live-rung rules path last live).0 lesser) (leads-live rules done s path last has ∙ live))
            | inr greater ↦ inr (before_last path rung last greater)
          ]
        ]

    split : (front : List ℕ) (last : ℕ) → length front ≡ done → is_live rules (front ++ last ∷ []) ≡ true → (front ++ last ∷ [] ≡ path ++ rung ∷ []) ⊎ ComesBefore (path ++ rung ∷ []) (front ++ last ∷ [])
    split front last long live =
        elim (f.first front long (live-front rules front last live)) [
          | inl e ↦ subst (λ (list : List ℕ). (list ++ last ∷ [] ≡ path ++ rung ∷ []) ⊎ ComesBefore (path ++ rung ∷ []) (list ++ last ∷ [])) (sym e) (by_rung last (ap (λ (list : List ℕ). is_live rules (list ++ last ∷ [])) (sym e) ∙ live))
          | inr before ↦ inr (before_more path front rung last (f.weeks ∙ sym long) before)
        ]

    first : (other : List ℕ) → length other ≡ suc done → is_live rules other ≡ true → (other ≡ path ++ rung ∷ []) ⊎ ComesBefore (path ++ rung ∷ []) other
    first other long live =
        let (front, last, is, front_long) = split_last other done long in
        subst (λ (list : List ℕ). (list ≡ path ++ rung ∷ []) ⊎ ComesBefore (path ++ rung ∷ []) list) (sym is) (split front last front_long (ap (is_live rules) (sym is) ∙ live))

pub one_week_more : (rules : Rulebook) (done : ℕ) (s : Summary) (path longer : List ℕ) (rung : ℕ) (next : Summary) (n : ℕ) → IsFirstLive rules done s path → IsLeastLead rules done s rung next → n ≡ suc done → longer ≡ path ++ rung ∷ [] → IsFirstLive rules n next longer
one_week_more rules done s path longer rung next n f lead count is =
    subst (λ (list : List ℕ). IsFirstLive rules n next list) (sym is) (subst (λ k. IsFirstLive rules k next (path ++ rung ∷ [])) (sym count) (longer_first rules done s path rung next f lead))

pub all_done : (rules : Rulebook) (s : Summary) (path : List ℕ) (done : ℕ) → IsFirstLive rules done s path → done ≡ rules.weeks → IsFirstObeying rules path
all_done rules s path done f end = record {
  obeying = live-whole rules path f.live (f.weeks ∙ end);
  first = λ other obeying. f.first other (obeys-length rules other obeying ∙ sym end) (live_from rules other [] (ap (obeys rules) (append-nil other) ∙ obeying));
}

pub path_of : (rules : Rulebook) (path : List ℕ) → IsFirstObeying rules path → IsPath rules path
path_of rules path f = record { weeks = obeys-length rules path f.obeying; rungs = obeys-are_rungs rules path f.obeying }

-- ---- one week

week_after : (rules : Rulebook) (done n : ℕ) (live : List (ℕ × Summary)) → live ≡ live_pairs rules → done < rules.weeks → n ≡ suc done → at_week n live ≡ live_summaries rules (suc done)
week_after rules done n live is early next = ap₂ at_week next is ∙ week_is rules (suc done) (omega arith)

pub least_found : (rules : Rulebook) (done : ℕ) (s t : Summary) (rung n : ℕ) (live : List (ℕ × Summary)) → live ≡ live_pairs rules → done < rules.weeks → n ≡ suc done → 1 ≤ rung → rung ≤ length rules.prices → Some t ≡ next_if_kept rules done s rung →
    NoneBelow rules done s rung → IsAmong live n t → IsLeastLead rules done s rung t
least_found rules done s t rung n live is early next low high h none there = record {
  low = low;
  high = high;
  leads = rung_leads rules done s t rung (at_week n live) h (week_after rules done n live is early next) there;
  next_is = (kept_some rules done s t rung h).1;
  least = none;
}

pub not_found : (rules : Rulebook) (done : ℕ) (s t : Summary) (rung n : ℕ) (live : List (ℕ × Summary)) → IsRulebook rules → live ≡ live_pairs rules → done < rules.weeks → n ≡ suc done → Some t ≡ next_if_kept rules done s rung →
    (IsAmong live n t → ⊥) → leads_at rules done s rung ≡ false
not_found rules done s t rung n live book is early next h absent = not_live_no_lead rules done s t rung (at_week n live) book early h (week_after rules done n live is early next) absent

pub some_lead : (rules : Rulebook) (done : ℕ) (s : Summary) (rung : ℕ) → done < rules.weeks → is_live_summary rules done s ≡ true → NoneBelow rules done s rung → rung ≡ length rules.prices + 1 → ⊥
some_lead rules done s rung early live none end =
    let leads = (and_parts (is_reached rules done s) (leads_on rules done s) (sym (earlier_week rules done s early) ∙ live)).1 in
    both_ways (leads_on rules done s) (sym (none_leads rules done s rung none end)) leads
