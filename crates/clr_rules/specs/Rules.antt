-- The rules of a season, and which price paths keep them. Weeks and rungs are counted from 1.
use Rattle.std.specs.Prelude.{◌↔◌, ◌≡◌, IsTrue, ℕ, zero, suc, ◌+◌, ◌-◌, ◌*◌, min, Bool, false, not, ◌&&◌, ◌||◌, nat_lt, nat_le, ◌==◌, List, [], ◌∷◌, ◌++◌, length, replicate, Option, Some, None, ◌≤◌, if◌then◌else◌}
use Rattle.std.specs.List.{list_all, list_any, count_by, filter}
use Rattle.clr_num.specs.Lists.{numbers, all_lists, nth}
use Rattle.clr_num.specs.Prices.{IsLadder}
use Rattle.clr_rules.specs.declared.limits.Limits.{Limits}
use Rattle.clr_rules.specs.declared.season_rules.Window.{Window}
use Rattle.clr_rules.specs.declared.season_rules.Summary.{Summary}
use Rattle.clr_rules.specs.declared.season_rules.Rule.{Rule}
use Rattle.clr_rules.specs.declared.season_rules.Rule.TheVariants.{Rise, Window as WindowRule, Frozen, Number, Spacing, FirstCut}

-- the rules: prices by rung, the greatest number of markdowns, their least distance, the deepest first cut in percent, and the calendar by week
pub record Rulebook : Type 0 where
  pub weeks : ℕ
  pub prices : List ℕ
  pub markdowns : ℕ
  pub spacing : ℕ
  pub first_cut : ℕ
  pub calendar : List Window

abbrev pub price : Rulebook → ℕ → ℕ
price rules rung = nth rules.prices rung 0

-- the window of a week of a calendar
abbrev pub window_of : List Window → ℕ → Window
window_of calendar week = nth calendar week (record { from = 1; to = 1; frozen = false })

abbrev pub window : Rulebook → ℕ → Window
window rules week = window_of rules.calendar week

-- the rungs 1 to L
abbrev pub rungs : Rulebook → List ℕ
rungs rules = numbers 1 (length rules.prices)

-- ---- paths

-- the rung in force in a week: a path is a list of rungs, and rung 1 stands before its first week
abbrev pub rung_at : List ℕ → ℕ → ℕ
rung_at path week = nth path week 1

abbrev pub rung_before : List ℕ → ℕ → ℕ
rung_before path zero = 1
rung_before path (suc week) = rung_at path week

-- a week whose rung differs from the rung before it
abbrev pub is_markdown : List ℕ → ℕ → Bool
is_markdown path week = not (rung_at path week == rung_before path week)

abbrev pub each_week : List ℕ → (ℕ → Bool) → Bool
each_week path test = list_all test (numbers 1 (length path))

-- the number of markdown weeks
abbrev pub markdowns : List ℕ → ℕ
markdowns path = count_by (is_markdown path) (numbers 1 (length path))

-- a markdown week with no markdown week before it
abbrev pub is_first_markdown : List ℕ → ℕ → Bool
is_first_markdown path week = is_markdown path week && list_all (λ earlier. not (is_markdown path earlier)) (numbers 1 (week - 1))

-- ---- the six rules

abbrev pub keeps_rise : List ℕ → Bool
keeps_rise path = each_week path (λ week. nat_le (rung_before path week) (rung_at path week))

abbrev pub keeps_window : Rulebook → List ℕ → Bool
keeps_window rules path = each_week path (λ week. nat_le (window rules week).from (rung_at path week) && nat_le (rung_at path week) (window rules week).to)

abbrev pub keeps_frozen : Rulebook → List ℕ → Bool
keeps_frozen rules path = each_week path (λ week. not ((window rules week).frozen && is_markdown path week))

abbrev pub keeps_number : Rulebook → List ℕ → Bool
keeps_number rules path = nat_le (markdowns path) rules.markdowns

abbrev pub keeps_spacing : Rulebook → List ℕ → Bool
keeps_spacing rules path =
    each_week path (λ earlier. each_week path (λ later.
    not (nat_lt earlier later && is_markdown path earlier && is_markdown path later) || nat_le (earlier + rules.spacing) later))

abbrev pub keeps_first_cut : Rulebook → List ℕ → Bool
keeps_first_cut rules path =
    each_week path (λ week.
    not (is_first_markdown path week) || nat_le ((100 - rules.first_cut) * price rules 1) (100 * price rules (rung_at path week)))

-- a list of rungs of the ladder
abbrev pub are_rungs : Rulebook → List ℕ → Bool
are_rungs rules path = list_all (λ rung. nat_le 1 rung && nat_le rung (length rules.prices)) path

-- a path of the season: a rung of the ladder for each week
pub record IsPath (rules : Rulebook) (path : List ℕ) : Type 0 where
  pub weeks : length path ≡ rules.weeks
  pub rungs : IsTrue (are_rungs rules path)

-- a list of rungs of which no week breaks a rule
abbrev pub keeps_rules : Rulebook → List ℕ → Bool
keeps_rules rules path =
    are_rungs rules path && (keeps_rise path && (keeps_window rules path && (keeps_frozen rules path && (keeps_number rules path && (keeps_spacing rules path && keeps_first_cut rules path)))))

-- a whole path that keeps the rules
abbrev pub obeys : Rulebook → List ℕ → Bool
obeys rules path = (length path == rules.weeks) && keeps_rules rules path

-- ---- live prefixes and their summaries

-- some list of rungs makes it an obeying path
abbrev pub is_live : Rulebook → List ℕ → Bool
is_live rules prefix = list_any (λ rest. obeys rules (prefix ++ rest)) (all_lists (rungs rules) (rules.weeks - length prefix))

-- the rungs that keep a prefix live, the least first
abbrev pub live_rungs : Rulebook → List ℕ → List ℕ
live_rungs rules prefix = filter (λ rung. is_live rules (prefix ++ rung ∷ [])) (rungs rules)

-- the last markdown week among the first weeks, and 0 where there is none
abbrev pub last_markdown : List ℕ → ℕ → ℕ
last_markdown path zero = 0
last_markdown path (suc week) = if is_markdown path (suc week) then suc week else last_markdown path week

-- how long ago it lies, seen from the week that comes next, and at most the spacing; the spacing where there is none
abbrev pub age_after : ℕ → ℕ → ℕ → ℕ
age_after spacing done zero = spacing
age_after spacing done (suc week) = min spacing (done + 1 - suc week)

abbrev pub summary : Rulebook → List ℕ → Summary
summary rules prefix = record {
  last = rung_at prefix (length prefix);
  count = markdowns prefix;
  age = age_after rules.spacing (length prefix) (last_markdown prefix (length prefix));
}

-- the summary of a live prefix of this length
abbrev pub IsLiveSummary : Rulebook → ℕ → Summary → Type 0
IsLiveSummary rules done s = (prefix : List ℕ) × (length prefix ≡ done) × IsTrue (is_live rules prefix) × (summary rules prefix ≡ s)

-- the first rule, in the order in which the rules are listed, that a list of rungs breaks
abbrev pub first_broken : Rulebook → List ℕ → Option Rule
first_broken rules path =
    if not (keeps_rise path) then Some Rise else (
    if not (keeps_window rules path) then Some WindowRule else (
    if not (keeps_frozen rules path) then Some Frozen else (
    if not (keeps_number rules path) then Some Number else (
    if not (keeps_spacing rules path) then Some Spacing else (
    if not (keeps_first_cut rules path) then Some FirstCut else None)))))

-- ---- what a season's rules may be

-- the rules that these limits, this calendar and these prices make
abbrev pub rulebook_of : Limits → List Window → List ℕ → Rulebook
rulebook_of limits calendar prices =
    record {
      weeks = limits.weeks;
      prices = prices;
      markdowns = limits.markdowns;
      spacing = limits.spacing;
      first_cut = limits.first_cut;
      calendar = calendar;
    }

-- rules whose numbers lie in their ranges
pub record IsRulebook (rules : Rulebook) : Type 0 where
  pub first_week : 1 ≤ rules.weeks
  pub last_week : rules.weeks ≤ 52
  pub markdowns : rules.markdowns ≤ 12
  pub near : 1 ≤ rules.spacing
  pub far : rules.spacing ≤ 12
  pub cut : rules.first_cut ≤ 100
  pub ladder : IsLadder rules.prices
  pub calendar : length rules.calendar ≡ rules.weeks

-- the greatest count of markdowns that a summary may have
abbrev pub most_markdowns : Rulebook → ℕ
most_markdowns rules = min rules.markdowns (min (length rules.prices - 1) rules.weeks)

-- a summary whose numbers lie in their ranges
pub record IsInRange (rules : Rulebook) (s : Summary) : Type 0 where
  pub low : 1 ≤ s.last
  pub high : s.last ≤ length rules.prices
  pub count : s.count ≤ most_markdowns rules
  pub young : 1 ≤ s.age
  pub old : s.age ≤ rules.spacing

-- ---- the next week, by the summary

abbrev pub turns : Summary → ℕ → Bool
turns s rung = not (rung == s.last)

abbrev pub step_rise : Summary → ℕ → Bool
step_rise s rung = nat_le s.last rung

abbrev pub step_window : Rulebook → ℕ → ℕ → Bool
step_window rules done rung = nat_le (window rules (suc done)).from rung && nat_le rung (window rules (suc done)).to

abbrev pub step_frozen : Rulebook → ℕ → Summary → ℕ → Bool
step_frozen rules done s rung = not ((window rules (suc done)).frozen && turns s rung)

abbrev pub step_number : Rulebook → Summary → ℕ → Bool
step_number rules s rung = nat_le (s.count + (if turns s rung then 1 else 0)) rules.markdowns

abbrev pub step_spacing : Rulebook → Summary → ℕ → Bool
step_spacing rules s rung = not (turns s rung) || nat_le rules.spacing s.age

abbrev pub step_first_cut : Rulebook → Summary → ℕ → Bool
step_first_cut rules s rung = not (turns s rung && (s.count == 0)) || nat_le ((100 - rules.first_cut) * price rules 1) (100 * price rules rung)

-- whether a rung in the next week keeps all rules, after weeks that keep them
abbrev pub may_follow : Rulebook → ℕ → Summary → ℕ → Bool
may_follow rules done s rung =
    (nat_le 1 rung && nat_le rung (length rules.prices))
    && (step_rise s rung && (step_window rules done rung && (step_frozen rules done s rung && (step_number rules s rung && (step_spacing rules s rung && step_first_cut rules s rung)))))

-- the first rule that it breaks
abbrev pub breaks_first : Rulebook → ℕ → Summary → ℕ → Option Rule
breaks_first rules done s rung =
    if not (step_rise s rung) then Some Rise else (
    if not (step_window rules done rung) then Some WindowRule else (
    if not (step_frozen rules done s rung) then Some Frozen else (
    if not (step_number rules s rung) then Some Number else (
    if not (step_spacing rules s rung) then Some Spacing else (
    if not (step_first_cut rules s rung) then Some FirstCut else None)))))

-- the summary after it
abbrev pub next_summary : Rulebook → Summary → ℕ → Summary
next_summary rules s rung = record {
  last = rung;
  count = s.count + (if turns s rung then 1 else 0);
  age = min rules.spacing ((if turns s rung then 0 else s.age) + 1);
}

-- a prefix that keeps the rules, and one rung more
pub record FollowsBySummary (rules : Rulebook) (prefix : List ℕ) (rung : ℕ) : Type 0 where
  pub keeps : keeps_rules rules (prefix ++ rung ∷ []) ≡ may_follow rules (length prefix) (summary rules prefix) rung
  pub next : summary rules (prefix ++ rung ∷ []) ≡ next_summary rules (summary rules prefix) rung
  pub live :
      IsTrue (is_live rules (prefix ++ rung ∷ []))
      ↔ (IsTrue (may_follow rules (length prefix) (summary rules prefix) rung) × IsLiveSummary rules (suc (length prefix)) (next_summary rules (summary rules prefix) rung))

-- the summary decides whether a rung keeps the rules, what the next summary is, and whether the longer prefix is live
abbrev pub NextBySummary : Type 0
NextBySummary = (rules : Rulebook) (prefix : List ℕ) (rung : ℕ) → IsTrue (keeps_rules rules prefix) → FollowsBySummary rules prefix rung

-- two prefixes of one length that keep the rules and have one summary are made obeying paths by the same lists
abbrev pub SameSummarySameRest : Type 0
SameSummarySameRest =
    (rules : Rulebook) (prefix other : List ℕ) → length prefix ≡ length other → IsTrue (keeps_rules rules prefix) → IsTrue (keeps_rules rules other) → summary rules prefix ≡ summary rules other →
    (rest : List ℕ) → obeys rules (prefix ++ rest) ≡ obeys rules (other ++ rest)

-- a prefix of so many weeks that keeps the rules and has this summary
pub record HasSummary (rules : Rulebook) (done : ℕ) (s : Summary) (prefix : List ℕ) : Type 0 where
  pub weeks : length prefix ≡ done
  pub keeps : IsTrue (keeps_rules rules prefix)
  pub same : summary rules prefix ≡ s

-- the summary of the longer prefix where its weeks keep the rules
abbrev pub longer_summary : Rulebook → List ℕ → Option Summary
longer_summary rules path = if keeps_rules rules path then Some (summary rules path) else None

-- the next summary where a rung keeps the rules
abbrev pub next_if_kept : Rulebook → ℕ → Summary → ℕ → Option Summary
next_if_kept rules done s rung = if may_follow rules done s rung then Some (next_summary rules s rung) else None

-- ---- a season without a calendar

-- a week in which each rung may stand, and which is not frozen
abbrev pub free_window : Window
free_window = record { from = 1; to = 12; frozen = false }

abbrev pub free_weeks : ℕ → List Window
free_weeks weeks = replicate weeks free_window

-- the path that stays on the first rung in every week
abbrev pub opening_path : Rulebook → List ℕ
opening_path rules = replicate rules.weeks 1

-- Without a calendar the path that stays on the first rung obeys.
abbrev pub StayingObeys : Type 0
StayingObeys = (rules : Rulebook) → IsRulebook rules → rules.calendar ≡ free_weeks rules.weeks → IsTrue (obeys rules (opening_path rules))
