-- A path's weeks, one after another: whether it can still be made one that obeys.
use Rattle.std.proofs.Common.{◌≡◌, ℕ, ◌<◌, ◌≤◌, Bool, true, false, refl, sym, ap, ◌∙◌, arith, suc, zero, List, [], ◌∷◌, ◌++◌, map, length, take, Some, None, pos}
use Rattle.std.proofs.lemmas.List.{length-take-le}
use Rattle.clr_rules.specs.declared.season_rules.Summary.{Summary}
use Rattle.clr_rules.specs.LiveSummaries.{leads_at}
use Rattle.clr_rules.specs.Rules.{HasSummary, IsInRange, IsRulebook, Rulebook, is_live, next_summary, rung_at, summary}
use Rattle.clr_rules.proofs.LiveLists.{in_range, leads-live, reached-by}
use Rattle.clr_rules.proofs.SummaryLemmas.{live-keeps, summary-more}
use Rattle.clr_season.specs.Season.{Season}
use Rattle.clr_cert.specs.declared.no.NoKind.TheVariants as kind
use Rattle.clr_cert.specs.Conditions.{Condition, path_condition}
use Rattle.clr_cert.specs.Places.{week_numbers}
use Rattle.clr_check.specs.Faults.{fault_of, first_fault}
use Rattle.clr_check.proofs.Firsts.{first_here, map_blocks, none_so_far}

pub take_more : (path : List ℕ) (done : ℕ) → done < length path → take (suc done) path ≡ take done path ++ rung_at path (suc done) ∷ []
take_more [] done less = absurd (omega arith)
take_more (x ∷ path) zero less = refl
take_more (x ∷ path) (suc done) less = ap (λ t. x ∷ t) (take_more path done (omega arith))

pub range_of : (rules : Rulebook) (path : List ℕ) (done : ℕ) (s : Summary) → IsRulebook rules → done ≤ rules.weeks → HasSummary rules done s (take done path) → IsInRange rules s
range_of rules path done s book early has = in_range rules done s book early (reached-by rules done s (take done path) has)

-- a rung leads on exactly where the longer front can be made a path that obeys
pub live_is : (rules : Rulebook) (path : List ℕ) (done : ℕ) (s : Summary) → done < length path → HasSummary rules done s (take done path) → leads_at rules done s (rung_at path (suc done)) ≡ is_live rules (take (suc done) path)
live_is rules path done s less has = leads-live rules done s (take done path) (rung_at path (suc done)) has ∙ ap (is_live rules) (sym (take_more path done less))

pub summary_on : (rules : Rulebook) (path : List ℕ) (done : ℕ) (s next : Summary) → done < length path → HasSummary rules done s (take done path) → is_live rules (take (suc done) path) ≡ true → next ≡ next_summary rules s (rung_at path (suc done)) → HasSummary rules (suc done) next (take (suc done) path)
summary_on rules path done s next less has live is = record {
  weeks = length-take-le (suc done) path less;
  keeps = live-keeps rules (take (suc done) path) live;
  same = ap (summary rules) (take_more path done less) ∙ (summary-more rules (take done path) (rung_at path (suc done)) ∙ (ap (λ t. next_summary rules t (rung_at path (suc done))) has.same ∙ sym is));
}

holds_none : (c : Condition) → c.holds ≡ true → first_fault (c ∷ []) ≡ None
holds_none c h = go c.holds h
  where
    go : (b : Bool) → b ≡ true → first_fault (record { kind = c.kind; holds = b; left = c.left; right = c.right } ∷ []) ≡ None
    go true h = refl
    go false h = cc

fails_some : (c : Condition) → c.holds ≡ false → first_fault (c ∷ []) ≡ Some (fault_of c)
fails_some c h = go c.holds h
  where
    go : (b : Bool) → b ≡ false → first_fault (record { kind = c.kind; holds = b; left = c.left; right = c.right } ∷ []) ≡ Some (fault_of c)
    go true h = cc
    go false h = refl

pub path_none : (season : Season) (path : List ℕ) → ((week : ℕ) → 1 ≤ week → week ≤ season.rules.weeks → is_live season.rules (take week path) ≡ true) → None ≡ first_fault (map (path_condition season path) (week_numbers season))
path_none season path each =
    sym (ap first_fault (map_blocks (path_condition season path) (week_numbers season))
    ∙ none_so_far (λ week. path_condition season path week ∷ []) 1 season.rules.weeks (λ week low high. holds_none (path_condition season path week) (each week low (omega arith))))

pub path_first : (season : Season) (path : List ℕ) (week : ℕ) → 1 ≤ week → week ≤ season.rules.weeks → ((earlier : ℕ) → 1 ≤ earlier → earlier < week → is_live season.rules (take earlier path) ≡ true) → is_live season.rules (take week path) ≡ false →
    Some (record { kind = kind.Path; left = pos week; right = pos (rung_at path week) }) ≡ first_fault (map (path_condition season path) (week_numbers season))
path_first season path week low high each off =
    sym (ap first_fault (map_blocks (path_condition season path) (week_numbers season))
    ∙ first_here (λ w. path_condition season path w ∷ []) 1 season.rules.weeks week (fault_of (path_condition season path week)) low (omega arith) (λ n a b. holds_none (path_condition season path n) (each n a b)) (fails_some (path_condition season path week) off))
