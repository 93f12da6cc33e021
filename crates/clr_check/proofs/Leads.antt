-- Where a rung leads.
use Rattle.std.proofs.Common.{◌≡◌, ℕ, ◌<◌, true, false, ap, ◌∙◌, suc, List, Some, slice_get, arith}
use Rattle.clr_rules.specs.declared.season_rules.Summary.{Summary}
use Rattle.clr_rules.specs.LiveSummaries.{at_week, leads_at, live_pairs}
use Rattle.clr_rules.specs.Rules.{IsRulebook, Rulebook, next_if_kept, next_summary}
use Rattle.clr_rules.proofs.LiveLaw.{week_is}
use Rattle.clr_rules.proofs.Sweeps.{kept_some, not_live_no_lead, rung_leads}

pub led : (rules : Rulebook) (done : ℕ) (s next : Summary) (rung place : ℕ) (pairs : List (ℕ × Summary)) → pairs ≡ live_pairs rules → IsRulebook rules → done < rules.weeks → Some next ≡ next_if_kept rules done s rung →
    slice_get (at_week (suc done) pairs) place ≡ Some next → (leads_at rules done s rung ≡ true) × (next ≡ next_summary rules s rung) × (slice_get (at_week (suc done) pairs) place ≡ Some (next_summary rules s rung))
led rules done s next rung place pairs is book early kept there = (
  rung_leads rules done s next rung (at_week (suc done) pairs) kept (ap (at_week (suc done)) is ∙ week_is rules (suc done) (omega arith)) (place, there),
  (kept_some rules done s next rung kept).1,
  there ∙ ap Some (kept_some rules done s next rung kept).1,
)

pub unled : (rules : Rulebook) (done : ℕ) (s next : Summary) (rung : ℕ) (pairs : List (ℕ × Summary)) → pairs ≡ live_pairs rules → IsRulebook rules → done < rules.weeks → Some next ≡ next_if_kept rules done s rung →
    ((k : ℕ) → slice_get (at_week (suc done) pairs) k ≡ Some next → ⊥) → leads_at rules done s rung ≡ false
unled rules done s next rung pairs is book early kept none =
    not_live_no_lead rules done s next rung (at_week (suc done) pairs) book early kept (ap (at_week (suc done)) is ∙ week_is rules (suc done) (omega arith)) (λ (k, there). none k there)
