use Rattle.std.proofs.Common.{◌≡◌, ◌∙◌, sym, ap, subst, [], List, ℕ}
use Rattle.clr_rules.specs.LiveSummaries.{IsAmong}
use Rattle.clr_rules.specs.Rules.{Rulebook, summary}
use Rattle.clr_model.specs.Revenue.{full_stocks}
use Rattle.clr_joint.specs.Tables.{HasStocks, choices_of, table_pairs}
use Rattle.clr_jobs.proofs.Tabled.{has_full, has_start}
use Rattle.clr_jobs.proofs.exact.opening_values.Goals as goal

pub choice-first-requires-clause-entry : goal.choice-first-requires-clause-entry
choice-first-requires-clause-entry c =
    let start = c.start.ensures ∙ ap (λ (r : Rulebook). summary r []) c.rules.ensures.value in
    subst (IsAmong (table_pairs c.args.joint.now) 0) (sym start) (has_start c.args.season.now c.args.joint.now c.requires.facts c.requires.any c.requires.table)

pub choice-first-requires-clause-stocks : goal.choice-first-requires-clause-stocks
choice-first-requires-clause-stocks c =
    let start = c.start.ensures ∙ ap (λ (r : Rulebook). summary r []) c.rules.ensures.value in
    let stocks : c.deref.result.now ≡ full_stocks c.args.season.now = c.deref.ensures.value ∙ c.in_ok-stocks.ensures in
    subst (λ (xs : List ℕ). HasStocks (choices_of c.args.joint.now 0 c.start.result) xs) (sym stocks)
    (subst (λ s. HasStocks (choices_of c.args.joint.now 0 s) (full_stocks c.args.season.now)) (sym start) (has_full c.args.season.now c.args.joint.now c.requires.facts c.requires.any c.requires.table))
