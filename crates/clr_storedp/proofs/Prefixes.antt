-- A summary's value is that of each live prefix that has it.
use Rattle.std.proofs.Common.{◌≡◌, ℕ, ◌<◌, ℤ, true, sym, subst, List, length}
use Rattle.clr_rules.specs.Rules.{is_live, summary}
use Rattle.clr_season.specs.Season.{Season}
use Rattle.clr_model.specs.StoreLaws.{SameValue}
use Rattle.clr_model.specs.StoreValue.{Multipliers, store_value_at, store_choice_at}
use Rattle.clr_model.proofs.BySummary.{value_by_summary_lem}
use Rattle.clr_rows.specs.Summaries.{summary_prefix}
use Rattle.clr_rows.proofs.Prefixes.{live_summary_of, prefix_is}
use Rattle.clr_storedp.specs.BySummary.{summary_choice, summary_value}

both_values : (div : ℤ → ℕ → ℤ) (m : Multipliers) (season : Season) (store : ℕ) (prefix : List ℕ) (stock : ℕ) → is_live season.rules prefix ≡ true → SameValue div m season store (summary_prefix season.rules (length prefix) (summary season.rules prefix)) prefix stock
both_values div m season store prefix stock live =
    let is = prefix_is season.rules (length prefix) (summary season.rules prefix) (live_summary_of season.rules prefix live) in
    value_by_summary_lem div m season store (summary_prefix season.rules (length prefix) (summary season.rules prefix)) prefix stock is.long is.live live is.same

pub value_at_prefix : (div : ℤ → ℕ → ℤ) (m : Multipliers) (season : Season) (store : ℕ) (prefix : List ℕ) (stock : ℕ) → is_live season.rules prefix ≡ true → summary_value div m season store (length prefix) (summary season.rules prefix) stock ≡ store_value_at div m season store prefix stock
value_at_prefix div m season store prefix stock live = (both_values div m season store prefix stock live).value

pub choice_at_prefix : (div : ℤ → ℕ → ℤ) (m : Multipliers) (season : Season) (store : ℕ) (prefix : List ℕ) (stock : ℕ) → is_live season.rules prefix ≡ true → length prefix < season.rules.weeks →
    summary_choice div m season store (length prefix) (summary season.rules prefix) stock ≡ store_choice_at div m season store prefix stock
choice_at_prefix div m season store prefix stock live early =
    let is = prefix_is season.rules (length prefix) (summary season.rules prefix) (live_summary_of season.rules prefix live) in
    (both_values div m season store prefix stock live).choice (subst (λ n. n < season.rules.weeks) (sym is.long) early)
