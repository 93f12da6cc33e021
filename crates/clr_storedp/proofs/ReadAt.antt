-- A store's table is read at each live prefix and stock.
use Rattle.std.proofs.Common.{◌≡◌, ℕ, suc, ◌+◌, ◌≤◌, ◌<◌, cond, ℤ, pos, List, [], length, map, get_or, refl, ap, sym, ◌∙◌, subst, arith}
use Rattle.std.proofs.lemmas.Bool.{lt-ltb}
use Rattle.clr_num.specs.Lists.{numbers}
use Rattle.clr_rules.specs.declared.season_rules.Summary.{Summary}
use Rattle.clr_rules.specs.Rules.{summary}
use Rattle.clr_rules.specs.LiveSummaries.{IsAmong}
use Rattle.clr_rules.proofs.LiveLaw.{live_pairs_lem}
use Rattle.clr_rules.proofs.LiveLemmas.{live-length}
use Rattle.clr_rows.proofs.Places.{get_or-numbers, length-numbers}
use Rattle.clr_season.specs.Season.{Season, store_at}
use Rattle.clr_model.specs.StoreValue.{store_choice_at, store_value_at}
use Rattle.clr_storedp.specs.Laws.{TableReads}
use Rattle.clr_storedp.specs.Tables.{choices_of, stocks}

-- what stands at a stock among the numbers of all stocks
pub in_stocks : {X : Type 0} (f : ℕ → X) (season : Season) (store stock : ℕ) (row : List X) → row ≡ map f (stocks season store) → stock ≤ (store_at season store).units → stock < length row
in_stocks f season store stock row is held =
    let size : length row ≡ suc (store_at season store).units = ap length is ∙ length-numbers f 0 (suc (store_at season store).units) in
    omega (arith, held)

pub at_stock : {X : Type 0} (f : ℕ → X) (season : Season) (store stock : ℕ) (row : List X) (default : X) → row ≡ map f (stocks season store) → stock ≤ (store_at season store).units → get_or row stock default ≡ f stock
at_stock f season store stock row default is held =
    let none : 0 + stock ≡ stock = omega arith in
    ap (λ r. get_or r stock default) is ∙ (get_or-numbers f 0 (suc (store_at season store).units) stock default (omega (arith, held)) ∙ ap f none)

pub table_reads_lem : TableReads
table_reads_lem div m season store table prefix stock facts is live held = record {
  entry = subst (λ (pairs : List (ℕ × Summary)). IsAmong pairs (length prefix) (summary season.rules prefix)) (sym is.pairs)
      (((live_pairs_lem season.rules facts.rules).pairs (length prefix) (summary season.rules prefix)).1 (live-length season.rules prefix live, (prefix, refl, live, refl)));
  has_value = in_stocks (store_value_at div m season store prefix) season store stock _ (is.values prefix live) held;
  value = at_stock (store_value_at div m season store prefix) season store stock _ (pos 0) (is.values prefix live) held;
  has_choice = λ early. in_stocks (store_choice_at div m season store prefix) season store stock _ (chosen early) held;
  choice = λ early. at_stock (store_choice_at div m season store prefix) season store stock _ 0 (chosen early) held;
}
  where
    chosen : length prefix < season.rules.weeks → choices_of table (length prefix) (summary season.rules prefix) ≡ map (store_choice_at div m season store prefix) (stocks season store)
    chosen early = is.choices prefix live ∙ ap (λ b. cond b (map (store_choice_at div m season store prefix) (stocks season store)) []) (lt-ltb (length prefix) season.rules.weeks early)
