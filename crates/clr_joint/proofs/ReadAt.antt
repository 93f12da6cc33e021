-- A table is read at each live prefix and list of stocks.
use Rattle.std.proofs.Common.{◌≡◌, ℕ, suc, ◌≤◌, ◌<◌, cond, ℤ, pos, List, [], ◌∷◌, length, map, get_or, refl, ap, sym, ◌∙◌, subst, arith}
use Rattle.std.proofs.lemmas.Bool.{lt-ltb}
use Rattle.clr_rules.specs.declared.season_rules.Summary.{Summary}
use Rattle.clr_rules.specs.Rules.{summary}
use Rattle.clr_rules.specs.LiveSummaries.{IsAmong}
use Rattle.clr_rules.proofs.LiveLaw.{live_pairs_lem}
use Rattle.clr_rules.proofs.LiveLemmas.{live-length}
use Rattle.clr_season.specs.Season.{Season}
use Rattle.clr_model.specs.JointValue.{joint_low_at, joint_rung_at, joint_top_at}
use Rattle.clr_model.specs.Revenue.{full_stocks}
use Rattle.clr_model.specs.StoreValue.{AreStocks}
use Rattle.clr_joint.specs.Laws.{JointReads}
use Rattle.clr_model.specs.Stocks.{all_stocks}
use Rattle.clr_joint.specs.Tables.{HasStocks, at_stocks, choices_of}
use Rattle.clr_joint.proofs.Built.{at_held, has_held}
use Rattle.clr_joint.proofs.Grid.{AreHeld, length-full_stocks}

held_from : (units stocks : List ℕ) → length stocks ≡ length units → ((i : ℕ) → get_or stocks i 0 ≤ get_or units i 0) → AreHeld units stocks
held_from [] [] size h = tt
held_from [] (stock ∷ stocks) size h = absurd (omega (arith, size))
held_from (unit ∷ units) [] size h = absurd (omega (arith, size))
held_from (unit ∷ units) (stock ∷ stocks) size h = (h 0, held_from units stocks (less (length stocks) (length units) size) (λ i. h (suc i)))
  where
    less : (a b : ℕ) → suc a ≡ suc b → a ≡ b
    less a b e = omega arith

pub held_of : (season : Season) (stocks : List ℕ) → AreStocks season stocks → AreHeld (full_stocks season) stocks
held_of season stocks are = held_from (full_stocks season) stocks (are.count ∙ sym (length-full_stocks season)) (λ i. are.held (suc i))

pub joint_reads_lem : JointReads
joint_reads_lem season table prefix stocks is of live are =
    let held : AreHeld (full_stocks season) stocks = held_of season stocks are in
    let both : List ℕ → ℤ × ℤ = λ stocks. (joint_low_at season prefix stocks, joint_top_at season prefix stocks) in
    record {
      entry = subst (λ (ps : List (ℕ × Summary)). IsAmong ps (length prefix) (summary season.rules prefix)) (sym of.pairs)
          (((live_pairs_lem season.rules is.rules).pairs (length prefix) (summary season.rules prefix)).1 (live-length season.rules prefix live, (prefix, refl, live, refl)));
      has_values = subst (λ (items : List (List ℕ × (ℤ × ℤ))). HasStocks items stocks) (sym (of.values prefix live)) (has_held both (full_stocks season) stocks held);
      values = ap (λ (items : List (List ℕ × (ℤ × ℤ))). at_stocks items stocks (pos 0, pos 0)) (of.values prefix live) ∙ at_held both (full_stocks season) stocks (pos 0, pos 0) held;
      has_choices = λ early. subst (λ (items : List (List ℕ × ℕ)). HasStocks items stocks) (sym (chosen early)) (has_held (joint_rung_at season prefix) (full_stocks season) stocks held);
      choice = λ early. ap (λ (items : List (List ℕ × ℕ)). at_stocks items stocks 0) (chosen early) ∙ at_held (joint_rung_at season prefix) (full_stocks season) stocks 0 held;
    }
  where
    chosen : length prefix < season.rules.weeks → choices_of table (length prefix) (summary season.rules prefix) ≡ map (λ stocks. (stocks, joint_rung_at season prefix stocks)) (all_stocks (full_stocks season))
    chosen early =
        of.choices prefix live ∙ ap (λ b. cond b (map (λ stocks. (stocks, joint_rung_at season prefix stocks)) (all_stocks (full_stocks season))) []) (lt-ltb (length prefix) season.rules.weeks early)
