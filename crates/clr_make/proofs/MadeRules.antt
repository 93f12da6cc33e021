-- The rules of a made season, and the path that stays on the first rung.
use Rattle.std.proofs.Common.{◌<◌, ◌≤◌, ℕ, suc, [], refl, arith}
use Rattle.std.specs.Prelude.{nat_le, slice_index}
use Rattle.std.specs.Bool.{passes}
use Rattle.std.proofs.Common.{leb→le}
use Rattle.clr_rules.specs.FirstPath.{SomePathObeys}
use Rattle.clr_rules.specs.Rules.{IsRulebook, Rulebook, free_weeks, opening_path, rulebook_of}
use Rattle.clr_rules.proofs.LiveLemmas.{live_from}
use Rattle.clr_rules.proofs.Staying.{staying}
use Rattle.clr_make.proofs.FixedFiles.{made_limits, made_prices}
use Rattle.clr_make.proofs.RangeLemmas.{passes-at}

abbrev pub made_rulebook : Rulebook
made_rulebook = rulebook_of made_limits (free_weeks 12) made_prices

price-least : (i : ℕ) → i < 6 → 1 ≤ slice_index made_prices i
price-least i less = leb→le _ _ (passes _ (passes-at (λ k. nat_le 1 (slice_index made_prices k)) 0 6 i refl (omega arith) (omega arith)))

price-most : (i : ℕ) → i < 6 → slice_index made_prices i ≤ 10000000
price-most i less = leb→le _ _ (passes _ (passes-at (λ k. nat_le (slice_index made_prices k) 10000000) 0 6 i refl (omega arith) (omega arith)))

price-falls : (i : ℕ) → suc i < 6 → slice_index made_prices (suc i) < slice_index made_prices i
price-falls i less = leb→le _ _ (passes _ (passes-at (λ k. nat_le (suc (slice_index made_prices (suc k))) (slice_index made_prices k)) 0 5 i refl (omega arith) (omega arith)))

pub made-rulebook : IsRulebook made_rulebook
made-rulebook = record {
  first_week = omega arith;
  last_week = omega arith;
  markdowns = omega arith;
  near = omega arith;
  far = omega arith;
  cut = omega arith;
  ladder = record {
    some = omega arith;
    few = omega arith;
    least = price-least;
    most = price-most;
    falls = price-falls;
  };
  calendar = refl;
}

pub made-path : SomePathObeys made_rulebook
made-path = live_from made_rulebook [] (opening_path made_rulebook) (staying made_rulebook made-rulebook refl)
