-- What the two files that are the same for every seed read to.
use Rattle.std.proofs.Common.{◌≡◌, ℕ, List, [], ◌∷◌, false, refl, Ok}
use Rattle.serde_json.proofs.OnLiterals.{serde_json_on_literals}
use Rattle.std.specs.Str.{chars, is_utf8}
use Rattle.csv.proofs.OnLiterals.{csv_on_literals}
use Rattle.clr_text.specs.Fields.{cut_of, whole_of}
use Rattle.clr_text.specs.Tables.{cut_records}
use Rattle.clr_text.specs.Judged.{counted, money_at, number_at}
use Rattle.clr_rules.specs.Limits.{data_of, limits_in, limits_of, number_in, truth_in}
use Rattle.clr_rules.specs.declared.limits.Limits.{Limits}
use Rattle.clr_stock.specs.Ladder.{ladder_of, ladder_row}
use Rattle.clr_make.specs.Made.{made_ladder, made_rules}

abbrev pub made_limits : Limits
made_limits = record { version = 1; weeks = 12; base = 100; markdowns = 3; spacing = 2; first_cut = 50; calendar = false }

pub rules-read : limits_of made_rules ≡ Ok made_limits
unfolding made_rules is_utf8 chars limits_of data_of limits_in number_in truth_in serde_json_on_literals csv_on_literals
rules-read = refl

abbrev pub made_prices : List ℕ
made_prices = 6000 ∷ 5200 ∷ 4500 ∷ 3800 ∷ 3000 ∷ 2200 ∷ []

pub ladder-read : ladder_of made_ladder ≡ Ok made_prices
unfolding made_ladder ladder_of ladder_row counted money_at number_at cut_of whole_of cut_records csv_on_literals
ladder-read = refl
