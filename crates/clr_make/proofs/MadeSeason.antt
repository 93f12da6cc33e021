-- The files of a made season read to a season of which some path obeys.
use Rattle.std.proofs.Common.{◌≡◌, ◌≤◌, ◌∙◌, ℕ, List, length, Ok, Some, refl, ap, arith}
use Rattle.std.proofs.lemmas.Bool.{le-leb}
use Rattle.clr_io.specs.Files.{Files, held}
use Rattle.clr_rules.specs.Rules.{free_weeks}
use Rattle.clr_season.specs.Reads.{calendar_in, fetched, limits_in, path_of, prices_in, season_in, season_within, stores_in, weights_in}
use Rattle.clr_season.specs.Season.{IsSeason, Season}
use Rattle.clr_season.specs.View.{season_from}
use Rattle.clr_season.specs.declared.reads.File.{File}
use Rattle.clr_season.specs.declared.reads.File.TheVariants.{Rules, Ladder, Stock, Demand}
use Rattle.clr_make.specs.Made.{IsMade, made_demand, made_ladder, made_rules, made_stock}
use Rattle.clr_make.specs.Reads.{ReadInFolders}
use Rattle.clr_make.specs.declared.files.Made.{Made}
use Rattle.clr_make.proofs.DemandTotals.{demand-read, made_weights}
use Rattle.clr_make.proofs.FixedFiles.{ladder-read, made_limits, made_prices, rules-read}
use Rattle.clr_make.proofs.MadeLengths.{demand-length, stock-length}
use Rattle.clr_make.proofs.MadeRules.{made-path, made-rulebook, made_rulebook}
use Rattle.clr_make.proofs.MadeStores.{made-cells, made-stores, stores-length}
use Rattle.clr_make.proofs.MadeWeights.{made-size, made-sum, made-top}
use Rattle.clr_make.proofs.StockReads.{made_names, made_stores, stock-read}

abbrev pub made_season : ℕ → Season
made_season seed = season_from 1 made_rulebook (made_stores seed) 100 (made_weights seed)

-- ---- it is a season

top-small : (seed : ℕ) → (made_season seed).top ≤ 200
unfolding made_weights
top-small seed = made-top seed

pub made-season : (seed : ℕ) → IsSeason (made_season seed)
unfolding made_weights
made-season seed =
    let count = stores-length seed in
    record {
      first_version = omega arith;
      last_version = omega arith;
      rules = made-rulebook;
      some = omega (arith, count);
      stores = made-stores seed;
      least_base = omega arith;
      most_base = omega arith;
      most_demand = top-small seed;
      sizes = λ store week rung p. made-size seed store week rung p.first_store (omega (arith, count, p.last_store)) p.first_week p.last_week p.first_rung p.last_rung;
      sums = λ store week rung p. made-sum seed store week rung p.first_store (omega (arith, count, p.last_store)) p.first_week p.last_week p.first_rung p.last_rung;
      few_cells = made-cells seed;
    }

-- ---- each file is there, and not too long

there : (files : Files) (folder : List ℕ) (file : File) (bytes : List ℕ) → held (path_of folder file) files ≡ Some bytes → length bytes ≤ 33554432 → fetched files folder file ≡ Ok bytes
unfolding fetched
there files folder file bytes is short = rw (is, le-leb (length bytes) 33554432 short) refl

rules-length : length made_rules ≤ 33554432
unfolding made_rules
rules-length = omega arith

ladder-length : length made_ladder ≤ 33554432
unfolding made_ladder
ladder-length = omega arith

-- ---- the files, one after another

rules-in : (files : Files) (folder : List ℕ) → held (path_of folder Rules) files ≡ Some made_rules → limits_in files folder ≡ Ok made_limits
unfolding limits_in
rules-in files folder is = rw (there files folder Rules made_rules is rules-length, rules-read) refl

windows-in : (files : Files) (folder : List ℕ) → calendar_in files folder made_limits ≡ Ok (free_weeks 12)
unfolding calendar_in
windows-in files folder = refl

ladder-in : (files : Files) (folder : List ℕ) → held (path_of folder Ladder) files ≡ Some made_ladder → prices_in files folder ≡ Ok made_prices
unfolding prices_in
ladder-in files folder is = rw (there files folder Ladder made_ladder is ladder-length, ladder-read) refl

stock-in : (seed : ℕ) (files : Files) (folder : List ℕ) → held (path_of folder Stock) files ≡ Some (made_stock seed) → stores_in files folder made_limits ≡ Ok (made_stores seed)
unfolding stores_in
stock-in seed files folder is =
    let short : length (made_stock seed) ≤ 33554432 = let few = stock-length seed in omega (arith, few) in
    rw (there files folder Stock (made_stock seed) is short, stock-read seed) refl

demand-in : (seed : ℕ) (files : Files) (folder : List ℕ) → held (path_of folder Demand) files ≡ Some (made_demand seed) → weights_in files folder made_limits made_prices (made_stores seed) ≡ Ok (made_weights seed)
unfolding weights_in
demand-in seed files folder is = rw (there files folder Demand (made_demand seed) is (demand-length seed), made_names seed, demand-read seed) refl

within : (seed : ℕ) → season_within made_limits (free_weeks 12) made_prices (made_stores seed) (made_weights seed) ≡ Ok (made_season seed)
unfolding season_within
within seed = rw (le-leb _ _ (made-cells seed)) refl

made-in : (seed : ℕ) (files : Files) (folder : List ℕ) → held (path_of folder Rules) files ≡ Some made_rules → held (path_of folder Ladder) files ≡ Some made_ladder
    → held (path_of folder Stock) files ≡ Some (made_stock seed) → held (path_of folder Demand) files ≡ Some (made_demand seed) → season_in files folder ≡ Ok (made_season seed)
unfolding season_in
made-in seed files folder rules ladder stock demand =
    rw (rules-in files folder rules, windows-in files folder, ladder-in files folder ladder, stock-in seed files folder stock, demand-in seed files folder demand) (within seed)

pub made-reads : (seed : ℕ) (made : Made) → IsMade seed made → ReadInFolders made
made-reads seed made is files folder holds = record {
  season = made_season seed;
  reads = made-in seed files folder (holds.rules ∙ ap Some is.rules) (holds.ladder ∙ ap Some is.ladder) (holds.stock ∙ ap Some is.stock) (holds.demand ∙ ap Some is.demand);
  valid = made-season seed;
  stores = stores-length seed;
  weeks = refl;
  rungs = refl;
  base = refl;
  some_path = made-path;
}
