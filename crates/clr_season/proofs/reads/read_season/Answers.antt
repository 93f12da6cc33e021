use Rattle.std.proofs.Common.{◌≡◌, refl, ℕ, List, rules}
use Rattle.std.specs.Prelude.{Err, IfSome, Ok}
use Rattle.clr_rules.specs.declared.season_rules.Window.{Window}
use Rattle.clr_stock.specs.Stock.{Store}
use Rattle.clr_demand.specs.Weights.{DemandWeights}
use Rattle.clr_season.specs.declared.reads.File.{File}
use Rattle.clr_season.specs.declared.reads.File.TheVariants as f
use Rattle.clr_season.specs.declared.reads.SeasonError.TheVariants.{Read}
use Rattle.clr_season.specs.Reads.{Gives, calendar_in, prices_in, stores_in, weights_in}
use Rattle.clr_season.proofs.Stops.{calendar-error, demand-error, ladder-error, limits-error, stock-error}
use Rattle.clr_season.proofs.reads.read_season.Goals as goal

pub returns-in_err-limits-clause-gives : goal.returns-in_err-limits-clause-gives
returns-in_err-limits-clause-gives g c =
    let of : (file : File) → c.in_err-limits.field-0.0 ≡ Read file → file ≡ f.Rules = λ file is. (c.in_err-limits.ensures.read file (rw is refl)).0 in
    let same : c.from_residual.result ≡ Err c.in_err-limits.field-0.0 = search rules in
    rw same (limits-error (g.H.Shelf.files c.args.shelf.now) c.args.folder.now c.in_err-limits.field-0.0 c.in_err-limits.ensures.gives of)

pub returns-in_err-calendar-clause-gives : goal.returns-in_err-calendar-clause-gives
returns-in_err-calendar-clause-gives g c =
    let failed : IfSome (g.H.Shelf.files c.args.shelf.now) (λ held. Gives {X = List Window} {Y = List Window} (λ x. x) (Err c.in_err-calendar.field-0.0) (calendar_in held c.args.folder.now c.in_ok-limits.limits)) =
    rw c.in_ok-limits.ensures.files at c.in_err-calendar.ensures.gives in
    let of : (file : File) → c.in_err-calendar.field-0.0 ≡ Read file → file ≡ f.Calendar = λ file is. (c.in_err-calendar.ensures.read file (rw is refl)).0 in
    let same : c.from_residual-in_err-calendar.result ≡ Err c.in_err-calendar.field-0.0 = search rules in
    rw same (calendar-error (g.H.Shelf.files c.args.shelf.now) c.args.folder.now c.in_ok-limits.limits c.in_err-calendar.field-0.0 c.in_ok-limits.ensures.gives failed of)

pub returns-in_err-ladder-clause-gives : goal.returns-in_err-ladder-clause-gives
returns-in_err-ladder-clause-gives g c =
    let calendar : IfSome (g.H.Shelf.files c.args.shelf.now) (λ held. calendar_in held c.args.folder.now c.in_ok-limits.limits ≡ Ok c.in_ok-calendar.calendar) = rw c.in_ok-limits.ensures.files at c.in_ok-calendar.ensures.gives in
    let failed : IfSome (g.H.Shelf.files c.args.shelf.now) (λ held. Gives {X = List ℕ} {Y = List ℕ} (λ x. x) (Err c.in_err-ladder.field-0.0) (prices_in held c.args.folder.now)) =
    rw (c.in_ok-calendar.ensures.files, c.in_ok-limits.ensures.files) at c.in_err-ladder.ensures.gives in
    let of : (file : File) → c.in_err-ladder.field-0.0 ≡ Read file → file ≡ f.Ladder = λ file is. (c.in_err-ladder.ensures.read file (rw is refl)).0 in
    let same : c.from_residual-in_err-ladder.result ≡ Err c.in_err-ladder.field-0.0 = search rules in
    rw same (ladder-error (g.H.Shelf.files c.args.shelf.now) c.args.folder.now c.in_ok-limits.limits c.in_ok-calendar.calendar c.in_err-ladder.field-0.0 c.in_ok-limits.ensures.gives calendar failed of)

pub returns-in_err-stock-clause-gives : goal.returns-in_err-stock-clause-gives
returns-in_err-stock-clause-gives g c =
    let calendar : IfSome (g.H.Shelf.files c.args.shelf.now) (λ held. calendar_in held c.args.folder.now c.in_ok-limits.limits ≡ Ok c.in_ok-calendar.calendar) = rw c.in_ok-limits.ensures.files at c.in_ok-calendar.ensures.gives in
    let ladder : IfSome (g.H.Shelf.files c.args.shelf.now) (λ held. prices_in held c.args.folder.now ≡ Ok c.in_ok-ladder.ladder) = rw (c.in_ok-calendar.ensures.files, c.in_ok-limits.ensures.files) at c.in_ok-ladder.ensures.gives in
    let failed : IfSome (g.H.Shelf.files c.args.shelf.now) (λ held. Gives {X = List Store} {Y = List Store} (λ x. x) (Err c.in_err-stock.field-0.0) (stores_in held c.args.folder.now c.in_ok-limits.limits)) =
    rw (c.in_ok-ladder.ensures.files, c.in_ok-calendar.ensures.files, c.in_ok-limits.ensures.files) at c.in_err-stock.ensures.gives in
    let of : (file : File) → c.in_err-stock.field-0.0 ≡ Read file → file ≡ f.Stock = λ file is. (c.in_err-stock.ensures.read file (rw is refl)).0 in
    let same : c.from_residual-in_err-stock.result ≡ Err c.in_err-stock.field-0.0 = search rules in
    rw same (stock-error (g.H.Shelf.files c.args.shelf.now) c.args.folder.now c.in_ok-limits.limits c.in_ok-calendar.calendar c.in_ok-ladder.ladder c.in_err-stock.field-0.0 c.in_ok-limits.ensures.gives calendar ladder failed of)

pub returns-in_err-demand-clause-gives : goal.returns-in_err-demand-clause-gives
returns-in_err-demand-clause-gives g c =
    let calendar : IfSome (g.H.Shelf.files c.args.shelf.now) (λ held. calendar_in held c.args.folder.now c.in_ok-limits.limits ≡ Ok c.in_ok-calendar.calendar) = rw c.in_ok-limits.ensures.files at c.in_ok-calendar.ensures.gives in
    let ladder : IfSome (g.H.Shelf.files c.args.shelf.now) (λ held. prices_in held c.args.folder.now ≡ Ok c.in_ok-ladder.ladder) = rw (c.in_ok-calendar.ensures.files, c.in_ok-limits.ensures.files) at c.in_ok-ladder.ensures.gives in
    let stock : IfSome (g.H.Shelf.files c.args.shelf.now) (λ held. stores_in held c.args.folder.now c.in_ok-limits.limits ≡ Ok c.in_ok-stock.stock) =
    rw (c.in_ok-ladder.ensures.files, c.in_ok-calendar.ensures.files, c.in_ok-limits.ensures.files) at c.in_ok-stock.ensures.gives in
    let failed : IfSome (g.H.Shelf.files c.args.shelf.now) (λ held. Gives {X = DemandWeights} {Y = DemandWeights} (λ x. x) (Err c.in_err-demand.field-0.0) (weights_in held c.args.folder.now c.in_ok-limits.limits c.in_ok-ladder.ladder c.in_ok-stock.stock)) =
    rw (c.in_ok-stock.ensures.files, c.in_ok-ladder.ensures.files, c.in_ok-calendar.ensures.files, c.in_ok-limits.ensures.files) at c.in_err-demand.ensures.gives in
    let of : (file : File) → c.in_err-demand.field-0.0 ≡ Read file → file ≡ f.Demand = λ file is. (c.in_err-demand.ensures.read file (rw is refl)).0 in
    let same : c.from_residual-in_err-demand.result ≡ Err c.in_err-demand.field-0.0 = search rules in
    rw same (demand-error (g.H.Shelf.files c.args.shelf.now) c.args.folder.now c.in_ok-limits.limits c.in_ok-calendar.calendar c.in_ok-ladder.ladder c.in_ok-stock.stock c.in_err-demand.field-0.0 c.in_ok-limits.ensures.gives calendar ladder stock failed of)
