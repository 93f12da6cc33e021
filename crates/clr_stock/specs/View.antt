-- The stores that the code's names and holdings stand for.
use Rattle.std.specs.Prelude.{ℕ, List, [], ◌∷◌}
use Rattle.clr_stock.specs.Stock.{Holding, Store, store_of}
use Rattle.clr_stock.specs.declared.stock.Holding.{Holding as StockHolding}

abbrev pub as_holding : StockHolding → Holding
as_holding h = record { units = h.units; salvage = h.salvage; relabel = h.relabel }

-- names, each with what its store holds
abbrev pub stores_of : List (List ℕ) → List StockHolding → List Store
stores_of [] holdings = []
stores_of (name ∷ names) [] = []
stores_of (name ∷ names) (holding ∷ holdings) =
    store_of name (as_holding holding) ∷ stores_of names holdings
