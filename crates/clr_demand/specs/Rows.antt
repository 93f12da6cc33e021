-- What the code's structs hold, as the definitions' records.
use Rattle.clr_demand.specs.Demand.{Listed, Sizes}
use Rattle.clr_demand.specs.declared.row.Listed.{Listed as RowListed}
use Rattle.clr_demand.specs.declared.row.Sizes.{Sizes as RowSizes}

abbrev pub as_listed : RowListed → Listed
as_listed l = record { store = l.store; week = l.week; rung = l.rung; units = l.units; weight = l.weight }

abbrev pub as_sizes : RowSizes → Sizes
as_sizes s = record { weeks = s.weeks; rungs = s.rungs; base = s.base }
