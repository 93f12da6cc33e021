use Rattle.std.proofs.Common.{◌∙◌, sym}
use Rattle.clr_stock.proofs.Stores.{length-stores}
use Rattle.clr_stock.proofs.stock.Stock.len.Goals as goal

pub returns-clause-len : goal.returns-clause-len
returns-clause-len c =
    let same = c.self.invariant.0 in
    rw (← c.self.view_is) (c.len.ensures.len ∙ same ∙ sym (length-stores c.self.inside.names c.self.inside.holdings.items same))
