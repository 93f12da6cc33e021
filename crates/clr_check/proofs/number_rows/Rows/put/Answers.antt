use Rattle.std.proofs.Common.{◌∙◌, refl, ap}
use Rattle.clr_check.proofs.Apart.{row_lent}
use Rattle.clr_check.proofs.number_rows.Rows.put.Goals as goal

pub returns : goal.returns
returns c =
    rw (← c.self.view_is)
    (row_lent (λ row. row.items) c.self.inside.rows.items c.args.at c.args.from c.index_mut.result.now.len c.args.numbers.now c.deref_mut.result.now c.put_numbers.new.row _ c.index_mut.result.now _ (rw c.self.view_is c.requires.at) (c.deref_mut.ensures.value ∙ ap (λ v. v.items) c.index_mut.ensures.value) c.put_numbers.ensures c.deref_mut.ensures.len refl)
