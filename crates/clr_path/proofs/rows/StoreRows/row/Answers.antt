use Rattle.std.proofs.Common.{◌≡◌, ◌+◌, ◌-◌, ◌*◌, take, drop, ap₂, ◌∙◌, arith}
use Rattle.clr_path.proofs.FlatLemmas.{row_early, row_found}
use Rattle.clr_path.proofs.rows.StoreRows.row.Goals as goal

pub overflow_sub-start : goal.overflow_sub-start
overflow_sub-start c = row_early c.self.inside.weeks c.self.inside.width c.args.done c.self.inside.values.items c.args.self.now c.self.view_is c.requires

pub returns : goal.returns
returns c =
    let start = (c.self.inside.weeks - c.args.done) * c.self.inside.width in
    let size : start + c.self.inside.width - start ≡ c.self.inside.width = omega arith in
    ap₂ (λ n v. take n (drop start v)) size c.deref.ensures.value ∙ row_found c.self.inside.weeks c.self.inside.width c.args.done c.self.inside.values.items c.args.self.now c.self.view_is c.requires
