use Rattle.std.proofs.Common.{rules, ◌≤◌, ◌^◌, arith}
use Rattle.clr_model.proofs.FitsBounds.{base_most}
use Rattle.clr_model.proofs.joint_limits.base_of_all.Goals as goal

pub pow-requires : goal.pow-requires
pow-requires c =
    let base : c.from.result ≤ 1000000 = search rules in
    let stores : c.stores.result ≤ 4 = search rules in
    let most : c.from.result ^ c.stores.result ≤ 1000000000000000000000000 = base_most c.from.result c.stores.result base stores in
    omega (arith, most)
