use Rattle.std.proofs.Common.{rules, ◌≤◌, ◌+◌, ◌*◌, ◌^◌, arith}
use Rattle.clr_model.proofs.FitsBounds.{branches_most, demands_most}
use Rattle.clr_model.proofs.joint_limits.branches_of_all.Goals as goal

pub pow-requires : goal.pow-requires
pow-requires c =
    let demands : c.from-2.result + 1 ≤ 201 = search rules in
    let stores : c.stores.result ≤ 4 = search rules in
    let most : (c.from-2.result + 1) ^ c.stores.result ≤ 1632240801 = demands_most (c.from-2.result + 1) c.stores.result demands stores in
    omega (arith, most)

pub overflow_mul-result : goal.overflow_mul-result
overflow_mul-result c =
    let demands : c.from-2.result + 1 ≤ 201 = search rules in
    let stores : c.stores.result ≤ 4 = search rules in
    let rungs : c.from.result ≤ 12 = search rules in
    let lists : c.pow.result ≤ 1632240801 = rw c.pow.ensures (demands_most (c.from-2.result + 1) c.stores.result demands stores) in
    let most : c.from.result * c.pow.result ≤ 19586889612 = branches_most c.from.result c.pow.result rungs lists in
    record { fits = omega (arith, most) }

pub returns-clause-range : goal.returns-clause-range
returns-clause-range c =
    let demands : c.from-2.result + 1 ≤ 201 = search rules in
    let stores : c.stores.result ≤ 4 = search rules in
    let rungs : c.from.result ≤ 12 = search rules in
    branches_most c.from.result c.pow.result rungs (rw c.pow.ensures (demands_most (c.from-2.result + 1) c.stores.result demands stores))
