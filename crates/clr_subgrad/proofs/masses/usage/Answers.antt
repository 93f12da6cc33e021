use Rattle.std.proofs.Common.{◌≡◌, ◌≤◌, rules, length, sym, subst, arith, add-one}
use Rattle.clr_num.specs.Rounding.{ceil}
use Rattle.clr_mult.specs.Tables.{mult_at}
use Rattle.clr_storedp.specs.Tables.{IsTableOf}
use Rattle.clr_storedp.proofs.Totals.{table_at}
use Rattle.clr_subgrad.proofs.Using.{usage_is}
use Rattle.clr_subgrad.proofs.masses.usage.Goals as goal

pub use_store-requires-clause-table : goal.use_store-requires-clause-table
use_store-requires-clause-table c =
    subst (λ n. IsTableOf ceil (mult_at c.args.mult.now) c.args.season.now n c.index-tables-index.result) (sym (add-one c.loop-index.index))
    (table_at (mult_at c.args.mult.now) c.args.season.now c.args.tables.now c.loop-index.index c.index-tables-index.result c.requires.tables (omega (arith, c.loop-index-test.true, c.loop-index.auto.index-end)) c.index-tables-index.is)

pub returns : goal.returns
returns c =
    let all : c.loop-index.index ≡ length c.args.season.now.stores = omega (arith, c.loop-index-test.false, c.loop-index.auto.index-end, c.requires.tables.count) in
    let some : 1 ≤ length c.args.season.now.stores = search rules in
    let ladder : 1 ≤ length c.args.season.now.rules.prices = search rules in
    usage_is (mult_at c.args.mult.now) c.args.season.now c.loop-index.index c.loop-index.used some ladder c.loop-index.invariant.stores c.loop-index.invariant.weeks c.loop-index.invariant.rungs c.loop-index.invariant.count all c.loop-index.invariant.entries
