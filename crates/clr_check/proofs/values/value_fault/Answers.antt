use Rattle.std.proofs.Common.{◌≡◌, ◌∙◌, ◌<◌, sym, arith, suc, get_or, pos, to_z, of_z}
use mir.Syntax.{w128}
use Rattle.clr_season.specs.Season.{store_at}
use Rattle.clr_cert.specs.Conditions.{value_conditions}
use Rattle.clr_cert.specs.Entries.{most_entry}
use Rattle.clr_check.proofs.Firsts.{first_is, none_so_far}
use Rattle.clr_check.proofs.Sides.{read_128}
use Rattle.clr_check.proofs.values.value_fault.Goals as goal

pub returns-then-is_some : goal.returns-then-is_some
returns-then-is_some c all of here =
    let inside : c.loop-stock.stock < suc (store_at c.args.season.now c.args.store).units = omega (arith, c.loop-stock-test.true, c.stock-stock-end.ensures.value) in
    let read : to_z w128 (of_z w128 (get_or c.args.entries.now c.loop-stock.stock (pos 0))) ≡ get_or c.args.entries.now c.loop-stock.stock (pos 0) = read_128 (get_or c.args.entries.now c.loop-stock.stock (pos 0)) most_entry (c.requires.entries.small c.loop-stock.stock (omega (arith, inside, c.requires.entries.size))) (omega arith) in
    first_is (value_conditions c.args.season.now all c.args.done c.args.store c.args.s) 0 (suc (store_at c.args.season.now c.args.store).units) c.loop-stock.stock c.stock_fault-fault.result (omega arith) (omega (arith, inside)) (λ n low less. c.loop-stock.invariant all of here n less)
    (c.stock_fault-fault.ensures all of (here c.loop-stock.stock (omega (arith, inside)) ∙ sym read)) (sym c.if-is_some.ensures)

pub returns : goal.returns
returns c all of here = sym (none_so_far (value_conditions c.args.season.now all c.args.done c.args.store c.args.s) 0 (suc (store_at c.args.season.now c.args.store).units) (λ n low less. c.loop-stock.invariant all of here n (omega (arith, less, c.loop-stock-test.false, c.stock-stock-end.ensures.value))))
