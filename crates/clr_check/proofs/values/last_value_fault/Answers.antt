use Rattle.std.proofs.Common.{◌≡◌, ◌∙◌, ◌<◌, sym, ap, ap₂, arith, suc, get_or, pos, to_z, of_z, [], ◌∷◌}
use mir.Syntax.{w128}
use Rattle.clr_season.specs.Season.{store_at}
use Rattle.clr_cert.specs.declared.no.NoKind.TheVariants as kind
use Rattle.clr_cert.specs.Conditions.{at_least, end_worth, value_conditions}
use Rattle.clr_cert.specs.Entries.{most_entry}
use Rattle.clr_check.specs.Faults.{first_fault}
use Rattle.clr_check.proofs.Firsts.{first_is, none_so_far}
use Rattle.clr_check.proofs.Sides.{read_128}
use Rattle.clr_check.proofs.ValueLemmas.{last_is}
use Rattle.clr_check.proofs.values.last_value_fault.Goals as goal

pub returns-then-is_some : goal.returns-then-is_some
returns-then-is_some c all here =
    let season = c.args.season.now in
    let inside : c.loop-stock.stock < suc (store_at c.args.season.now c.args.store).units = omega (arith, c.loop-stock-test.true, c.stock-stock-end.ensures.value) in
    let read : to_z w128 (of_z w128 (get_or c.args.entries.now c.loop-stock.stock (pos 0))) ≡ get_or c.args.entries.now c.loop-stock.stock (pos 0) = read_128 (get_or c.args.entries.now c.loop-stock.stock (pos 0)) most_entry (c.requires.entries.small c.loop-stock.stock (omega (arith, inside, c.requires.entries.size))) (omega arith) in
    first_is (value_conditions season all season.rules.weeks c.args.store c.args.s) 0 (suc (store_at season c.args.store).units) c.loop-stock.stock c.short_value-fault.result (omega arith) (omega (arith, inside))
    (λ n low less. ap first_fault (last_is season all c.args.store n c.args.s ∙ ap (λ v. at_least kind.Value v (end_worth season c.args.store n) ∷ []) (here n (omega (arith, less, inside)))) ∙ c.loop-stock.invariant n less)
    (c.short_value-fault.ensures ∙ (ap₂ (λ a b. first_fault (at_least kind.Value a b ∷ [])) (read ∙ sym (here c.loop-stock.stock (omega (arith, inside)))) (read_128 c.worth.result 1000000000000000000000000000 c.worth.ensures.size (omega arith) ∙ c.worth.ensures.value) ∙ ap first_fault (sym (last_is season all c.args.store c.loop-stock.stock c.args.s)))) (sym c.if-is_some.ensures)

pub returns : goal.returns
returns c all here =
    let season = c.args.season.now in
    sym (none_so_far (value_conditions season all season.rules.weeks c.args.store c.args.s) 0 (suc (store_at season c.args.store).units)
    (λ n low less. ap first_fault (last_is season all c.args.store n c.args.s ∙ ap (λ v. at_least kind.Value v (end_worth season c.args.store n) ∷ []) (here n (omega (arith, less)))) ∙ c.loop-stock.invariant n (omega (arith, less, c.loop-stock-test.false, c.stock-stock-end.ensures.value))))
