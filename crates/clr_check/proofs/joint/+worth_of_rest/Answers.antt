use Rattle.std.proofs.Common.{◌<◌, ◌≤◌, ◌+◌, ◌-◌, ◌/◌, ◌%◌, ◌∙◌, ℕ, subst, arith, length}
use Rattle.clr_cert.proofs.StockLists.{NextStore}
use Rattle.clr_check.specs.JointRows.{list_after}
use Rattle.clr_check.proofs.JointLists.{next_lists}
use Rattle.clr_check.proofs.JointSums.{worth_more, worth_read}
use Rattle.clr_check.proofs.joint.+worth_of_rest.Goals as goal

pub nonzero_div-index : goal.nonzero_div-index
nonzero_div-index t c =
    let low : c.args.past < length c.args.season.now.stores = omega (arith, c.requires.past, c.if-past-stores.false, c.stores.ensures.value) in
    (next_lists c.args.season.now c.args.past c.args.index c.from.result c.args.lists low (c.from.ensures ∙ c.stock.ensures.value) c.requires.lists c.requires.index).some

pub worth-here-requires-clause-stock : goal.worth-here-requires-clause-stock
worth-here-requires-clause-stock t c =
    let low : c.args.past < length c.args.season.now.stores = omega (arith, c.requires.past, c.if-past-stores.false, c.stores.ensures.value) in
    subst (λ n. c.args.index / (c.args.lists / (c.from.result + 1)) ≤ n) (c.from.ensures ∙ c.stock.ensures.value) (next_lists c.args.season.now c.args.past c.args.index c.from.result c.args.lists low (c.from.ensures ∙ c.stock.ensures.value) c.requires.lists c.requires.index).held

pub nonzero_rem-index : goal.nonzero_rem-index
nonzero_rem-index t c =
    let low : c.args.past < length c.args.season.now.stores = omega (arith, c.requires.past, c.if-past-stores.false, c.stores.ensures.value) in
    (next_lists c.args.season.now c.args.past c.args.index c.from.result c.args.lists low (c.from.ensures ∙ c.stock.ensures.value) c.requires.lists c.requires.index).some

pub worth_of_rest-requires : goal.worth_of_rest-requires
worth_of_rest-requires t c =
    let low : c.args.past < length c.args.season.now.stores = omega (arith, c.requires.past, c.if-past-stores.false, c.stores.ensures.value) in
    let next : NextStore c.args.season.now.stores c.args.past c.args.lists c.args.index c.from.result = next_lists c.args.season.now c.args.past c.args.index c.from.result c.args.lists low (c.from.ensures ∙ c.stock.ensures.value) c.requires.lists c.requires.index in
    (omega (arith, c.decreases, low), (c.requires.few, (omega (arith, low), (next.width, next.within))))

pub returns-clause-value : goal.returns-clause-value
returns-clause-value t c =
    let season = c.args.season.now in
    let low : c.args.past < length season.stores = omega (arith, c.requires.past, c.if-past-stores.false, c.stores.ensures.value) in
    let later : ℕ = c.args.lists / (c.from.result + 1) in
    let next : NextStore season.stores c.args.past c.args.lists c.args.index c.from.result = next_lists season c.args.past c.args.index c.from.result c.args.lists low (c.from.ensures ∙ c.stock.ensures.value) c.requires.lists c.requires.index in
    worth_read (length season.stores - (c.args.past + 1)) c.worth-here.result c.worth_of_rest.result (omega (arith, c.requires.few)) c.worth-here.ensures.size c.worth_of_rest.ensures.size
    ∙ worth_more season c.args.past (c.args.index / later) (list_after season (c.args.past + 1) (c.args.index % later)) (list_after season c.args.past c.args.index) c.worth-here.result c.worth_of_rest.result next.read c.worth-here.ensures.value c.worth_of_rest.ensures.value
