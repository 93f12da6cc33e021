use Rattle.std.proofs.Common.{◌≡◌, ◌<◌, ◌+◌, ◌-◌, ◌++◌, ◌∙◌, ◌∷◌, [], true, length, get_or, arith, rules}
use Rattle.std.specs.Prelude.{Ok}
use Rattle.std.specs.Result.{is_ok}
use Rattle.clr_text.proofs.JudgedRows.{judged-good}
use Rattle.clr_stock.specs.Ladder.{falls, ladder_row}
use Rattle.clr_stock.proofs.Falling.{falling_push}
use Rattle.clr_stock.proofs.ladder.prices_of.Goals as goal

pub loop-index-preserved : goal.loop-index-preserved
loop-index-preserved c =
    let inv = c.loop-index.invariant in
    let index = c.loop-index.index in
    let table = c.args.table.now in
    let before = c.loop-index.prices.items in
    let price = c.in_ok-price.price in
    let range = c.in_ok-price.ensures.range in
    let last : falls before price ≡ true = rw (← c.deref.ensures.value) c.in_ok-price.ensures.falls in
    let good : is_ok c.push.result ≡ true = search rules in
    let items : c.push.new.self.items ≡ before ++ price ∷ [] = rw good at c.push.ensures.items in
    let back : index + 1 - 1 ≡ index = omega arith in
    let under : index < length table = search rules in
    let row : ladder_row (index + 1) before (get_or table index []) ≡ Ok (before ++ price ∷ []) = rw (← c.deref.ensures.value) (rw back at c.in_ok-price.ensures.gives) in
    record {
      falling = rw items (falling_push before price inv.falling range.0 range.1 last);
      count = search rules;
      rest = rw items (inv.rest ∙ judged-good ladder_row (index + 1) before (before ++ price ∷ []) table index under row);
    }
