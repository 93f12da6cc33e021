use Rattle.std.proofs.Common.{◌∙◌, arith, ap₂, min, ◌*◌}
use Rattle.clr_policy.specs.Written.{most_objects, object_count, written}
use Rattle.clr_policy.specs.Judged.{stock_demands}
use Rattle.clr_policy.proofs.Sizes.{held_both, some_lists}
use Rattle.clr_policy.proofs.judged.size_of.Goals as goal

pub returns : goal.returns
returns c =
    c.held_product.ensures.value
    ∙ (ap₂ (λ a b. min (a * b) most_objects) c.objects.ensures.value c.size_of_stocks.ensures.value
    ∙ held_both (object_count (written c.args.policy.now)) (stock_demands c.args.season.now.top c.args.season.now.stores) most_objects (some_lists c.args.season.now.top c.args.season.now.stores) (omega arith))
