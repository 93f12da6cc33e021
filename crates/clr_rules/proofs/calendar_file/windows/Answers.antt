use Rattle.std.proofs.Common.{◌≡◌, ◌+◌, ◌∙◌, ◌++◌, ◌∷◌, [], suc, map, ap, refl, rules, arith}
use Rattle.clr_num.specs.Lists.{numbers}
use Rattle.clr_rules.specs.Calendar.{listed_window}
use Rattle.clr_rules.proofs.NumberLists.{numbers-more}
use Rattle.clr_rules.proofs.calendar_file.windows.Goals as goal

pub loop-index-preserved : goal.loop-index-preserved
loop-index-preserved c =
    let listed = c.args.listed.now in
    let index = c.loop-index.index in
    let next : index + 1 ≡ suc index = omega arith in
    let week : 1 + index ≡ index + 1 = omega arith in
    let more : map (listed_window listed) (numbers 1 (index + 1)) ≡ map (listed_window listed) (numbers 1 index) ++ listed_window listed (index + 1) ∷ [] =
    ap (λ n. map (listed_window listed) (numbers 1 n)) next ∙ numbers-more (listed_window listed) 1 index ∙ ap (λ w. map (listed_window listed) (numbers 1 index) ++ listed_window listed w ∷ []) week in
    let pushed : c.push.new.self.items ≡ c.loop-index.windows.items ++ c.window.result ∷ [] = c.in_ok-push.ensures.items in
    record {
      items = rw (pushed, more, c.loop-index.invariant.items, c.window.ensures) refl;
      count = search rules;
    }
