use Rattle.std.proofs.Common.{◌≡◌, ◌++◌, suc}
use Rattle.std.specs.List.{flat_map}
use Rattle.clr_num.specs.Lists.{numbers}
use Rattle.clr_rules.proofs.GridLemmas.{by_age, by_count}
use Rattle.clr_rules.proofs.summary_grid.Grid.summaries.Given as goal

abbrev pub invariant-loop-age : goal.invariant-loop-age
invariant-loop-age l = l.list.items ≡ flat_map (λ last. by_count l.self.counts l.self.ages last) (numbers 1 l.last) ++ flat_map (λ count. by_age l.self.ages (suc l.last) count) (numbers 0 l.count) ++ by_age l.age (suc l.last) l.count

abbrev pub invariant-loop-count : goal.invariant-loop-count
invariant-loop-count l = l.list.items ≡ flat_map (λ last. by_count l.self.counts l.self.ages last) (numbers 1 l.last) ++ flat_map (λ count. by_age l.self.ages (suc l.last) count) (numbers 0 l.count)

abbrev pub invariant-loop-last : goal.invariant-loop-last
invariant-loop-last l = l.list.items ≡ flat_map (λ last. by_count l.self.counts l.self.ages last) (numbers 1 l.last)
