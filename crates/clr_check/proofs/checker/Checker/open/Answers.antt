use Rattle.std.proofs.Common.{◌∙◌, ap, length, pos}
use Rattle.std.proofs.lemmas.List.{length-replicate}
use Rattle.clr_rules.specs.LiveSummaries.{live_pairs}
use Rattle.clr_check.proofs.Closing.{opened, walk_head}
use Rattle.clr_check.proofs.checker.Checker.open.Goals as goal

pub invariant_of-result : goal.invariant_of-result
invariant_of-result c = record {
  facts = c.rules.ensures.facts;
  lives = c.in_ok-live.ensures.pairs ∙ ap live_pairs c.rules.ensures.value;
  room = ap length (c.in_ok-numbers.ensures.items_if_clones_equal (λ y e. cc)) ∙ length-replicate 2001 (pos 0);
  next = walk_head c.args.season.now;
  shape = c.in_ok-tables.ensures;
}

pub returns : goal.returns
returns c = record { stands = opened c.args.season.now c.in_ok-tables.tables }
