use Rattle.std.proofs.Common.{◌≡◌, ℕ, ◌<◌, get_or, pos}
use Rattle.clr_rules.specs.Rules.{IsPath}
use Rattle.clr_check.proofs.keeping.keep_path.Given as goal

abbrev pub invariant-loop-index : goal.invariant-loop-index
invariant-loop-index l = record {
  path : IsPath l.season.rules l.path;
  there : (k : ℕ) → k < l.index → pos (get_or l.path k 0) ≡ get_or l.numbers k (pos 0);
}
