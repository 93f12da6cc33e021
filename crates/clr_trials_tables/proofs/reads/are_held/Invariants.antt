use Rattle.std.proofs.Common.{ℕ, ◌<◌, ◌≤◌, get_or}
use Rattle.clr_model.specs.Revenue.{full_stocks}
use Rattle.clr_trials_tables.proofs.reads.are_held.Given as goal

abbrev pub invariant-loop-index : goal.invariant-loop-index
invariant-loop-index l = (i : ℕ) → i < l.index → get_or l.stocks i 0 ≤ get_or (full_stocks l.season) i 0
