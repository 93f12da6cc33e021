use Rattle.std.proofs.Common.{◌≡◌, ◌≤◌, ◌*◌, ◌^◌, pos, length, take}
use Rattle.clr_model.specs.Expected.{chance}
use Rattle.clr_plain.specs.Plain.{weeks_of}
use Rattle.clr_plain.proofs.chance.chance.Given as goal

abbrev pub invariant-loop-done : goal.invariant-loop-done
invariant-loop-done l = record {
  value : pos l.product ≡ chance l.season 0 (take l.done l.path) (weeks_of (length l.season.stores) l.done l.asked);
  range : l.product ≤ l.season.base ^ (l.done * length l.season.stores);
}
