use Rattle.std.proofs.Common.{◌≡◌, ◌≤◌, ◌+◌, ◌-◌, length, false, ℕ, List}
use Rattle.clr_season.specs.Season.{Season}
use Rattle.clr_check.specs.FileChecks.{IsFed}
use Rattle.clr_check.specs.Standing.{Stands}
use Rattle.clr_check.proofs.FileLemmas.{Counted}
use Rattle.clr_check.proofs.file.feed_all.Given as goal

abbrev pub invariant-loop-checker : goal.invariant-loop-checker
invariant-loop-checker g l = record {
  taken : g.H.Shelf.taken l.shelf ≡ l.lines.taken;
  goes_on : l.lines.ended ≡ false;
  longest : l.lines.longest ≡ 65536;
  max : l.lines.max ≡ 268435456;
  few : l.lines.taken ≤ 268435456;
  fed : (season : Season) (fed : List (List ℕ)) → Stands season fed l.initial.checker → IsFed season fed l.initial.lines.held (g.H.Shelf.rest l.initial.shelf) l.checker l.lines.held (g.H.Shelf.rest l.shelf);
  counts : Counted l.initial.lines.taken (g.H.Shelf.rest l.initial.shelf) l.lines.taken (g.H.Shelf.rest l.shelf);
  files : g.H.Shelf.files l.shelf ≡ g.H.Shelf.files l.initial.shelf;
  later : g.H.Shelf.faults l.initial.shelf ≤ g.H.Shelf.faults l.shelf;
}

abbrev pub decreases-loop-checker : goal.decreases-loop-checker
decreases-loop-checker g l = l.lines.max + 65537 + length l.lines.held - l.lines.taken
