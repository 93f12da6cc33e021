use Rattle.clr_check.specs.Standing.{AreMultRows, AreMultsKept}
use Rattle.clr_check.proofs.keeping.keep_mults.Given as goal

abbrev pub invariant-loop-index : goal.invariant-loop-index
invariant-loop-index l = record {
  rows : AreMultRows l.season l.rows;
  kept : AreMultsKept l.season l.week l.rung l.numbers l.index l.initial.rows l.rows;
}
