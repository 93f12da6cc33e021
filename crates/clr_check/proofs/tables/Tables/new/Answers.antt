use Rattle.std.proofs.Common.{◌*◌, ap₂, subst₂}
use Rattle.clr_cert.specs.Entries.{most_entry, most_mult}
use Rattle.clr_check.specs.Rows.{AreRowsOf}
use Rattle.clr_check.proofs.tables.Tables.new.Goals as goal

pub returns : goal.returns
returns c = record {
  most = c.most_live-most.result;
  path = c.in_ok-path.ensures;
  room = c.most_live-most.ensures.room;
  mults = subst₂ (λ n l. AreRowsOf n (λ row. l) most_mult c.in_ok-mults.mults) (ap₂ (λ a b. a * b) c.stores.ensures.value c.weeks.ensures.value) c.rungs.ensures.value (c.in_ok-mults.ensures most_mult);
  lows = (c.in_ok-lows.ensures most_entry).0;
  highs = (c.in_ok-lows.ensures most_entry).1;
  values = (c.in_ok-lows.ensures most_entry).2;
  joint_lows = λ fits. (c.in_ok-joint_lows.ensures most_entry fits).0;
  joint_tops = λ fits. (c.in_ok-joint_lows.ensures most_entry fits).1;
}
