use Rattle.clr_storedp.proofs.ReadAt.{table_reads_lem}
use Rattle.clr_storedp.proofs.laws.table_reads.Goals as goal

pub returns : goal.returns
returns c = table_reads_lem
