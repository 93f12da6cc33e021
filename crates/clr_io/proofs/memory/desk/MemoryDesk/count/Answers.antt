use Rattle.std.proofs.Common.{arith}
use Rattle.clr_io.proofs.Entries.{length-files_in}
use Rattle.clr_io.proofs.memory.desk.MemoryDesk.count.Goals as goal

pub returns : goal.returns
returns c = omega (arith, length-files_in c.args.self.now.entries.items c.args.self.now.bytes.items)
