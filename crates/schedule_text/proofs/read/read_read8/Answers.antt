use Rattle.std.proofs.Common.{arith}
use Rattle.schedule_text.proofs.Forms.{no_read8}
use Rattle.schedule_text.proofs.read.read_read8.Goals as goal

pub returns-in-None : goal.returns-in-None
returns-in-None c = record { reads = no_read8 c.args.name.now (omega arith) c.in-None.ensures.told }
