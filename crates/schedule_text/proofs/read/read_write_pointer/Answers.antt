use Rattle.std.proofs.Common.{arith}
use Rattle.schedule_text.proofs.Forms.{no_write_pointer}
use Rattle.schedule_text.proofs.read.read_write_pointer.Goals as goal

pub returns-in-None : goal.returns-in-None
returns-in-None c = record { reads = no_write_pointer c.args.hex.now (omega arith) c.in-None.ensures.told }
