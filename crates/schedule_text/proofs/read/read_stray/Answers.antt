use Rattle.std.proofs.Common.{arith}
use Rattle.schedule_text.proofs.Forms.{no_stray}
use Rattle.schedule_text.proofs.read.read_stray.Goals as goal

pub returns-in-None : goal.returns-in-None
returns-in-None c = record { reads = no_stray c.args.way c.args.hex.now (omega arith) c.in-None.ensures.told }
