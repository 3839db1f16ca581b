use Rattle.schedule_text.proofs.Forms.{no_bytes_written}
use Rattle.std.proofs.Common.{arith}
use Rattle.schedule_text.proofs.read.read_bytes.Goals as goal

pub returns-in-None : goal.returns-in-None
returns-in-None c = record {
  reads = no_bytes_written c.args.address c.args.hex.now (omega arith)
      (omega arith) c.in-None.ensures.told;
}
