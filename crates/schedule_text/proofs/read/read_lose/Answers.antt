use Rattle.std.proofs.Common.{arith}
use Rattle.schedule_text.proofs.Forms.{lost_fault}
use Rattle.schedule_text.proofs.read.read_lose.Goals as goal

pub returns-in-Err : goal.returns-in-Err
returns-in-Err c = record {
  reads = lost_fault c.args.way c.args.digits.now c.in-Err.fault (omega arith) c.in-Err.ensures.number;
}
