use Rattle.std.proofs.Common.{arith}
use Rattle.schedule_text.proofs.Forms.{count_fault}
use Rattle.schedule_text.proofs.read.read_count.Goals as goal

pub returns-in-Err : goal.returns-in-Err
returns-in-Err c = record {
  reads = count_fault c.args.address c.args.digits.now c.in-Err.fault (omega arith) (omega arith)
      c.in-Err.ensures.number;
}
