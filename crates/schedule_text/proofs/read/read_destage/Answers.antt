use Rattle.std.proofs.Common.{arith}
use Rattle.schedule_text.proofs.Forms.{destage_fault}
use Rattle.schedule_text.proofs.read.read_destage.Goals as goal

pub returns-in-Err : goal.returns-in-Err
returns-in-Err c = record {
  reads = destage_fault c.args.digits.now c.in-Err.fault
      (omega arith) c.in-Err.ensures.number;
}
