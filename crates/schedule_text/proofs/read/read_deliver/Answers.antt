use Rattle.std.proofs.Common.{arith}
use Rattle.schedule_text.proofs.Forms.{delivered_fault}
use Rattle.schedule_text.proofs.read.read_deliver.Goals as goal

pub returns-in-Err : goal.returns-in-Err
returns-in-Err c =
    let place = c.digits_and_keep-keep.ensures in
    record {
      reads = delivered_fault c.args.way c.args.rest.now _ _ c.in-Err.fault (omega arith) place.told
          (λ u keep whole is. (place.only u keep whole is).0) c.in-Err.ensures.number;
    }
