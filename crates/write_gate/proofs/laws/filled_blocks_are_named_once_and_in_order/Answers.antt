use Rattle.std.proofs.Common.{true, slice_set}
use Rattle.write_gate.proofs.Lowest.{named_is_lowest, next_above}
use Rattle.write_gate.proofs.laws.filled_blocks_are_named_once_and_in_order.Goals as goal

pub returns : goal.returns
returns c = λ request area sets b next suitable blocks named then.
    next_above area sets.filled request.first request.count b next blocks
    (named_is_lowest area sets.filled request.first request.count b suitable named)
    (named_is_lowest area (slice_set sets.filled b true) request.first request.count next suitable then)
