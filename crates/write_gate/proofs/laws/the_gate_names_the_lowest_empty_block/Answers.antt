use Rattle.write_gate.proofs.Lowest.{lowest_gates, named_is_lowest}
use Rattle.write_gate.proofs.laws.the_gate_names_the_lowest_empty_block.Goals as goal

pub returns : goal.returns
returns c = λ request area sets b suitable. (
  named_is_lowest area sets.filled request.first request.count b suitable,
  lowest_gates area sets.filled request.first request.count b suitable,
)
