use Rattle.streaming.proofs.Asked.{taken_asked}
use Rattle.streaming.proofs.runs.a_taken_frame_was_asked_for.Goals as goal

pub returns : goal.returns
returns c = taken_asked
