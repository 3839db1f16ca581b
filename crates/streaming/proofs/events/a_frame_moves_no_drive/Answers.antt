use Rattle.streaming.proofs.Frames.{frame_alone, frame_unmoved, frame_untold}
use Rattle.streaming.proofs.events.a_frame_moves_no_drive.Goals as goal

pub returns-clause-plain : goal.returns-clause-plain
returns-clause-plain c = frame_unmoved

pub returns-clause-physical : goal.returns-clause-physical
returns-clause-physical c = frame_alone

pub returns-clause-untold : goal.returns-clause-untold
returns-clause-untold c = frame_untold
