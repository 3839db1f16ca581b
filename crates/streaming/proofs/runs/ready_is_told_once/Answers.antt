use Rattle.streaming.proofs.Lines.{ready_once, ready_turn}
use Rattle.streaming.proofs.Opened.{ready_at_most}
use Rattle.streaming.proofs.runs.ready_is_told_once.Goals as goal

pub returns-clause-turn : goal.returns-clause-turn
returns-clause-turn c = ready_turn

pub returns-clause-once : goal.returns-clause-once
returns-clause-once c = ready_once

pub returns-clause-run : goal.returns-clause-run
returns-clause-run c = ready_at_most
