use Rattle.streaming.proofs.Lines.{commands_turn, event_answers, event_plan, event_requests, monitored_commands}
use Rattle.streaming.proofs.runs.a_monitors_lines_are_its_own.Goals as goal

pub returns-clause-answers : goal.returns-clause-answers
returns-clause-answers c = event_answers

pub returns-clause-plan : goal.returns-clause-plan
returns-clause-plan c = event_plan

pub returns-clause-commands : goal.returns-clause-commands
returns-clause-commands c = monitored_commands

pub returns-clause-requests : goal.returns-clause-requests
returns-clause-requests c = event_requests

pub returns-clause-turn : goal.returns-clause-turn
returns-clause-turn c = commands_turn
