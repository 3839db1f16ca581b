use Rattle.plain_drive.proofs.Likeness.{acts_alike, changes_alike, step_alike, let_go_alike, destage_alike}
use Rattle.plain_drive.proofs.alike.steps_keep_drives_alike.Goals as goal

pub returns-clause-acts : goal.returns-clause-acts
returns-clause-acts c = λ step d e alike. acts_alike d e alike step

pub returns-clause-change : goal.returns-clause-change
returns-clause-change c = λ step d e alike. changes_alike d e alike step

pub returns-clause-after : goal.returns-clause-after
returns-clause-after c = λ step d e lawful alike. step_alike d e alike step lawful

pub returns-clause-cached : goal.returns-clause-cached
returns-clause-cached c = let_go_alike

pub returns-clause-destage : goal.returns-clause-destage
returns-clause-destage c = λ d e new alike. destage_alike d e alike new
