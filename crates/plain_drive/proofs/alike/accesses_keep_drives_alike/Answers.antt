use Rattle.plain_drive.proofs.Likeness.{accessed_alike, accessed_on_alike}
use Rattle.plain_drive.proofs.alike.accesses_keep_drives_alike.Goals as goal

pub returns-clause-any : goal.returns-clause-any
returns-clause-any c = λ access d e alike. accessed_alike d e alike access

pub returns-clause-no_command : goal.returns-clause-no_command
returns-clause-no_command c = λ access d e alike. accessed_on_alike d e alike access
