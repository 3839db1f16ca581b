use Rattle.plain_drive.proofs.Accesses.{words_answered, words_accessed, written_accessed}
use Rattle.plain_drive.proofs.words_are_accesses.Goals as goal

pub returns-clause-answered : goal.returns-clause-answered
returns-clause-answered c = words_answered

pub returns-clause-read : goal.returns-clause-read
returns-clause-read c = words_accessed

pub returns-clause-written : goal.returns-clause-written
returns-clause-written c = written_accessed
