use Rattle.run_words.proofs.Once.{answered_once}
use Rattle.run_words.proofs.reader.read_options.Goals as goal

pub returns-clause-only : goal.returns-clause-only
returns-clause-only c =
    answered_once _ c.read_run.result c.read_run.ensures.found c.read_run.ensures.none
