use Rattle.write_cache.proofs.Values.{taken_own, taken_another, taken_between}
use Rattle.write_cache.proofs.laws.a_taken_entry_takes_the_older.Goals as goal

pub returns-clause-own : goal.returns-clause-own
returns-clause-own c = taken_own

pub returns-clause-others : goal.returns-clause-others
returns-clause-others c = taken_another

pub returns-clause-between : goal.returns-clause-between
returns-clause-between c = taken_between
