use Rattle.std.proofs.Common.{refl}
use Rattle.fill_store.proofs.OneSector.{read_done, write_done}
use Rattle.fill_store.proofs.own_jobs.a_job_of_one_sector_is_done.Goals as goal

pub returns-clause-read : goal.returns-clause-read
returns-clause-read c = read_done

pub returns-clause-write : goal.returns-clause-write
returns-clause-write c = write_done
