use Rattle.fill_store.proofs.Opens.{opens_header}
use Rattle.fill_store.proofs.laws.the_header_is_written_behind_durable_zeros.Goals as goal

pub returns : goal.returns
returns c = opens_header
