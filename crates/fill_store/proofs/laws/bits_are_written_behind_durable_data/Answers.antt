use Rattle.fill_store.proofs.Settles.{settles_bits}
use Rattle.fill_store.proofs.laws.bits_are_written_behind_durable_data.Goals as goal

pub returns : goal.returns
returns c = settles_bits
