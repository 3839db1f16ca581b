use Rattle.fill_store.proofs.Opens.{opens_at_power_on}
use Rattle.fill_store.proofs.laws.an_opening_begins_at_power_on.Goals as goal

pub returns : goal.returns
returns c = opens_at_power_on
