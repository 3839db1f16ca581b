use Rattle.write_cache.proofs.Values.{newest_leads}
use Rattle.write_cache.proofs.laws.the_newest_entry_leads.Goals as goal

pub returns : goal.returns
returns c = newest_leads
