use Rattle.io_interpret.proofs.Ranges.{none_empty, none_touched}
use Rattle.io_interpret.proofs.laws.untouched_ranges_have_no_empty_sector.Goals as goal

pub returns : goal.returns
returns c area filled first count = (none_empty area filled first count, none_touched area filled first count)
