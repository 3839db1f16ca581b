use Rattle.monitor_state.proofs.Overlaid.{guests_reads}
use Rattle.monitor_state.proofs.sectors.the_guests_drive_reads_the_plain_drives_sectors.Goals as goal

pub returns : goal.returns
returns c = guests_reads
