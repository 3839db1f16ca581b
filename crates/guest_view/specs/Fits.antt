-- What the view is whenever the monitor has the drive.
use Rattle.std.specs.Prelude.{◌≡◌, ℕ, true, false, ◌≤◌}
use Rattle.ata_taskfile.specs.Data.{is_wanted}
use Rattle.ata_taskfile.specs.Lawful.{end_of, is_just_taken, HasTwoBytes}
use Rattle.port_lease.specs.declared.view.View.{View}
use Rattle.port_lease.specs.View.{IsLawfulView}
use Rattle.port_lease.specs.Handover.{IsOrdered}

-- a view beside a drive of so many sectors: lawful, its order within them, and where nothing is done of it the one
-- that its registers give; a block is offered to be read alone, since a write is the drive's (own)
pub record FitsView (v : View) (sectors : ℕ) : Type 0 where
  pub lawful : IsLawfulView v
  pub within : end_of v.file.phase ≤ sectors
  pub ordered : is_just_taken v.file.phase ≡ true → IsOrdered v v.file.command sectors
  pub served : is_wanted v.file.phase ≡ false
  pub pairs : HasTwoBytes v.file
