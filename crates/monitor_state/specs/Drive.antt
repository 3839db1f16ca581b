-- How the drive stands while the monitor has it and no command of its own does.
use Rattle.std.specs.Prelude.{◌≡◌, true, false}
use Rattle.ata_taskfile.specs.declared.Phase.{Phase}
use Rattle.ata_taskfile.specs.declared.Phase.TheVariants.{Reset, Idle, Busy, Ready}
use Rattle.ata_taskfile.specs.TaskFile.{masks_line, selects_absent}
use Rattle.ata_taskfile.specs.Lawful.{is_in_reset}
use Rattle.ata_taskfile.specs.Device.{Device}
use Rattle.port_lease.specs.declared.view.View.{View}
use Rattle.port_lease.specs.Free.{shows_rest}

-- the drive rests, and an interrupt pends exactly where one pends for the guest, who masks it as the drive does
pub record IsResting (v : View) (d : Device) : Type 0 where
  pub rests : shows_rest d.file ≡ true
  pub pending : d.file.pending ≡ v.file.pending
  pub masked : v.file.pending ≡ true → masks_line d.file ≡ masks_line v.file

-- the drive is in its own reset, as at power-on, and so is the view; no interrupt pends in either
pub record IsStarting (v : View) (d : Device) : Type 0 where
  pub control : d.file.control ≡ 0
  pub selected : selects_absent d.file ≡ false
  pub pending : d.file.pending ≡ false
  pub waits : is_in_reset v.file.phase ≡ true
  pub calm : v.file.pending ≡ false

-- how it stands in each phase; it has no command
abbrev pub RestsIn : Phase → View → Device → Type 0
RestsIn Reset v d = IsStarting v d
RestsIn Idle v d = IsResting v d
RestsIn (Busy order done) v d = ⊥
RestsIn (Ready order done left) v d = ⊥
