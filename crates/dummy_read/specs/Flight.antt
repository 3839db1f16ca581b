-- A drive with a dummy read.
use Rattle.std.specs.Prelude.{◌≡◌, ℕ, Bool, true, false, not}
use Rattle.std.proofs.Props.{props}
use Rattle.ata_taskfile.specs.declared.registers.TheConstants.{DEV, NIEN, BLOCK_WORDS}
use Rattle.ata_taskfile.specs.declared.Taken.{Taken}
use Rattle.ata_taskfile.specs.declared.Taken.TheVariants.{Good}
use Rattle.ata_taskfile.specs.declared.Phase.{Phase}
use Rattle.ata_taskfile.specs.declared.Phase.TheVariants.{Reset, Idle, Busy, Ready}
use Rattle.ata_taskfile.specs.TaskFile.{has_bit, is_at_work, masks_line}
use Rattle.ata_taskfile.specs.Device.{Device}
use Rattle.own_pio.specs.Job.{job_order, job_request}
use Rattle.dummy_read.specs.Dummy.{job_on}

-- the drive is at work on the read of a sector
pub record IsAtWork (sector : ℕ) (order : Taken) (position sectors : ℕ) : Type 0 where
  pub order_is : order ≡ job_order (job_on sector) sectors
  pub position_is : position ≡ 0

-- the sector's block waits in Data, and no word of it was taken
pub record IsOffered (sector : ℕ) (order : Taken) (position left : ℕ) : Type 0 where
  pub good : order ≡ Good (job_request (job_on sector))
  pub position_is : position ≡ 0
  pub whole : left ≡ BLOCK_WORDS

-- where a dummy read stands, by the phase and by whether the last command failed, on a drive of so many sectors
abbrev pub FliesIn : Phase → Bool → ℕ → ℕ → Type 0
FliesIn Reset failed sector sectors = ⊥
FliesIn Idle failed sector sectors = failed ≡ true
FliesIn (Busy order position) failed sector sectors = IsAtWork sector order position sectors
FliesIn (Ready order position left) failed sector sectors = IsOffered sector order position left

-- the drive is at work on a dummy read, or its interrupt pends for the next poll to find; once it was
-- cancelled nIEN is 1
pub record IsInFlight (sector : ℕ) (cancelled : Bool) (d : Device) : Type 0 where
  pub selected : has_bit DEV d.file.device ≡ false
  pub stands : FliesIn d.file.phase d.file.failed sector d.sectors
  pub pending : d.file.pending ≡ not (is_at_work d.file.phase)
  pub masked : cancelled ≡ true → masks_line d.file ≡ true

-- where a dummy read stands has one proof at most
FliesIn-prop : (phase : Phase) (failed : Bool) (sector sectors : ℕ)
    → IsProp (FliesIn phase failed sector sectors)
FliesIn-prop Reset failed sector sectors = hlevel props
FliesIn-prop Idle failed sector sectors = hlevel props
FliesIn-prop (Busy order position) failed sector sectors = hlevel props
FliesIn-prop (Ready order position left) failed sector sectors = hlevel props

-- that a dummy read is in flight has one proof at most, so a ghost field may say it
pub IsInFlight-prop : (sector : ℕ) (cancelled : Bool) (d : Device)
    → IsProp (IsInFlight sector cancelled d)
IsInFlight-prop sector cancelled d = hlevel (props, FliesIn-prop)

-- the drive once a dummy read has ended: its words are taken, and its interrupt is the guest's to
-- acknowledge, or was acknowledged where it was cancelled (own)
abbrev pub ended : Bool → Device → Device
ended cancelled d = record d { file = record d.file { phase = Idle; pending = not cancelled } }

-- the drive of a dummy read that is cancelled: nIEN is 1 (own)
abbrev pub silenced : Device → Device
silenced d = record d { file = record d.file { control = NIEN } }
