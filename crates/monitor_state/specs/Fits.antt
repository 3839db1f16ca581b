-- What holds of the monitor and its drive between any two calls.
use Rattle.std.specs.Prelude.{ℕ, ◌≡◌, ◌≤◌, ◌<◌, ◌+◌, ◌*◌, true, false, is_some, Some, None, IsSomeAnd}
use Rattle.ata_taskfile.specs.declared.Form.TheVariants.{PioIn, DmaIn}
use Rattle.ata_taskfile.specs.declared.Taken.TheVariants.{Good}
use Rattle.ata_taskfile.specs.declared.Phase.{Phase}
use Rattle.ata_taskfile.specs.declared.Phase.TheVariants.{Reset, Idle, Busy, Ready}
use Rattle.ata_taskfile.specs.declared.registers.TheConstants.{SECTOR_BYTES}
use Rattle.ata_taskfile.specs.TaskFile.{is_at_work, masks_line}
use Rattle.ata_taskfile.specs.Lawful.{is_in_reset}
use Rattle.ata_taskfile.specs.Device.{Device}
use Rattle.fill_bitmap.specs.Area.{IsSuitable, blocks_of}
use Rattle.fill_bitmap.specs.Bitmap.{IsNested, blocks_in}
use Rattle.fill_bitmap.specs.Disk.{is_empty_at}
use Rattle.fill_store.specs.Opening.{next_in_opening}
use Rattle.mon_pool.specs.Region.{buffers_in}
use Rattle.port_lease.specs.declared.view.View.{View}
use Rattle.port_lease.specs.View.{IsGiven, IsKept}
use Rattle.port_lease.specs.Sides.{has_own, view_held, view_kept}
use Rattle.own_pio.specs.declared.job.OwnJob.TheVariants as job
use Rattle.own_pio.specs.declared.own.Own.{Own}
use Rattle.own_pio.specs.Job.{IsFit}
use Rattle.own_pio.specs.Own.{done_of, job_of, polls_left}
use Rattle.own_pio.specs.Running.{IsRunning}
use Rattle.dummy_read.specs.Dummy.{is_cancelled, sector_of}
use Rattle.dummy_read.specs.Flight.{IsInFlight}
use Rattle.guest_view.specs.Fits.{FitsView}
use Rattle.redirect.specs.declared.redirect.Redirect.{Redirect}
use Rattle.redirect.specs.Next.{end_of_read, request_of}
use Rattle.monitor_state.specs.declared.setup.TheConstants.{LEAST_POOL}
use Rattle.monitor_state.specs.declared.state.State.{State}
use Rattle.monitor_state.specs.declared.state.State.TheVariants.{Guest, Monitor, Running, Raising, Moving}
use Rattle.monitor_state.specs.declared.state.Purpose.{Purpose}
use Rattle.monitor_state.specs.declared.state.Purpose.TheVariants as purpose
use Rattle.monitor_state.specs.declared.state.Plan.{Plan}
use Rattle.monitor_state.specs.declared.state.Plan.TheVariants as plan
use Rattle.monitor_state.specs.declared.parts.Parts.{Parts}
use Rattle.monitor_state.specs.State.{is_opened}
use Rattle.monitor_state.specs.Leases.{AreLeased, leases_in}
use Rattle.monitor_state.specs.Classes.{is_drives_in, is_refused}
use Rattle.monitor_state.specs.Hand.{HasInHand, IsEmptyHanded}
use Rattle.monitor_state.specs.Drive.{RestsIn}

-- bitmap, opening, client and pool are those of the area
pub record FitsArea (p : Parts) : Type 0 where
  pub suitable : IsSuitable p.area
  pub image : 0 < p.area.image
  pub bitmap : blocks_in p.bitmap ≡ blocks_of p.area
  pub nested : IsNested p.bitmap
  pub opening : p.opening.area ≡ p.area
  pub run : p.opening.id ≡ p.id
  pub client : p.client.block ≡ p.area.block
  pub room : p.pool.room ≡ SECTOR_BYTES * p.area.block
  pub buffers : LEAST_POOL ≤ buffers_in p.pool
  -- nothing is asked ahead of the guest yet
  pub background : p.client.background ≡ None

-- so many sectors come next of a redirected read
pub record ComesNext (first count done : ℕ) (redirect : Redirect) : Type 0 where
  pub from : first ≡ (request_of redirect).first + done
  pub within : first + count ≤ end_of_read (request_of redirect)

-- an own command reads the piece that the guest gets next, all of which is on the disk, into a buffer
pub record ReadsPiece (own : Own) (first count : ℕ) (v : View) (p : Parts) (done : ℕ) : Type 0 where
  pub job : job_of own ≡ job.Read first count
  pub opened : is_opened p ≡ true
  pub calm : v.file.pending ≡ false
  pub unheld : p.held ≡ None
  pub unasked : p.client.demand ≡ None
  pub unfailed : p.hand.failed ≡ false
  pub redirected : IsSomeAnd p.hand.redirect (ComesNext first count done)
  pub on_disk : (s : ℕ) → first ≤ s → s < first + count →
      is_empty_at p.area p.bitmap.filled s ≡ false
  pub some : 0 < count
  pub room : SECTOR_BYTES * count ≤ p.pool.room

-- it does so while the view is at work alone
abbrev pub ReadsIn : Phase → Own → ℕ → ℕ → View → Parts → Type 0
ReadsIn Reset own first count v p = ⊥
ReadsIn Idle own first count v p = ⊥
ReadsIn (Busy order done) own first count v p = ReadsPiece own first count v p done
ReadsIn (Ready order done left) own first count v p = ⊥

-- an own command is the one that its purpose wants; until opening has ended the view is in its reset
abbrev pub FitsPurpose : Purpose → Own → View → Parts → Type 0
FitsPurpose purpose.Opening own v p =
    (next_in_opening p.opening ≡ Some (job_of own)) × (is_in_reset v.file.phase ≡ true)
FitsPurpose (purpose.Piece first count lease) own v p = ReadsIn v.file.phase own first count v p

-- a step is planned of a view that is at work: with a piece held, behind the last sector that moved, or with nothing in
-- hand of a command that is refused
abbrev pub FitsPlan : Plan → Phase → Parts → Type 0
FitsPlan plan.Serve (Busy (Good request) done) p =
    (request.form ≡ PioIn) × (done < request.count)
    × (is_some p.held ≡ true) × (is_some p.hand.redirect ≡ true)
FitsPlan plan.End (Busy (Good request) done) p =
    (request.form ≡ DmaIn) × (done ≡ request.count) × (is_some p.hand.redirect ≡ true)
FitsPlan plan.Fail (Busy (Good request) done) p = p.hand.failed ≡ true
FitsPlan plan.Reserved (Busy order done) p =
    (p.hand.redirect ≡ None) × (is_refused order p ≡ true)
FitsPlan other phase p = ⊥

-- the monitor's side with no command of its own
pub record FitsMonitor (v : View) (p : Parts) : Type 0 where
  pub opened : is_opened p ≡ false → is_in_reset v.file.phase ≡ true

-- what each state asks of its view and of the parts, without the drive
abbrev pub FitsState : State → Parts → Type 0
FitsState (Guest side) p = IsEmptyHanded p × (is_opened p ≡ true)
FitsState (Monitor side) p = (has_own side ≡ false) × FitsView (view_held side) p.area.sectors
    × HasInHand (view_held side).file.phase (view_held side) p × FitsMonitor (view_held side) p
FitsState (Running side own why) p = (has_own side ≡ true)
    × FitsView (view_held side) p.area.sectors
    × HasInHand (view_held side).file.phase (view_held side) p
    × IsFit (job_of own) × (0 < polls_left own) × FitsPurpose why own (view_held side) p
FitsState (Raising side dummy planned) p = (has_own side ≡ true)
    × FitsView (view_held side) p.area.sectors
    × HasInHand (view_held side).file.phase (view_held side) p
    × ((view_held side).file.pending ≡ false) × (is_opened p ≡ true)
    × (sector_of dummy + 1 ≡ p.area.sectors) × (is_cancelled dummy ≡ false)
    × FitsPlan planned (view_held side).file.phase p
FitsState Moving p = ⊥

-- what holds of the monitor itself
pub record FitsParts (s : State) (p : Parts) : Type 0 where
  pub area : FitsArea p
  pub leased : AreLeased (leases_in s p) p
  pub state : FitsState s p

-- how the drive stands in each state; steps of the drive keep it
abbrev pub FitsDevice : State → Parts → Device → Type 0
FitsDevice (Guest side) p d = IsKept (view_kept side) d.file × IsGiven (view_kept side) d
    × (is_drives_in d.file.phase p ≡ true)
FitsDevice (Monitor side) p d = RestsIn d.file.phase (view_held side) d
    × (is_in_reset d.file.phase ≡ true → is_opened p ≡ false)
FitsDevice (Running side own why) p d = IsRunning (job_of own) (done_of own) d
FitsDevice (Raising side dummy planned) p d =
    IsInFlight (sector_of dummy) (is_cancelled dummy) d
    × (masks_line d.file ≡ masks_line (view_held side).file)
FitsDevice Moving p d = ⊥

-- what holds of the monitor and its drive
pub record Fits (s : State) (p : Parts) (d : Device) : Type 0 where
  pub parts : FitsParts s p
  pub device : FitsDevice s p d
  pub sectors : d.sectors ≡ p.area.sectors

-- between two events a dummy read in flight is at work on the drive, since its end is taken in the event that brings it
abbrev pub IsBetweenEvents : State → Device → Type 0
IsBetweenEvents (Guest side) d = Unit {0}
IsBetweenEvents (Monitor side) d = Unit {0}
IsBetweenEvents (Running side own why) d = Unit {0}
IsBetweenEvents (Raising side dummy planned) d = is_at_work d.file.phase ≡ true
IsBetweenEvents Moving d = Unit {0}
