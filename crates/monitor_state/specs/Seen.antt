-- What the guest sees, whoever has the drive, and when a plain drive is that.
use Rattle.std.specs.Prelude.{ℕ, ◌≡◌, ◌+◌, Bool, true, false, List, [], Option, Some, None}
use Rattle.ata_taskfile.specs.declared.Taken.TheVariants.{Good, Bad}
use Rattle.ata_taskfile.specs.declared.Phase.{Phase}
use Rattle.ata_taskfile.specs.declared.Phase.TheVariants.{Reset, Idle, Busy, Ready}
use Rattle.ata_taskfile.specs.declared.task_file.TaskFile.{TaskFile}
use Rattle.ata_taskfile.specs.declared.bus_master.Bus.{Bus}
use Rattle.ata_taskfile.specs.Device.{Device}
use Rattle.mon_pool.specs.Region.{Region, leased_bytes}
use Rattle.plain_drive.specs.Alike.{block_matters, without_command}
use Rattle.plain_drive.specs.Plain.{Plain, words_of}
use Rattle.port_lease.specs.Seen.{bus_beside, bus_on_guest_side}
use Rattle.port_lease.specs.Sides.{view_held, view_kept}
use Rattle.redirect.specs.Piece.{piece_bytes}
use Rattle.monitor_state.specs.declared.state.State.{State}
use Rattle.monitor_state.specs.declared.state.State.TheVariants.{Guest, Monitor, Running, Raising, Moving}
use Rattle.monitor_state.specs.declared.held.HeldPiece.{HeldPiece}
use Rattle.monitor_state.specs.declared.parts.Parts.{Parts}
use Rattle.monitor_state.specs.Classes.{is_refused}

-- the registers that the guest sees: the drive's while it has the drive, and else the view's
abbrev pub file_seen : State → Device → TaskFile
file_seen (Guest side) d = d.file
file_seen (Monitor side) d = (view_held side).file
file_seen (Running side own why) d = (view_held side).file
file_seen (Raising side dummy planned) d = (view_held side).file
file_seen Moving d = d.file

-- the bus master that the guest sees: of view and drive together
abbrev pub bus_seen : State → Device → Bus
bus_seen (Guest side) d = bus_on_guest_side (view_kept side) d.bus
bus_seen (Monitor side) d = bus_beside (view_held side).bus d.bus
bus_seen (Running side own why) d = bus_beside (view_held side).bus d.bus
bus_seen (Raising side dummy planned) d = bus_beside (view_held side).bus d.bus
bus_seen Moving d = d.bus

-- the words of the held piece where a block of it is offered
abbrev pub block_offered : Phase → Option HeldPiece → Region → List ℕ
block_offered Reset held pool = []
block_offered Idle held pool = []
block_offered (Busy order done) held pool = []
block_offered (Ready order done left) None pool = []
block_offered (Ready (Bad reason) done left) (Some held) pool = []
block_offered (Ready (Good order) done left) (Some held) pool =
    words_of (piece_bytes (leased_bytes held.lease pool) held.base (order.first + done))

-- the block in transfer that the guest sees: the drive's while it has the drive, and else the held piece's
abbrev pub block_seen : State → Parts → Device → List ℕ
block_seen (Guest side) p d = d.block
block_seen (Monitor side) p d = block_offered (view_held side).file.phase p.held p.pool
block_seen (Running side own why) p d = block_offered (view_held side).file.phase p.held p.pool
block_seen (Raising side dummy planned) p d =
    block_offered (view_held side).file.phase p.held p.pool
block_seen Moving p d = d.block

-- the order at which a phase stands is one that the monitor refuses
abbrev pub is_refused_in : Phase → Parts → Bool
is_refused_in Reset p = false
is_refused_in Idle p = false
is_refused_in (Busy order done) p = is_refused order p
is_refused_in (Ready order done left) p = false

-- an order that the monitor has in hand is one that it refuses
abbrev pub refuses : State → Parts → Bool
refuses (Guest side) p = false
refuses (Monitor side) p = is_refused_in (view_held side).file.phase p
refuses (Running side own why) p = is_refused_in (view_held side).file.phase p
refuses (Raising side dummy planned) p = is_refused_in (view_held side).file.phase p
refuses Moving p = false

-- a plain drive is the one that the guest sees, its sectors apart, and the monitor refuses none that it has in hand of
-- its commands (own)
pub record Shows (s : State) (p : Parts) (d : Device) (memory : List ℕ) (q : Plain) : Type 0 where
  -- its registers are, but for the byte of the last command, which none shows
  pub file : without_command q.device.file ≡ without_command (file_seen s d)
  pub bus : q.device.bus ≡ bus_seen s d
  -- and so is the block in transfer, where its words matter
  pub block : block_matters (file_seen s d).phase ≡ true → q.device.block ≡ block_seen s p d
  pub sectors : q.device.sectors ≡ p.area.sectors
  pub memory_is : q.memory ≡ memory
  pub served : refuses s p ≡ false
