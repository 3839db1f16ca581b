-- What an access leaves in the buffers: what they hold of a plain drive's sectors, and of the image.
use Rattle.std.proofs.Common.{◌≡◌, ℕ, ◌+◌, ◌*◌, Bool, true, false, if◌then◌else◌, List, take, Option, Some, None}
use Rattle.std.proofs.Common.{refl, sym, subst}
use Rattle.ata_taskfile.specs.declared.Access.{Access}
use Rattle.ata_taskfile.specs.declared.registers.TheConstants.{SECTOR_BYTES}
use Rattle.ata_taskfile.specs.declared.Taken.TheVariants.{Good, Bad}
use Rattle.ata_taskfile.specs.declared.Phase.{Phase}
use Rattle.ata_taskfile.specs.declared.Phase.TheVariants.{Reset, Idle, Busy, Ready}
use Rattle.ata_taskfile.specs.Device.{Device}
use Rattle.mon_pool.specs.Region.{Held, Region, all_given, leased_bytes}
use Rattle.port_lease.specs.declared.monitor_side.MonitorSide.{MonitorSide}
use Rattle.port_lease.specs.Sides.{view_held}
use Rattle.own_pio.specs.declared.own.Own.{Own}
use Rattle.own_pio.specs.Kept.{IsDoneSoFar}
use Rattle.own_pio.specs.Own.{done_of, job_of}
use Rattle.dummy_read.specs.declared.dummy.Dummy.{Dummy}
use Rattle.guest_view.specs.Drive.{LeavesWork, drive_after}
use Rattle.guest_view.proofs.DrivesWork.{work_left}
use Rattle.monitor_state.specs.declared.held.HeldPiece.{HeldPiece}
use Rattle.monitor_state.specs.declared.state.State.{State}
use Rattle.monitor_state.specs.declared.state.State.TheVariants.{Monitor, Running, Raising, Moving}
use Rattle.monitor_state.specs.declared.state.Plan.{Plan}
use Rattle.monitor_state.specs.declared.state.Purpose.{Purpose}
use Rattle.monitor_state.specs.declared.state.Purpose.TheVariants as purpose
use Rattle.monitor_state.specs.declared.parts.Parts.{Parts}
use Rattle.monitor_state.specs.Buffered.{HasBuffers, ReadsSoFar}
use Rattle.monitor_state.specs.Leases.{leases_held}
use Rattle.monitor_state.specs.Pieces.{ends_before, piece_let_go, tidied}
use Rattle.monitor_state.specs.Sectors.{IsPieceOf}
use Rattle.monitor_access.specs.Parts.{GoesOnHolding}
use Rattle.monitor_access.proofs.Opening.{still_done}

-- the bytes of each buffer stay while a piece is let go
bytes_given : (held : Option HeldPiece) (lease : Held) (pool : Region)
    → leased_bytes lease (all_given (leases_held held) pool) ≡ leased_bytes lease pool
bytes_given None lease pool = refl
bytes_given (Some held) lease pool = refl

bytes_where : (ends : Bool) (lease : Held) (p : Parts)
    → leased_bytes lease (if ends then piece_let_go p else p).pool ≡ leased_bytes lease p.pool
bytes_where true lease p = bytes_given p.held lease p.pool
bytes_where false lease p = refl

bytes_left : (phase : Phase) (lease : Held) (p : Parts)
    → leased_bytes lease (tidied phase p).pool ≡ leased_bytes lease p.pool
bytes_left Reset lease p = refl
bytes_left Idle lease p = bytes_given p.held lease p.pool
bytes_left (Busy (Good order) done) lease p = bytes_where (ends_before (order.first + done) p.held) lease p
bytes_left (Busy (Bad reason) done) lease p = refl
bytes_left (Ready order done left) lease p = refl

-- a step for each form of an optional value
each : (A : Type 0) (P Q : Option A → Type 0) → (P None → Q None) → ((a : A) → P (Some a) → Q (Some a))
    → (o : Option A) → P o → Q o
each A P Q none some None holds = none holds
each A P Q none some (Some a) holds = some a holds

-- the client's buffers hold the image's sectors, whatever is held beside them
abbrev Asked : List (List ℕ) → Parts → Device → Type 0
Asked image p d = HasBuffers image Moving (record p { held = None }) d d

-- they do whichever buffers of the pool are free
module _ (image : List (List ℕ)) (p : Parts) (free : List Bool) (d : Device) where
  abbrev q : Parts
  q = record p { pool = record p.pool { free = free } }

  asked_free : Asked image p d → Asked image q d
  asked_free =
      each _ (λ o. Asked image (record p { client = record p.client { demand = o } }) d)
      (λ o. Asked image (record q { client = record p.client { demand = o } }) d)
      (each _ (λ b. Asked image (record p { client = record p.client { demand = None; background = b } }) d)
      (λ b. Asked image (record q { client = record p.client { demand = None; background = b } }) d)
      (λ has. record { held = tt; asked = (tt, tt); read = tt; whole = has.whole })
      (λ f has. record { held = tt; asked = (tt, has.asked.1); read = tt; whole = has.whole }) p.client.background)
      (λ e.
      each _ (λ b. Asked image (record p { client = record p.client { demand = Some e; background = b } }) d)
      (λ b. Asked image (record q { client = record p.client { demand = Some e; background = b } }) d)
      (λ has. record { held = tt; asked = (has.asked.0, tt); read = tt; whole = has.whole })
      (λ f has. record { held = tt; asked = (has.asked.0, has.asked.1); read = tt; whole = has.whole })
      p.client.background)
      p.client.demand

asked_given : (image : List (List ℕ)) (held : Option HeldPiece) (p : Parts) (d : Device) → Asked image p d
    → Asked image (record p { pool = all_given (leases_held held) p.pool }) d
asked_given image None p d has = has
asked_given image (Some held) p d has = asked_free image p (all_given (leases_held (Some held)) p.pool).free d has

asked_where : (ends : Bool) (image : List (List ℕ)) (p : Parts) (d : Device) → Asked image p d
    → Asked image (if ends then piece_let_go p else p) d
asked_where true image p d has =
    record { held = tt; asked = (asked_given image p.held p d has).asked; read = tt; whole = has.whole }
asked_where false image p d has = has

asked_left : (phase : Phase) (image : List (List ℕ)) (p : Parts) (d : Device) → Asked image p d
    → Asked image (tidied phase p) d
asked_left Reset image p d has = has
asked_left Idle image p d has =
    record { held = tt; asked = (asked_given image p.held p d has).asked; read = tt; whole = has.whole }
asked_left (Busy (Good order) done) image p d has =
    asked_where (ends_before (order.first + done) p.held) image p d has
asked_left (Busy (Bad reason) done) image p d has = has
asked_left (Ready order done left) image p d has = has

-- and a piece that isn't let go is a drive's as before
piece_where : (ends : Bool) (p : Parts) (g : Device) → IsPieceOf g p.pool p.held
    → IsPieceOf g (if ends then piece_let_go p else p).pool (if ends then piece_let_go p else p).held
piece_where true p g piece = tt
piece_where false p g piece = piece

piece_left : (phase : Phase) (p : Parts) (g : Device) → IsPieceOf g p.pool p.held
    → IsPieceOf g (tidied phase p).pool (tidied phase p).held
piece_left Reset p g piece = piece
piece_left Idle p g piece = tt
piece_left (Busy (Good order) done) p g piece = piece_where (ends_before (order.first + done) p.held) p g piece
piece_left (Busy (Bad reason) done) p g piece = piece
piece_left (Ready order done left) p g piece = piece

-- what an own read has put into its buffer so far stays
read_left : (why : Purpose) (phase : Phase) (old new : MonitorSide) (own : Own) (p : Parts) (d e : Device)
    → LeavesWork d e → ReadsSoFar (Running old own why) p d → ReadsSoFar (Running new own why) (tidied phase p) e
read_left purpose.Opening phase old new own p d e left read = tt
read_left (purpose.Piece first count lease) phase old new own p d e left read = record {
  origin = read.origin;
  start = read.start;
  whole = read.whole;
  done = subst (λ bytes. IsDoneSoFar (job_of own) (done_of own) (take (SECTOR_BYTES * count) bytes) read.start
      read.origin e) (sym (bytes_left phase lease p))
      (still_done (job_of own) (done_of own) (take (SECTOR_BYTES * count) (leased_bytes lease p.pool)) read.start
      read.origin d e left read.done);
}

-- on the monitor's side the buffers go on to hold what they did, whatever else is let go
module _ (phase : Phase) (s t : State) (p r : Parts) (d e : Device) (parts : r ≡ tidied phase p)
    (read : ReadsSoFar s p d → ReadsSoFar t (tidied phase p) e) where
  left_holds : GoesOnHolding s p d t (tidied phase p) e
  left_holds image g has = record {
    held = piece_left phase p g has.held;
    asked =
        (asked_left phase image p d record { held = tt; asked = has.asked; read = tt; whole = has.whole }).asked;
    read = read has.read;
    whole = has.whole;
  }

  tidied_holds : GoesOnHolding s p d t r e
  tidied_holds = subst (λ (r : Parts). GoesOnHolding s p d t r e) (sym parts) left_holds

-- with no own command
pub resting_holds : (phase : Phase) (old new : MonitorSide) (p r : Parts) (d e : Device) → r ≡ tidied phase p
    → GoesOnHolding (Monitor old) p d (Monitor new) r e
resting_holds phase old new p r d e parts = tidied_holds phase (Monitor old) (Monitor new) p r d e parts (λ read. tt)

-- with a dummy read in flight
pub raising_holds : (phase : Phase) (old new : MonitorSide) (dummy : Dummy) (planned : Plan) (p r : Parts)
    (d e : Device) → r ≡ tidied phase p
    → GoesOnHolding (Raising old dummy planned) p d (Raising new dummy planned) r e
raising_holds phase old new dummy planned p r d e parts =
    tidied_holds phase (Raising old dummy planned) (Raising new dummy planned) p r d e parts (λ read. tt)

-- and with an own command, whose work on the drive an access leaves
pub running_holds : (a : Access) (phase : Phase) (old new : MonitorSide) (own : Own) (why : Purpose) (p r : Parts)
    (d e : Device) → r ≡ tidied phase p → e ≡ drive_after false (view_held old) a d
    → GoesOnHolding (Running old own why) p d (Running new own why) r e
running_holds a phase old new own why p r d e parts drive =
    tidied_holds phase (Running old own why) (Running new own why) p r d e parts
    (read_left why phase old new own p d e
    (subst (LeavesWork d) (sym drive) (work_left false (view_held old) a d)))
