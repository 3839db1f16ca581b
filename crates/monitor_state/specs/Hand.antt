-- What the monitor has in hand of the guest's command.
use Rattle.std.specs.Prelude.{ℕ, ◌≡◌, ◌<◌, ◌≤◌, ◌+◌, ◌*◌, ◌-◌, true, false, Option, Some, None, IfSome, IsSomeAnd}
use Rattle.ata_taskfile.specs.declared.Form.TheVariants.{PioIn, DmaIn}
use Rattle.ata_taskfile.specs.declared.Request.{Request}
use Rattle.ata_taskfile.specs.declared.Taken.{Taken}
use Rattle.ata_taskfile.specs.declared.Taken.TheVariants.{Good}
use Rattle.ata_taskfile.specs.declared.Phase.{Phase}
use Rattle.ata_taskfile.specs.declared.Phase.TheVariants.{Reset, Idle, Busy, Ready}
use Rattle.ata_taskfile.specs.declared.registers.TheConstants.{SECTOR_BYTES}
use Rattle.aoe_client.specs.Fetching.{Fetching}
use Rattle.io_interpret.specs.Blocks.{empty_block}
use Rattle.io_interpret.specs.Class.{reaches_reserved}
use Rattle.port_lease.specs.declared.view.View.{View}
use Rattle.redirect.specs.declared.redirect.Redirect.{Redirect}
use Rattle.redirect.specs.Next.{end_of_read, request_of}
use Rattle.redirect.specs.Read.{IsRead}
use Rattle.monitor_state.specs.declared.held.HeldPiece.{HeldPiece}
use Rattle.monitor_state.specs.declared.parts.Parts.{Parts}
use Rattle.monitor_state.specs.State.{end_of_piece}

-- nothing is in hand: no redirect, no piece, no block that was asked for it, and no failure
pub record IsEmptyHanded (p : Parts) : Type 0 where
  pub redirect : p.hand.redirect ≡ None
  pub failed : p.hand.failed ≡ false
  pub held : p.held ≡ None
  pub asked : p.client.demand ≡ None

-- a held piece has the sector that the guest gets next, ends with the read at the latest, and its bytes are in the
-- buffer
pub record HoldsSector (p : Parts) (request : Request) (sector : ℕ)
    (held : HeldPiece) : Type 0 where
  pub from : held.first ≤ sector
  pub ahead : sector < end_of_piece held
  pub within : end_of_piece held ≤ end_of_read request
  pub base : held.base ≤ held.first
  pub room : SECTOR_BYTES * (end_of_piece held - held.base) ≤ p.pool.room

-- the block that was asked is that of the sector which the guest gets next
pub record IsWanted (p : Parts) (request : Request) (sector : ℕ)
    (fetching : Fetching) : Type 0 where
  pub block : empty_block p.area p.bitmap.filled sector ≡ Some fetching.block
  pub within : sector < end_of_read request
  pub unheld : p.held ≡ None
  pub unfailed : p.hand.failed ≡ false

-- a redirected read is in hand at a position, before the guest gets its next block
pub record IsRedirected (v : View) (p : Parts) (request : Request) (done : ℕ) : Type 0 where
  pub read : IsRead request
  pub unreserved : reaches_reserved request p.area ≡ false
  pub position : done ≤ request.count
  -- behind the last sector stands one that the bus master moves, alone
  pub last : done ≡ request.count → request.form ≡ DmaIn
  pub calm : request.form ≡ DmaIn → v.file.pending ≡ false
  pub held : IfSome p.held (HoldsSector p request (request.first + done))
  pub asked : IfSome p.client.demand (IsWanted p request (request.first + done))
  pub failed : p.hand.failed ≡ true → (v.file.pending ≡ false) × (p.held ≡ None)

-- an order is in hand: nothing is done of it yet, and nothing in hand, until it is redirected
abbrev pub WorksOn : Option Redirect → View → Parts → Taken → ℕ → Type 0
WorksOn None v p order done = IsEmptyHanded p × (done ≡ 0)
WorksOn (Some redirect) v p order done =
    (order ≡ Good (request_of redirect)) × IsRedirected v p (request_of redirect) done

-- a block of a redirected read is offered: the piece that has it is held
pub record IsServing (p : Parts) (request : Request) (done : ℕ) : Type 0 where
  pub read : IsRead request
  pub unreserved : reaches_reserved request p.area ≡ false
  pub form : request.form ≡ PioIn
  pub below : done < request.count
  pub unfailed : p.hand.failed ≡ false
  pub unasked : p.client.demand ≡ None
  pub held : IsSomeAnd p.held (HoldsSector p request (request.first + done))

-- a block is offered of a redirected read alone
abbrev pub Serves : Option Redirect → Parts → Taken → ℕ → Type 0
Serves None p order done = ⊥
Serves (Some redirect) p order done =
    (order ≡ Good (request_of redirect)) × IsServing p (request_of redirect) done

-- what is in hand in each phase of the view; in a reset nothing pends
abbrev pub HasInHand : Phase → View → Parts → Type 0
HasInHand Reset v p = IsEmptyHanded p × (v.file.pending ≡ false)
HasInHand Idle v p = IsEmptyHanded p
HasInHand (Busy order done) v p = WorksOn p.hand.redirect v p order done
HasInHand (Ready order done left) v p = Serves p.hand.redirect p order done
