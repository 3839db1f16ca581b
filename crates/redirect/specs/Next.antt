-- What is next for a redirected read: the rules of docs/monitor.md, a row a line.
use Rattle.std.specs.Prelude.{ℕ, ◌≡◌, ◌<◌, ◌+◌, ◌-◌, Bool, false, if◌then◌else◌, ◌&&◌, nat_lt, nat_le, is_some, Option, Some, None, List}
use Rattle.ata_taskfile.specs.declared.Form.{Form}
use Rattle.ata_taskfile.specs.declared.Form.TheVariants.{NoMove, PioIn, PioOut, DmaIn, DmaOut}
use Rattle.ata_taskfile.specs.declared.Request.{Request}
use Rattle.ata_taskfile.specs.declared.Taken.{Taken}
use Rattle.ata_taskfile.specs.declared.Taken.TheVariants.{Good}
use Rattle.ata_taskfile.specs.declared.Phase.{Phase}
use Rattle.ata_taskfile.specs.declared.Phase.TheVariants.{Reset, Idle, Busy, Ready}
use Rattle.ata_taskfile.specs.Lawful.{work_end}
use Rattle.fill_bitmap.specs.declared.area.Area.{Area}
use Rattle.io_interpret.specs.Blocks.{empty_block}
use Rattle.io_interpret.specs.Piece.{piece_end}
use Rattle.port_lease.specs.declared.view.View.{View}
use Rattle.redirect.specs.declared.next.Next.{Next}
use Rattle.redirect.specs.declared.next.Next.TheVariants.{Nothing, Ask, Read, Serve, Scatter, Raise, End}
use Rattle.redirect.specs.declared.redirect.Redirect.{Redirect}

-- the read that is redirected
abbrev pub request_of : Redirect → Request
request_of redirect = redirect.request

-- the sector after the last one of a read
abbrev pub end_of_read : Request → ℕ
end_of_read request = request.first + request.count

-- an order in hand is this read, at one of its sectors, or behind the last one where the bus master moves them
pub record IsAt (request : Request) (order : Taken) (done : ℕ) : Type 0 where
  pub order_is : order ≡ Good request
  pub position : done < work_end request.form request.count

-- where the drive that the guest sees is at work, it is so on this read
abbrev pub IsInHand : Request → Phase → Type 0
IsInHand request Reset = Unit {0}
IsInHand request Idle = Unit {0}
IsInHand request (Busy order done) = IsAt request order done
IsInHand request (Ready order done left) = Unit {0}

-- a piece that is held, by its first sector and its count, has a sector
abbrev pub has_sector : Option (ℕ × ℕ) → ℕ → Bool
has_sector None s = false
has_sector (Some piece) s = nat_le piece.0 s && nat_lt s (piece.0 + piece.1)

-- what serves the held piece: a block that is offered, with the interrupt that pends already or with one of a dummy
-- read; or a walk, where one is running (own)
abbrev pub served : Form → View → Next
served PioIn view = if view.file.pending then Serve else Raise
served DmaIn view = if is_some view.bus.walk then Scatter else Nothing
served NoMove view = Nothing
served PioOut view = Nothing
served DmaOut view = Nothing

-- what brings a piece that isn't held: its block where that is empty, once; else an own read, while nothing pends (own)
abbrev pub fetched : Option ℕ → ℕ → ℕ → View → Bool → Next
fetched (Some b) first count view waiting = if waiting then Nothing else Ask b
fetched None first count view waiting =
    if view.file.pending then Nothing else Read first count

-- what brings the first piece of the sectors of a read from this one on
abbrev pub next_piece : ℕ → Request → View → Area → List Bool → Bool → Next
next_piece s request view area filled waiting =
    fetched (empty_block area filled s) s (piece_end area s (end_of_read request) - s) view waiting

-- what is next at a position of a read, the first line that holds (own)
abbrev pub next_at : ℕ → Request → View → Area → List Bool → Option (ℕ × ℕ) → Bool → Next
next_at done request view area filled held waiting =
    if nat_le request.count done then End else
    if has_sector held (request.first + done) then served request.form view else
    next_piece (request.first + done) request view area filled waiting

-- what is next in a phase of the drive that the guest sees: nothing outside of Busy (own)
abbrev pub next_in : Phase → Request → View → Area → List Bool → Option (ℕ × ℕ) → Bool → Next
next_in Reset request view area filled held waiting = Nothing
next_in Idle request view area filled held waiting = Nothing
next_in (Busy order done) request view area filled held waiting =
    next_at done request view area filled held waiting
next_in (Ready order done left) request view area filled held waiting = Nothing

-- what is next for a redirected read, by what the guest sees, by the blocks that are filled, by the piece that is held,
-- and by whether the block that comes next was asked (own)
abbrev pub next_of : Request → View → Area → List Bool → Option (ℕ × ℕ) → Bool → Next
next_of request view area filled held waiting =
    next_in view.file.phase request view area filled held waiting
