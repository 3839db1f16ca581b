-- What each answer tells of the read, and where nothing is done for it.
use Rattle.std.specs.Prelude.{ℕ, ◌≡◌, ◌<◌, ◌≤◌, ◌+◌, Bool, true, false, not, ◌&&◌, if◌then◌else◌, nat_lt, is_some, Option, List}
use Rattle.ata_taskfile.specs.declared.Form.{Form}
use Rattle.ata_taskfile.specs.declared.Form.TheVariants.{PioIn, DmaIn}
use Rattle.ata_taskfile.specs.declared.Request.{Request}
use Rattle.ata_taskfile.specs.declared.Taken.TheVariants.{Good}
use Rattle.ata_taskfile.specs.declared.Phase.{Phase}
use Rattle.ata_taskfile.specs.declared.Phase.TheVariants.{Reset, Idle, Busy, Ready}
use Rattle.ata_taskfile.specs.Data.{moves_by_bus}
use Rattle.ata_taskfile.specs.Lawful.{position_of}
use Rattle.fill_bitmap.specs.declared.area.Area.{Area}
use Rattle.fill_bitmap.specs.Area.{block_at, blocks_of}
use Rattle.fill_bitmap.specs.BlockSet.{has}
use Rattle.fill_bitmap.specs.Disk.{is_empty_at}
use Rattle.io_interpret.specs.Piece.{next_block}
use Rattle.own_pio.specs.declared.job.OwnJob.TheVariants as job
use Rattle.own_pio.specs.Job.{IsFit}
use Rattle.port_lease.specs.declared.view.View.{View}
use Rattle.redirect.specs.declared.next.Next.{Next}
use Rattle.redirect.specs.declared.next.Next.TheVariants.{Nothing, Ask, Read, Serve, Scatter, Raise, End}
use Rattle.redirect.specs.Read.{sector_in}
use Rattle.redirect.specs.Next.{end_of_read, has_sector}

-- a read waits at a sector: held by the bus master, for a walk; not held, for the block that was asked, or, on the
-- disk, for an interrupt to be acknowledged (own)
abbrev pub waits_at : ℕ → Request → View → Area → List Bool → Option (ℕ × ℕ) → Bool → Bool
waits_at s request view area filled held waiting =
    if has_sector held s then moves_by_bus request.form && not (is_some view.bus.walk) else
    if is_empty_at area filled s then waiting else
    view.file.pending

-- nothing can be done for a read in a phase: it isn't in hand, or its words wait for the guest, or it waits (own)
abbrev pub waits_in : Phase → Request → View → Area → List Bool → Option (ℕ × ℕ) → Bool → Bool
waits_in Reset request view area filled held waiting = true
waits_in Idle request view area filled held waiting = true
waits_in (Ready order done left) request view area filled held waiting = true
waits_in (Busy order done) request view area filled held waiting =
    nat_lt done request.count
    && waits_at (request.first + done) request view area filled held waiting

-- nothing can be done for a read
abbrev pub waits : Request → View → Area → List Bool → Option (ℕ × ℕ) → Bool → Bool
waits request view area filled held waiting =
    waits_in view.file.phase request view area filled held waiting

-- a read is in hand, and a sector of it is due
pub record IsDue (request : Request) (phase : Phase) : Type 0 where
  pub in_hand : phase ≡ Busy (Good request) (position_of phase)
  pub below : position_of phase < request.count

-- the block of the sector that is due may be asked: it is an empty one of the image's, and wasn't asked yet
pub record IsAsked (request : Request) (view : View) (area : Area) (filled : List Bool)
    (held : Option (ℕ × ℕ)) (waiting : Bool) (b : ℕ) : Type 0 where
  pub due : IsDue request view.file.phase
  pub unheld : has_sector held (sector_in view.file.phase) ≡ false
  pub block : b ≡ block_at area (sector_in view.file.phase)
  pub below : b < blocks_of area
  pub empty : has filled b ≡ false
  pub once : waiting ≡ false

-- sectors may be read by an own command: those from the one that is due on, within one block and within the read,
-- and each of them on the disk; and no interrupt pends that the command would end
pub record IsReadable (request : Request) (view : View) (area : Area) (filled : List Bool)
    (held : Option (ℕ × ℕ)) (first count : ℕ) : Type 0 where
  pub due : IsDue request view.file.phase
  pub unheld : has_sector held (sector_in view.file.phase) ≡ false
  pub from : first ≡ sector_in view.file.phase
  pub fit : IsFit (job.Read first count)
  pub one_block : first + count ≤ next_block area first
  pub within : first + count ≤ end_of_read request
  pub on_disk : (s : ℕ) → first ≤ s → s < first + count → is_empty_at area filled s ≡ false
  pub quiet : view.file.pending ≡ false

-- the sector that is due is held, and moves in this form
pub record IsServed (form : Form) (request : Request) (view : View)
    (held : Option (ℕ × ℕ)) : Type 0 where
  pub due : IsDue request view.file.phase
  pub form_is : request.form ≡ form
  pub here : has_sector held (sector_in view.file.phase) ≡ true

-- the bus master has moved all sectors of a read
pub record IsMoved (request : Request) (phase : Phase) : Type 0 where
  pub in_hand : phase ≡ Busy (Good request) (position_of phase)
  pub form_is : request.form ≡ DmaIn
  pub all : position_of phase ≡ request.count

-- what an answer tells of a read (own)
abbrev pub Tells : Next → Request → View → Area → List Bool → Option (ℕ × ℕ) → Bool → Type 0
Tells Nothing request view area filled held waiting =
    waits request view area filled held waiting ≡ true
Tells (Ask b) request view area filled held waiting =
    IsAsked request view area filled held waiting b
Tells (Read first count) request view area filled held waiting =
    IsReadable request view area filled held first count
Tells Serve request view area filled held waiting =
    IsServed PioIn request view held × (view.file.pending ≡ true)
Tells Scatter request view area filled held waiting =
    IsServed DmaIn request view held × (is_some view.bus.walk ≡ true)
Tells Raise request view area filled held waiting =
    IsServed PioIn request view held × (view.file.pending ≡ false)
Tells End request view area filled held waiting = IsMoved request view.file.phase
