-- What stands on the drive while a settling goes on, and what a power cut may leave then.
use Rattle.std.specs.Prelude.{ℕ, ◌≡◌, Bool, true, false, List, [], unwrap_or}
use Rattle.ata_taskfile.specs.Device.{Cell}
use Rattle.fill_bitmap.specs.declared.area.Area.{Area}
use Rattle.fill_bitmap.specs.Area.{blocks_of, bitmap_sectors_of}
use Rattle.fill_bitmap.specs.Bits.{sector_of}
use Rattle.fill_bitmap.specs.Bitmap.{Sets, IsNested, blocks_in}
use Rattle.fill_bitmap.specs.BlockSet.{IsWithin}
use Rattle.fill_store.specs.declared.settle.SettleStep.{SettleStep}
use Rattle.fill_store.specs.declared.settle.SettleStep.TheVariants.{FlushData, WriteBits, FlushBits, Nothing}
use Rattle.fill_store.specs.Cells.{HasBits, MadeBy, KeepsBits}
use Rattle.fill_store.specs.Settle.{SettleState, next_in_settling, bytes_to_settle}

-- the bits of the frozen blocks were written to the first so many sectors of the bitmap
abbrev pub HasFrozen : ℕ → Area → Sets → List Cell → Type 0
HasFrozen n area sets cells = HasBits n (λ k. sector_of k sets.frozen) area cells

-- what holds at each step of the bitmap and of the drive, on which the data of the blocks `durable` is
-- durable: no bit is written before the data of the frozen blocks is (own)
abbrev pub HoldsAt : Area → List Bool → SettleStep → Sets → List Cell → Type 0
HoldsAt area durable FlushData sets cells = IsWithin durable sets.frozen
HoldsAt area durable (WriteBits k) sets cells =
    (durable ≡ sets.frozen) × HasFrozen k area sets cells
HoldsAt area durable FlushBits sets cells =
    (durable ≡ sets.frozen) × HasFrozen (bitmap_sectors_of area) area sets cells
HoldsAt area durable Nothing sets cells = IsWithin durable sets.frozen

-- a settling of the run `id`, with the bitmap and the drive's sectors as they are now: a cut leaves the
-- stored blocks stored, and no block whose data isn't durable (own)
pub record Settles (id : ℕ) (durable : List Bool) (s : SettleState) (sets : Sets)
    (cells : List Cell) : Type 0 where
  pub nested : IsNested sets
  pub blocks : blocks_in sets ≡ blocks_of s.area
  pub kept : KeepsBits s.area id sets.stored durable cells
  pub step : HoldsAt s.area durable s.step sets cells

-- the blocks whose data is durable behind a step that was done: behind the first flush the frozen ones (own)
abbrev pub durable_behind : SettleStep → Sets → List Bool → List Bool
durable_behind FlushData sets durable = sets.frozen
durable_behind (WriteBits k) sets durable = durable
durable_behind FlushBits sets durable = durable
durable_behind Nothing sets durable = durable

-- the blocks whose data is durable behind a settling's job that ended, well or not (own)
abbrev pub durable_after : Bool → SettleState → Sets → List Bool → List Bool
durable_after true s sets durable = durable_behind s.step sets durable
durable_after false s sets durable = durable

-- what a settling's job, which ended well or not, made of the drive's sectors (own)
abbrev pub MadeBySettling : Bool → SettleState → Sets → List Cell → List Cell → Type 0
MadeBySettling ok s sets old new =
    MadeBy ok (next_in_settling s) (unwrap_or (bytes_to_settle s sets) []) old new
