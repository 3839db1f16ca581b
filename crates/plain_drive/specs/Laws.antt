-- Words for the laws of this crate.
use Rattle.std.specs.Prelude.{ℕ, ◌≡◌, ◌<◌, ◌+◌, true, length, List, []}
use Rattle.ata_taskfile.specs.declared.Request.{Request}
use Rattle.ata_taskfile.specs.declared.Taken.TheVariants.{Good}
use Rattle.ata_taskfile.specs.declared.Phase.TheVariants.{Busy, Ready}
use Rattle.ata_taskfile.specs.declared.registers.TheConstants.{SECTOR_BYTES, BLOCK_WORDS}
use Rattle.ata_taskfile.specs.Data.{gives_words, takes_words}
use Rattle.ata_taskfile.specs.Device.{Device}
use Rattle.plain_drive.specs.Plain.{sector_value}

-- a whole block waits in Data for the guest to read
pub record IsLoaded (d : Device) : Type 0 where
  pub order : Request
  pub done : ℕ
  pub phase : d.file.phase ≡ Ready (Good order) done BLOCK_WORDS
  pub moves : gives_words order.form ≡ true
  pub whole : length d.block ≡ BLOCK_WORDS

-- a whole block is wanted in Data from the guest
pub record IsAwaited (d : Device) : Type 0 where
  pub order : Request
  pub done : ℕ
  pub phase : d.file.phase ≡ Ready (Good order) done BLOCK_WORDS
  pub moves : takes_words order.form ≡ true
  pub empty : d.block ≡ []

-- the words are the block, and the drive is at work on it
pub record IsWritten (d : Device) (words : List ℕ) (order : Request) (done : ℕ) : Type 0 where
  pub block : d.block ≡ words
  pub phase : d.file.phase ≡ Busy (Good order) (done + 1)

-- each sector of the device has a whole current value
abbrev pub HasWholeSectors : Device → Type 0
HasWholeSectors d = (s : ℕ) → s < d.sectors → length (sector_value s d) ≡ SECTOR_BYTES
