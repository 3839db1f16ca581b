-- Drives that a guest can't tell apart.
use Rattle.std.specs.Prelude.{ℕ, ◌≡◌, Bool, true, false, not, ◌&&◌, ◌+◌, ◌==◌, nat_lt}
use Rattle.ata_taskfile.specs.declared.Kind.{Kind}
use Rattle.ata_taskfile.specs.declared.Kind.TheVariants as kind
use Rattle.ata_taskfile.specs.declared.Form.{Form}
use Rattle.ata_taskfile.specs.declared.Form.TheVariants.{NoMove, PioIn, PioOut, DmaIn, DmaOut}
use Rattle.ata_taskfile.specs.declared.Request.{Request}
use Rattle.ata_taskfile.specs.declared.Taken.{Taken}
use Rattle.ata_taskfile.specs.declared.Taken.TheVariants.{Good, Bad}
use Rattle.ata_taskfile.specs.declared.Phase.{Phase}
use Rattle.ata_taskfile.specs.declared.Phase.TheVariants.{Reset, Idle, Busy, Ready}
use Rattle.ata_taskfile.specs.declared.Wrote.{Wrote}
use Rattle.ata_taskfile.specs.declared.Wrote.TheVariants.{Stored, Ignored, Command, ResetBegun}
use Rattle.ata_taskfile.specs.declared.Access.{Access}
use Rattle.ata_taskfile.specs.declared.Access.TheVariants as access
use Rattle.ata_taskfile.specs.declared.task_file.TaskFile.{TaskFile}
use Rattle.ata_taskfile.specs.TaskFile.{wrote}
use Rattle.ata_taskfile.specs.Data.{takes_words}
use Rattle.ata_taskfile.specs.Device.{Device}
use Rattle.ata_taskfile.specs.Access.{accessed}
use Rattle.plain_drive.specs.Plain.{Plain, sector_value}

-- registers but for the byte of the last command, which no register shows and no rule looks at (own)
abbrev pub without_command : TaskFile → TaskFile
without_command f = record f { command = 0 }

-- a drive but for the byte of the last command
abbrev pub beside_command : Plain → Plain
beside_command p = record p { device = record p.device { file = without_command p.device.file } }

-- the words of the block matter: a block is in transfer, or came whole and isn't written yet (own)
abbrev pub block_matters : Phase → Bool
block_matters Reset = false
block_matters Idle = false
block_matters (Busy (Good order) done) = takes_words order.form && not (done == 0)
block_matters (Busy (Bad reason) done) = false
block_matters (Ready taken done left) = true

-- a way in which data comes out of the drive (ATA/ATAPI-6, PIO data-in and DMA)
abbrev pub gives_data : Form → Bool
gives_data NoMove = false
gives_data PioIn = true
gives_data PioOut = false
gives_data DmaIn = true
gives_data DmaOut = false

-- a command whose data is no sector's (ATA/ATAPI-6, IDENTIFY DEVICE)
abbrev pub gives_identity : Kind → Bool
gives_identity kind.Identify = true
gives_identity kind.Read = false
gives_identity kind.Write = false
gives_identity kind.Verify = false
gives_identity kind.Flush = false
gives_identity kind.Features = false

-- a sector in the range of an order
abbrev pub has_sector : Request → ℕ → Bool
has_sector order s = not (nat_lt s order.first) && nat_lt s (order.first + order.count)

-- a sector whose data an order gives
abbrev pub reads : Taken → ℕ → Bool
reads (Good order) s =
    gives_data order.form && not (gives_identity order.kind) && has_sector order s
reads (Bad reason) s = false

-- a sector whose data the order in hand gives
abbrev pub reads_sector : Phase → ℕ → Bool
reads_sector Reset s = false
reads_sector Idle s = false
reads_sector (Busy taken done) s = reads taken s
reads_sector (Ready taken done left) s = reads taken s

-- each sector that the order in hand of a phase reads has the same value in two drives
abbrev pub ReadAlike : Phase → Device → Device → Type 0
ReadAlike phase d e = (s : ℕ) → reads_sector phase s ≡ true → sector_value s e ≡ sector_value s d

-- a guest can't tell two drives apart: they are the same but for the byte of the last command, for a block that
-- doesn't matter, and for the sectors that the order in hand doesn't read (own)
pub record IsAlike (d e : Plain) : Type 0 where
  pub file : without_command e.device.file ≡ without_command d.device.file
  pub bus : e.device.bus ≡ d.device.bus
  pub block : block_matters d.device.file.phase ≡ true → e.device.block ≡ d.device.block
  pub sectors : e.device.sectors ≡ d.device.sectors
  pub memory : e.memory ≡ d.memory
  pub values : ReadAlike d.device.file.phase d.device e.device

-- the drive after an access
abbrev pub after_access : Access → Plain → Plain
after_access a p = record p { device = accessed a p.device }

-- a write by which the drive took a command
abbrev pub took_command : Wrote → Bool
took_command Stored = false
took_command Ignored = false
took_command (Command byte) = true
took_command ResetBegun = false

-- an access by which the drive takes a command
abbrev pub gives_command : Access → TaskFile → Bool
gives_command (access.Read8 r) f = false
gives_command (access.Write8 r v) f = took_command (wrote r v f)
gives_command access.ReadWord f = false
gives_command (access.WriteWord w) f = false
gives_command access.ReadPointer f = false
gives_command (access.WritePointer v) f = false
gives_command access.Line f = false
