-- The registers that name sectors for a command of 28 bits.
use Rattle.std.specs.Prelude.{ℕ, Bool, true, false, ◌+◌, ◌/◌, ◌%◌}
use Rattle.ata_taskfile.specs.declared.registers.TheConstants.{NIEN, LBA}
use Rattle.ata_taskfile.specs.declared.task_file.TaskFile.{TaskFile}
use Rattle.ata_taskfile.specs.TaskFile.{moved_in}

-- Device Control by nIEN alone (ATA/ATAPI-6, Device Control register)
abbrev pub nien_of : Bool → ℕ
nien_of true = NIEN
nien_of false = 0

-- so many sectors from the first on, with LBA at 1 (ATA/ATAPI-6, 28-bit addressing)
abbrev pub named : ℕ → ℕ → TaskFile → TaskFile
named first count f = record f {
  count = moved_in count f.count;
  low = moved_in (first % 256) f.low;
  mid = moved_in (first / 256 % 256) f.mid;
  high = moved_in (first / 65536 % 256) f.high;
  device = LBA + first / 16777216;
}
