-- When a drive is free for the monitor.
use Rattle.std.specs.Prelude.{Bool, not, ◌&&◌}
use Rattle.ata_taskfile.specs.declared.task_file.TaskFile.{TaskFile}
use Rattle.ata_taskfile.specs.declared.registers.TheConstants.{BSY, DRQ, DEV}
use Rattle.ata_taskfile.specs.TaskFile.{has_bit, status}

-- the drive shows neither BSY nor DRQ nor DEV (ATA/ATAPI-6, Status and Device registers)
abbrev pub shows_rest : TaskFile → Bool
shows_rest f =
    not (has_bit BSY (status f)) && not (has_bit DRQ (status f)) && not (has_bit DEV f.device)

-- a drive that the monitor may have: it shows neither BSY nor DRQ nor DEV, and no interrupt of it pends (own)
abbrev pub is_free : TaskFile → Bool
is_free f = shows_rest f && not f.pending
