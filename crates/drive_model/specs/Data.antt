-- Many words of Data at once: the phase that they leave, written once.
use Rattle.std.specs.Prelude.{ℕ, ◌+◌, ◌-◌, if◌then◌else◌, nat_lt}
use Rattle.ata_taskfile.specs.declared.Request.{Request}
use Rattle.ata_taskfile.specs.declared.Taken.TheVariants.{Good}
use Rattle.ata_taskfile.specs.declared.Phase.{Phase}
use Rattle.ata_taskfile.specs.declared.Phase.TheVariants.{Busy, Ready}
use Rattle.ata_taskfile.specs.Data.{block_read}

-- the phase after so many words were read of a block of which `left` were left (ATA/ATAPI-6, PIO
-- data-in)
abbrev pub words_given : Request → ℕ → ℕ → ℕ → Phase
words_given order done left count =
    if nat_lt count left then Ready (Good order) done (left - count) else block_read order done

-- the phase after so many words were written of a block of which `left` were wanted (ATA/ATAPI-6, PIO
-- data-out)
abbrev pub words_taken : Request → ℕ → ℕ → ℕ → Phase
words_taken order done left count =
    if nat_lt count left then Ready (Good order) done (left - count)
    else Busy (Good order) (done + 1)
