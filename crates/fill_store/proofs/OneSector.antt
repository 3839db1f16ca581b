-- An own command of one sector that is done.
use Rattle.std.proofs.Common.{◌≡◌, ℕ, ◌+◌, List, length, take, refl, sym, ap, ◌∙◌, subst, arith}
use Rattle.ata_taskfile.specs.Device.{Cell, Device}
use Rattle.ata_taskfile.specs.Sectors.{IsSector}
use Rattle.plain_drive.specs.Plain.{appended}
use Rattle.plain_drive.specs.Cells.{value_at}
use Rattle.plain_drive.specs.Words.{bytes_of}
use Rattle.own_pio.specs.declared.job.OwnJob.TheVariants.{Read, Write}
use Rattle.own_pio.specs.Moving.{words_at}
use Rattle.own_pio.specs.Kept.{IsJobDone, cells_done}
use Rattle.own_pio.proofs.SectorBySector.{read_each, block-back}
use Rattle.fill_store.specs.Cells.{IsSectorDone}

pub read_done : (s : ℕ) (bytes start : List ℕ) (origin : List Cell) (d : Device) → length start ≡ 512
    → IsSector (value_at s origin) → IsJobDone (Read s 1) bytes start origin d
    → IsSectorDone (Read s 1) (take 512 bytes) origin (cells_done (Read s 1) bytes origin)
read_done s bytes start origin d whole is done =
    let at : s + 0 ≡ s = omega arith in
    let each = read_each s 1 0 origin start (omega arith) (omega (arith, whole))
    (subst (λ (n : ℕ). IsSector (value_at n origin)) (sym at) is) in
    (ap (λ l. take 512 l) done.bytes_are ∙ each ∙ ap (λ n. value_at n origin) at, refl)

pub write_done : (s : ℕ) (bytes : List ℕ) (origin : List Cell) → IsSector (take 512 bytes)
    → IsSectorDone (Write s 1) (take 512 bytes) origin (cells_done (Write s 1) bytes origin)
write_done s bytes origin is =
    let at : s + 0 ≡ s = omega arith in
    ap (λ n. appended n (bytes_of (words_at 256 0 bytes)) origin) at
    ∙ ap (λ v. appended s v origin) (block-back 0 bytes is)
