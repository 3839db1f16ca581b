-- The order over registers that name sectors.
use Rattle.std.proofs.Common.{◌≡◌, ℕ, true, false, not, ◌==◌, ◌+◌, ◌*◌, ◌/◌, ◌%◌, ◌^◌, ◌<◌, bit_and, refl, ap, ◌∙◌, lit<, arith}
use Rattle.std.proofs.lemmas.Nat.{and_block, and_mask}
use Rattle.ata_taskfile.specs.declared.registers.TheConstants.{LBA, DEV}
use Rattle.ata_taskfile.specs.declared.task_file.TaskFile.{TaskFile}
use Rattle.ata_taskfile.specs.TaskFile.{has_bit}
use Rattle.ata_taskfile.specs.Order.{inputs, taken, first_28, count_8}
use Rattle.ata_taskfile.specs.Order as order
use Rattle.own_pio.specs.declared.job.OwnJob.TheVariants.{Read, Write}
use Rattle.own_pio.specs.Job.{IsNamed, job_order}
use Rattle.own_pio.specs.Named.{named}

-- no bit of a number is shared with 0
and_none : (n : ℕ) → bit_and n 0 ≡ 0
and_none n = and_mask n 0 ∙ omega arith

-- LBA is 1 and DEV 0, whatever the low four bits are
lba : (b : ℕ) → b < 16 → bit_and (64 + b) 64 ≡ 64
lba b few = and_block 4 4 4 b 0 few (lit< tt) ∙ rw (and_none b) refl

dev : (b : ℕ) → b < 16 → bit_and (64 + b) 16 ≡ 0
dev b few = and_block 4 4 1 b 0 few (lit< tt) ∙ rw (and_none b) refl

pub lba_set : (first count : ℕ) → IsNamed first count → has_bit LBA (64 + first / 16777216) ≡ true
lba_set first count fit = let few : first / 16777216 < 16 = omega (arith, fit.below, fit.some) in
    ap (λ n. not (n == 0)) (lba (first / 16777216) few)

pub dev_clear : (first count : ℕ) → IsNamed first count → has_bit DEV (64 + first / 16777216) ≡ false
dev_clear first count fit = let few : first / 16777216 < 16 = omega (arith, fit.below, fit.some) in
    ap (λ n. not (n == 0)) (dev (first / 16777216) few)

-- the address registers name the first sector
address : (first : ℕ) → first < 2 ^ 28
    → first % 256 + 256 * (first / 256 % 256) + 65536 * (first / 65536 % 256) + 16777216 * ((64 + first / 16777216)
    % 16) ≡ first
address first below = omega arith

pub read_named : (first count : ℕ) (f : TaskFile) (sectors : ℕ) → IsNamed first count
    → taken (order.order_of 32 (inputs (named first count f)) sectors) ≡ job_order (Read first count) sectors
read_named first count f sectors fit =
    let first_is = address first (omega (arith, fit.below, fit.some)) in
    let lba = lba_set first count fit in
    let some = fit.some in
    grind (arith, first_is, lba, some)

pub write_named : (first count : ℕ) (f : TaskFile) (sectors : ℕ) → IsNamed first count
    → taken (order.order_of 48 (inputs (named first count f)) sectors) ≡ job_order (Write first count) sectors
write_named first count f sectors fit =
    let first_is = address first (omega (arith, fit.below, fit.some)) in
    let lba = lba_set first count fit in
    let some = fit.some in
    grind (arith, first_is, lba, some)
