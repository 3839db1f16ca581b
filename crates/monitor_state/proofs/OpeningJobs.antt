-- An opening over what a command of it has made so far of the drive's sectors.
use Rattle.std.proofs.Common.{◌≡◌, ℕ, ◌<◌, ◌≤◌, Bool, true, false, Some, unwrap_or, List, ◌++◌, codes, replicate, take, zero, suc, inl, inr, refl, sym, ap, ◌∙◌, subst, arith}
use Rattle.std.specs.Prelude.{IfSome}
use Rattle.std.specs.Int.{byte_at, bytes_high_first, w32, w64, to_be_bytes}
use Rattle.std.proofs.lemmas.List.{length-replicate, length-take, take_all}
use Rattle.std.proofs.lemmas.List.Elements.{All-append, All-cons, All-nil, All-replicate}
use Rattle.ata_taskfile.specs.declared.Phase.{Phase}
use Rattle.ata_taskfile.specs.declared.Phase.TheVariants.{Reset, Idle, Busy, Ready}
use Rattle.ata_taskfile.specs.Device.{Cell, Device}
use Rattle.ata_taskfile.specs.Sectors.{AreBytes, IsSector}
use Rattle.own_pio.specs.declared.job.OwnJob.{OwnJob}
use Rattle.own_pio.specs.declared.job.OwnJob.TheVariants.{Read, Write, Flush}
use Rattle.plain_drive.proofs.EndsOfEnds.{ends-forget}
use Rattle.own_pio.specs.declared.own.Own.{Own}
use Rattle.own_pio.specs.Own.{job_of, polls_left}
use Rattle.own_pio.specs.Kept.{cells_in, flushed_in, stored_in, written_over}
use Rattle.own_pio.specs.Poll.{done_by}
use Rattle.fill_bitmap.specs.declared.area.Area.{Area}
use Rattle.fill_bitmap.specs.Area.{reserved_of, sector_of_bits}
use Rattle.fill_bitmap.specs.Disk.{header_of}
use Rattle.fill_store.specs.declared.opening.OpeningStep.{OpeningStep}
use Rattle.fill_store.specs.declared.opening.OpeningStep.TheVariants.{ReadHeader, ReadBits, WriteZeros, FlushZeros, WriteHeader, FlushHeader, Nothing}
use Rattle.fill_store.specs.Cells.{Made, MadeBy}
use Rattle.fill_store.specs.Opening.{bytes_at, bytes_to_open, job_at, next_in_opening}
use Rattle.fill_store.specs.OpeningCells.{Opens}
use Rattle.fill_store.specs.Sectors.{zero_bits}
use Rattle.fill_store.proofs.OneSector.{write_done}
use Rattle.fill_store.proofs.Opens.{opens_forgets, opens_in_hand}
use Rattle.monitor_state.specs.declared.state.Purpose.TheVariants as purpose
use Rattle.monitor_state.specs.declared.state.State.{State}
use Rattle.monitor_state.specs.declared.state.State.TheVariants.{Guest, Monitor, Running, Raising, Moving}
use Rattle.monitor_state.specs.declared.parts.Parts.{Parts}
use Rattle.monitor_state.specs.Fits.{FitsState}
use Rattle.monitor_state.specs.Overlaid.{OpeningDone, OpensOver, job_bytes}

-- the bytes that an opening writes, of zeros or of a header, are a sector
abbrev IsByte : ℕ → Type 0
IsByte number = number < 256

pub zeros_are_a_sector : IsSector zero_bits
unfolding zero_bits
zeros_are_a_sector = record { size = length-replicate {A = ℕ} 512 0; bytes = All-replicate IsByte 512 0 (omega arith) }

one_byte : (i n : ℕ) → byte_at i n < 256
one_byte zero n = omega arith
one_byte (suc i) n = omega arith

number_bytes : (k n : ℕ) → AreBytes (bytes_high_first k n)
number_bytes zero n = All-nil IsByte
number_bytes (suc k) n = All-cons IsByte (byte_at k n) (bytes_high_first k n) (one_byte k n) (number_bytes k n)

mark_bytes : AreBytes (codes "BMCFILL1")
mark_bytes = λ k d below. grind arith

pub header_is_a_sector : (area : Area) (id : ℕ) → IsSector (header_of area id)
unfolding header_of
header_is_a_sector area id =
    let zeros : List ℕ = replicate 484 0 in
    let block : List ℕ = to_be_bytes w32 area.block ++ zeros in
    let image : List ℕ = to_be_bytes w64 area.image ++ block in
    let run : List ℕ = to_be_bytes w64 id ++ image in
    let in_block : AreBytes block = All-append IsByte (to_be_bytes w32 area.block) zeros (number_bytes 4 area.block)
    (All-replicate IsByte 484 0 (omega arith)) in
    let in_image : AreBytes image = All-append IsByte (to_be_bytes w64 area.image) block (number_bytes 8 area.image)
    in_block in
    let in_run : AreBytes run = All-append IsByte (to_be_bytes w64 id) image (number_bytes 8 id) in_image in record {
      size = omega (arith, length-replicate {A = ℕ} 484 0);
      bytes = All-append IsByte (codes "BMCFILL1") run mark_bytes in_run;
    }

-- a write of one sector has made all of it so far or nothing
wrote_so_far : (first stored : ℕ) (bytes : List ℕ) (origin : List Cell) → stored ≤ 1 → IsSector (take 512 bytes)
    → Made false (Write first 1) (take 512 bytes) origin (written_over first stored bytes origin)
wrote_so_far first zero bytes origin few is = inl refl
wrote_so_far first (suc zero) bytes origin few is = inr (write_done first bytes origin is)
wrote_so_far first (suc (suc n)) bytes origin few is = absurd (omega arith)

stored_few : (phase : Phase) (failed : Bool) (done : ℕ) → done ≤ 1 → stored_in phase failed done ≤ 1
stored_few Reset failed done few = omega arith
stored_few Idle true done few = omega arith
stored_few Idle false done few = few
stored_few (Busy order position) failed done few = omega arith
stored_few (Ready order position left) failed done few = few

write_made : (phase : Phase) (failed : Bool) (first left : ℕ) (bytes sector : List ℕ) (origin : List Cell) → 0 < left
    → take 512 sector ≡ bytes → IsSector bytes
    → Made false (Write first 1) bytes origin
    (cells_in phase failed (Write first 1) (done_by (Write first 1) left) (job_bytes (Write first 1) sector) origin)
write_made phase failed first left bytes sector origin goes front is =
    let done = done_by (Write first 1) left in
    let whole : take 512 (take 512 sector) ≡ bytes
    = take_all 512 (take 512 sector) (omega (arith, length-take 512 sector)) ∙ front in
    subst (λ moved. Made false (Write first 1) moved origin
    (written_over first (stored_in phase failed done) (take 512 sector) origin)) whole
    (wrote_so_far first (stored_in phase failed done) (take 512 sector) origin
    (stored_few phase failed done (omega arith)) (subst IsSector (sym whole) is))

-- and a flush
flush_made : (phase : Phase) (failed : Bool) (bytes : List ℕ) (origin : List Cell)
    → Made false Flush bytes origin (flushed_in phase failed origin)
flush_made Reset failed bytes origin = inl refl
flush_made Idle true bytes origin = inl refl
flush_made Idle false bytes origin = inr refl
flush_made (Busy order position) failed bytes origin = inl refl
flush_made (Ready order position left) failed bytes origin = inl refl

-- what a job has made so far of the sectors at its begin, where it had so many polls left and moves bytes of the
-- monitor's sector
abbrev made_so_far : Phase → Bool → ℕ → List ℕ → List Cell → OwnJob → List Cell
made_so_far phase failed left sector origin job =
    cells_in phase failed job (done_by job left) (job_bytes job sector) origin

same_job : (job other : OwnJob) → Some job ≡ Some other → job ≡ other
same_job job other is = ap (λ j. unwrap_or j other) is

-- a step's job has made all of it so far or nothing
step_made : (phase : Phase) (failed : Bool) (left : ℕ) (sector : List ℕ) (origin : List Cell) (area : Area) (id : ℕ)
    (step : OpeningStep) (job : OwnJob) → 0 < left → IfSome (bytes_at area id step) (λ bytes. take 512 sector ≡ bytes)
    → job_at area step ≡ Some job
    → MadeBy false (job_at area step) (unwrap_or (bytes_at area id step) (take 512 sector)) origin
    (made_so_far phase failed left sector origin job)
step_made phase failed left sector origin area id ReadHeader job goes front is =
    subst (λ j. Made false (Read (reserved_of area) 1) (take 512 sector) origin
    (made_so_far phase failed left sector origin j)) (same_job (Read (reserved_of area) 1) job is) (inl refl)
step_made phase failed left sector origin area id (ReadBits k) job goes front is =
    subst (λ j. Made false (Read (sector_of_bits area k) 1) (take 512 sector) origin
    (made_so_far phase failed left sector origin j)) (same_job (Read (sector_of_bits area k) 1) job is) (inl refl)
step_made phase failed left sector origin area id (WriteZeros k) job goes front is =
    subst (λ j. Made false (Write (sector_of_bits area k) 1) zero_bits origin
    (made_so_far phase failed left sector origin j)) (same_job (Write (sector_of_bits area k) 1) job is)
    (write_made phase failed (sector_of_bits area k) left zero_bits sector origin goes front zeros_are_a_sector)
step_made phase failed left sector origin area id FlushZeros job goes front is =
    subst (λ j. Made false Flush (take 512 sector) origin
    (made_so_far phase failed left sector origin j)) (same_job Flush job is)
    (flush_made phase failed (take 512 sector) origin)
step_made phase failed left sector origin area id WriteHeader job goes front is =
    subst (λ j. Made false (Write (reserved_of area) 1) (header_of area id) origin
    (made_so_far phase failed left sector origin j)) (same_job (Write (reserved_of area) 1) job is)
    (write_made phase failed (reserved_of area) left (header_of area id) sector origin goes front
    (header_is_a_sector area id))
step_made phase failed left sector origin area id FlushHeader job goes front is =
    subst (λ j. Made false Flush (take 512 sector) origin
    (made_so_far phase failed left sector origin j)) (same_job Flush job is)
    (flush_made phase failed (take 512 sector) origin)
step_made phase failed left sector origin area id Nothing job goes front is = absurd cc

-- an opening stands while a command of it does, over what that has made so far
opens_so_far : (disk : List (List ℕ)) (own : Own) (p : Parts) (d : Device) → OpeningDone disk own p d
    → next_in_opening p.opening ≡ Some (job_of own) → 0 < polls_left own
    → IfSome (bytes_to_open p.opening) (λ bytes. take 512 p.sector ≡ bytes) → Opens disk p.opening p.bitmap d.cells
opens_so_far disk own p d so_far is goes front =
    let o = p.opening in
    let made = made_so_far d.file.phase d.file.failed (polls_left own) p.sector so_far.origin (job_of own) in
    opens_forgets disk o p.bitmap made d.cells (ends-forget made d.cells so_far.done.cells)
    (opens_in_hand disk o (take 512 p.sector) p.bitmap so_far.origin made so_far.stood
    (step_made d.file.phase d.file.failed (polls_left own) p.sector so_far.origin o.area o.id o.step (job_of own) goes
    front is))

-- so it does in every state
pub opens_in : (disk : List (List ℕ)) (s : State) (p : Parts) (d : Device) → FitsState s p
    → IfSome (bytes_to_open p.opening) (λ bytes. take 512 p.sector ≡ bytes) → OpensOver disk s p d
    → Opens disk p.opening p.bitmap d.cells
opens_in disk (Guest side) p d fits front opens = opens
opens_in disk (Monitor side) p d fits front opens = opens
opens_in disk (Running side own purpose.Opening) p d fits front opens =
    opens_so_far disk own p d opens fits.5.0 fits.4 front
opens_in disk (Running side own (purpose.Piece first count lease)) p d fits front opens = opens
opens_in disk (Raising side dummy planned) p d fits front opens = opens
opens_in disk Moving p d fits front opens = opens
