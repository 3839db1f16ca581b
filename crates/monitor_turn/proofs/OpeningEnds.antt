-- What the end of an opening's command makes of the sectors that the guest gets.
use Rattle.std.proofs.Common.{◌≡◌, ℕ, ◌+◌, ◌*◌, ◌<◌, ◌++◌, ◌⊎◌, Bool, true, false, not, List, length, take, drop, Option, Some, None, inl, inr, refl, sym, ap, ◌∙◌, subst, arith}
use Rattle.std.specs.Prelude.{IfSome, is_some, unwrap_or}
use Rattle.std.proofs.lemmas.Bool.{true≢false}
use Rattle.std.proofs.lemmas.List.{take_all, take_at}
use Rattle.ata_taskfile.specs.Device.{Cell, Device}
use Rattle.ata_taskfile.specs.Sectors.{HoldsSectors, IsSector}
use Rattle.plain_drive.specs.Cells.{value_at}
use Rattle.plain_drive.specs.Plain.{appended, stored}
use Rattle.plain_drive.proofs.EndsOfEnds.{ends-forget}
use Rattle.plain_drive.proofs.SectorValues.{current_held}
use Rattle.own_pio.specs.declared.job.OwnJob.{OwnJob}
use Rattle.own_pio.specs.declared.job.OwnJob.TheVariants.{Read, Write, Flush}
use Rattle.own_pio.specs.declared.own.Own.{Own}
use Rattle.own_pio.specs.Job.{count_of}
use Rattle.own_pio.specs.Own.{done_of, job_of, polls_left}
use Rattle.own_pio.specs.declared.Poll.{Poll}
use Rattle.own_pio.specs.declared.Poll.TheVariants.{Waiting, Moved, Done, Failed}
use Rattle.own_pio.specs.Kept.{IsDoneSoFar, IsJobDone, Leaves, cells_done}
use Rattle.own_pio.specs.Poll.{bytes_after, done_by, left_after}
use Rattle.fill_bitmap.specs.declared.area.Area.{Area}
use Rattle.fill_bitmap.specs.Area.{reserved_of}
use Rattle.fill_bitmap.specs.Bitmap.{Sets}
use Rattle.fill_bitmap.specs.BlockSet.{IsWithin}
use Rattle.fill_bitmap.specs.Disk.{guest_view, header_of, stored_blocks}
use Rattle.fill_store.specs.declared.opening.OpeningStep.{OpeningStep}
use Rattle.fill_store.specs.declared.opening.OpeningStep.TheVariants.{ReadHeader, ReadBits, WriteZeros, FlushZeros, WriteHeader, FlushHeader, Nothing}
use Rattle.fill_store.specs.Cells.{IsSectorDone, KeepsBits, MadeBy}
use Rattle.fill_store.specs.Opening.{bytes_at, bytes_to_open, job_at, next_in_opening}
use Rattle.fill_store.specs.OpeningCells.{CellsAt, LeavesOldOrNew, MadeByOpening, Opens, alike, blocks_at}
use Rattle.fill_store.specs.Sectors.{IsOnKept, buffer_with, zero_bits}
use Rattle.fill_store.proofs.OneSector.{read_done, write_done}
use Rattle.fill_store.proofs.Opens.{opens_forgets}
use Rattle.overlay.specs.Overlay.{HasValues, Survives}
use Rattle.overlay.proofs.Starts.{survives_begins, values_begin}
use Rattle.port_lease.specs.declared.monitor_side.MonitorSide.{MonitorSide}
use Rattle.monitor_state.specs.declared.state.State.{State}
use Rattle.monitor_state.specs.declared.state.State.TheVariants.{Monitor, Running}
use Rattle.monitor_state.specs.declared.state.Purpose.TheVariants as purpose
use Rattle.monitor_state.specs.declared.parts.Parts.{Parts}
use Rattle.monitor_state.specs.State.{is_opened}
use Rattle.monitor_state.specs.Overlaid.{HasSectors, IsBeingOpened, IsOverlaid, Known, OpeningDone, OpeningGoesOn, job_bytes}
use Rattle.monitor_state.specs.Fits.{Fits, FitsArea}
use Rattle.monitor_state.proofs.OpeningJobs.{header_is_a_sector, opens_in, zeros_are_a_sector}

-- whose value each sector has, by its sets, what is durable, and its sectors
record StandsOver (area : Area) (id : ℕ) (image : List (List ℕ)) (durable : List Bool) (sets : Sets)
    (cells plain : List Cell) : Type 0 where
  values : HasValues area sets.filled image cells plain
  survives : Survives area sets.stored durable image cells plain
  kept : KeepsBits area id sets.stored durable cells
  within : IsWithin durable sets.filled
  settled : IsWithin sets.filled sets.stored

-- an opening that has ended leaves the stored blocks filled, stored and durable
ended_over : (area : Area) (id : ℕ) (step : OpeningStep) (image disk : List (List ℕ)) (sets : Sets)
    (cells : List Cell) → job_at area step ≡ None → sets ≡ alike (blocks_at area id disk step)
    → LeavesOldOrNew area id disk cells → CellsAt area id disk step cells
    → StandsOver area id image (stored_blocks area id disk) sets cells (stored (guest_view area id image disk))
ended_over area id ReadHeader image disk sets cells none is leaves holds = absurd cc
ended_over area id (ReadBits k) image disk sets cells none is leaves holds = absurd cc
ended_over area id (WriteZeros k) image disk sets cells none is leaves holds = absurd cc
ended_over area id FlushZeros image disk sets cells none is leaves holds = absurd cc
ended_over area id WriteHeader image disk sets cells none is leaves holds = absurd cc
ended_over area id FlushHeader image disk sets cells none is leaves holds = absurd cc
ended_over area id Nothing image disk sets cells none is leaves holds =
    subst (λ (s : Sets). StandsOver area id image (stored_blocks area id disk) s cells
    (stored (guest_view area id image disk))) (sym is) record {
      values = values_begin area id image disk cells leaves.others;
      survives = survives_begins area id image disk cells leaves.others;
      kept = holds;
      within = λ b stands. stands;
      settled = λ b stands. stands;
    }

none_next : (next : Option OwnJob) → not (is_some next) ≡ true → next ≡ None
none_next None ended = refl
none_next (Some job) ended = absurd (true≢false (sym ended))

-- so behind its last command each sector has its value
pub opened_over : (k : Known) (p : Parts) (cells plain : List Cell) → is_opened p ≡ true → p.opening.area ≡ p.area
    → p.opening.id ≡ p.id → Opens k.disk p.opening p.bitmap cells
    → plain ≡ stored (guest_view p.area p.id k.image k.disk) → k.durable ≡ stored_blocks p.area p.id k.disk
    → IsOverlaid k p cells plain
opened_over k p cells plain opened area id opens view durable =
    let o = p.opening in
    let over = ended_over o.area o.id o.step k.image k.disk p.bitmap cells (none_next (next_in_opening o) opened)
    opens.bitmap opens.sectors opens.step in
    let there : StandsOver p.area p.id k.image k.durable p.bitmap cells plain =
    subst (λ xs. StandsOver p.area p.id k.image k.durable p.bitmap cells xs) (sym view)
    (subst (λ set. StandsOver p.area p.id k.image set p.bitmap cells (stored (guest_view p.area p.id k.image k.disk)))
    (sym durable)
    (subst (λ (i : ℕ). StandsOver p.area i k.image (stored_blocks p.area i k.disk) p.bitmap cells
    (stored (guest_view p.area i k.image k.disk))) id
    (subst (λ (a : Area). StandsOver a o.id k.image (stored_blocks a o.id k.disk) p.bitmap cells
    (stored (guest_view a o.id k.image k.disk))) area over))) in record {
      values = there.values;
      survives = there.survives;
      kept = there.kept;
      durable = there.within;
      settled = there.settled;
    }

-- a job on the sectors that the monitor keeps reads one of the drive's
kept_inside : (area : Area) (id : ℕ) (disk : List (List ℕ)) (s count : ℕ) (cells : List Cell)
    → IsOnKept area (Read s count) → LeavesOldOrNew area id disk cells → s < length cells
kept_inside area id disk s count cells kept leaves =
    let last = kept.0.last in
    let reserved = leaves.reserved in omega (arith, last, reserved)

-- a sector's bytes are all of it
all_taken : (sector : List ℕ) → IsSector sector → take 512 sector ≡ sector
all_taken sector whole = take_all 512 sector (omega (arith, whole.size))

-- a read of one sector put its value into the monitor's
read_at : (s : ℕ) (sector start : List ℕ) (origin : List Cell) (e : Device) → IsSector sector → length start ≡ 512
    → IsSector (value_at s origin) → IsJobDone (Read s 1) (job_bytes (Read s 1) sector) start origin e
    → IsSectorDone (Read s 1) (take 512 sector) origin origin
read_at s sector start origin e whole long is done =
    read_done s sector start origin e long is
    (subst (λ bytes. IsJobDone (Read s 1) bytes start origin e) (all_taken sector whole) done)

-- a write of one sector wrote the bytes that were to be written
write_at : (s : ℕ) (sector bytes : List ℕ) (origin : List Cell) → IsSector sector → take 512 sector ≡ bytes
    → IsSectorDone (Write s 1) bytes origin (cells_done (Write s 1) (job_bytes (Write s 1) sector) origin)
write_at s sector bytes origin whole is =
    let all = all_taken sector whole in
    ap (λ xs. cells_done (Write s 1) xs origin) all
    ∙ write_done s sector origin (subst IsSector (sym all) whole)
    ∙ ap (λ xs. appended s xs origin) is

-- so a command of an opening that is done made what its step wants
done_at : (area : Area) (id : ℕ) (step : OpeningStep) (job : OwnJob) (sector start : List ℕ) (origin : List Cell)
    (e : Device) → job_at area step ≡ Some job → IfSome (bytes_at area id step) (λ bytes. take 512 sector ≡ bytes)
    → IsSector sector → length start ≡ 512 * count_of job
    → ((s count : ℕ) → job_at area step ≡ Some (Read s count) → IsSector (value_at s origin))
    → IsJobDone job (job_bytes job sector) start origin e
    → MadeBy true (job_at area step) (unwrap_or (bytes_at area id step) (take 512 sector)) origin
    (cells_done job (job_bytes job sector) origin)
done_at area id ReadHeader job sector start origin e is buffer whole long held done =
    let s = reserved_of area in
    let same : job ≡ Read s 1 = cc in
    subst (λ j. IsSectorDone (Read s 1) (take 512 sector) origin (cells_done j (job_bytes j sector) origin)) (sym same)
    (read_at s sector start origin e whole (subst (λ j. length start ≡ 512 * count_of j) same long) (held s 1 refl)
    (subst (λ j. IsJobDone j (job_bytes j sector) start origin e) same done))
done_at area id (ReadBits k) job sector start origin e is buffer whole long held done =
    let s = reserved_of area + 1 + k in
    let same : job ≡ Read s 1 = cc in
    subst (λ j. IsSectorDone (Read s 1) (take 512 sector) origin (cells_done j (job_bytes j sector) origin)) (sym same)
    (read_at s sector start origin e whole (subst (λ j. length start ≡ 512 * count_of j) same long) (held s 1 refl)
    (subst (λ j. IsJobDone j (job_bytes j sector) start origin e) same done))
done_at area id (WriteZeros k) job sector start origin e is buffer whole long held done =
    let s = reserved_of area + 1 + k in
    let same : job ≡ Write s 1 = cc in
    subst (λ j. IsSectorDone (Write s 1) zero_bits origin (cells_done j (job_bytes j sector) origin)) (sym same)
    (write_at s sector zero_bits origin whole buffer)
done_at area id FlushZeros job sector start origin e is buffer whole long held done =
    let same : job ≡ Flush = cc in ap (λ j. cells_done j (job_bytes j sector) origin) same
done_at area id WriteHeader job sector start origin e is buffer whole long held done =
    let s = reserved_of area in
    let same : job ≡ Write s 1 = cc in
    subst (λ j. IsSectorDone (Write s 1) (header_of area id) origin (cells_done j (job_bytes j sector) origin))
    (sym same)
    (write_at s sector (header_of area id) origin whole buffer)
done_at area id FlushHeader job sector start origin e is buffer whole long held done =
    let same : job ≡ Flush = cc in ap (λ j. cells_done j (job_bytes j sector) origin) same
done_at area id Nothing job sector start origin e is buffer whole long held done = absurd cc

-- the bytes of a step that writes are a sector's, and stand at the front of the buffer
written_long : (area : Area) (id : ℕ) (step : OpeningStep)
    → IfSome (bytes_at area id step) (λ bytes. length bytes ≡ 512)
written_long area id ReadHeader = tt
written_long area id (ReadBits k) = tt
written_long area id (WriteZeros k) = zeros_are_a_sector.size
written_long area id FlushZeros = tt
written_long area id WriteHeader = (header_is_a_sector area id).size
written_long area id FlushHeader = tt
written_long area id Nothing = tt

stands_in_front : (bytes : Option (List ℕ)) (sector buffer : List ℕ) → IfSome bytes (λ bytes. length bytes ≡ 512)
    → buffer ≡ buffer_with bytes sector → IfSome bytes (λ bytes. take 512 buffer ≡ bytes)
stands_in_front None sector buffer long is = tt
stands_in_front (Some bytes) sector buffer long is =
    ap (λ xs. take 512 xs) is ∙ take_at bytes (drop 512 sector) 512 long

-- a poll leaves the bytes of a step that writes at the front of the monitor's sector
buffer_stays : (area : Area) (id : ℕ) (step : OpeningStep) (job : OwnJob) (result : Poll) (done : ℕ) (d : Device)
    (sector bytes rest : List ℕ) → job_at area step ≡ Some job
    → bytes ≡ bytes_after job result done d (job_bytes job sector)
    → IfSome (bytes_at area id step) (λ written. take 512 sector ≡ written)
    → IfSome (bytes_at area id step) (λ written. take 512 (bytes ++ rest) ≡ written)
buffer_stays area id ReadHeader job result done d sector bytes rest is moved buffer = tt
buffer_stays area id (ReadBits k) job result done d sector bytes rest is moved buffer = tt
buffer_stays area id (WriteZeros k) job result done d sector bytes rest is moved buffer =
    let same : job ≡ Write (reserved_of area + 1 + k) 1 = cc in
    let now : bytes ≡ zero_bits =
    moved ∙ ap (λ j. bytes_after j result done d (job_bytes j sector)) same ∙ buffer in
    ap (λ xs. take 512 (xs ++ rest)) now ∙ take_at zero_bits rest 512 zeros_are_a_sector.size
buffer_stays area id FlushZeros job result done d sector bytes rest is moved buffer = tt
buffer_stays area id WriteHeader job result done d sector bytes rest is moved buffer =
    let same : job ≡ Write (reserved_of area) 1 = cc in
    let now : bytes ≡ header_of area id =
    moved ∙ ap (λ j. bytes_after j result done d (job_bytes j sector)) same ∙ buffer in
    ap (λ xs. take 512 (xs ++ rest)) now ∙ take_at (header_of area id) rest 512 (header_is_a_sector area id).size
buffer_stays area id FlushHeader job result done d sector bytes rest is moved buffer = tt
buffer_stays area id Nothing job result done d sector bytes rest is moved buffer = tt

-- behind the end of a command the opening stands over the drive's sectors, or has ended over them
ended_sectors : (k : Known) (s : State) (after : MonitorSide) (p q : Parts) (d e : Device) (sector : List ℕ)
    (plain : List Cell) → IsBeingOpened k s p d plain → Opens k.disk q.opening q.bitmap e.cells
    → q.sector ≡ buffer_with (bytes_to_open q.opening) sector → q.area ≡ p.area → q.id ≡ p.id → FitsArea q
    → HasSectors k (Monitor after) q e plain
ended_sectors k s after p q d e sector plain being opens is area id fits =
    let view : plain ≡ stored (guest_view q.area q.id k.image k.disk) =
    being.view ∙ ap (λ (a : Area). stored (guest_view a p.id k.image k.disk)) (sym area)
    ∙ ap (λ (i : ℕ). stored (guest_view q.area i k.image k.disk)) (sym id) in
    let durable : k.durable ≡ stored_blocks q.area q.id k.disk =
    being.durable ∙ ap (λ (a : Area). stored_blocks a p.id k.disk) (sym area)
    ∙ ap (λ (i : ℕ). stored_blocks q.area i k.disk) (sym id) in record {
      opens = λ still. record {
        opens = opens;
        buffer = stands_in_front (bytes_to_open q.opening) sector q.sector
            (written_long q.opening.area q.opening.id q.opening.step) is;
        view = view;
        durable = durable;
      };
      overlaid = λ opened. opened_over k q e.cells plain opened fits.opening fits.run opens view durable;
    }

-- a poll at which the command goes on leaves what was done so far
pub still_so_far : (result : Poll) (job : OwnJob) (left : ℕ) (bytes start : List ℕ) (origin : List Cell) (e : Device)
    → (result ≡ Waiting) ⊎ (result ≡ Moved) → Leaves result job left bytes start origin e
    → IsDoneSoFar job (done_by job (left_after result left)) bytes start origin e
still_so_far Waiting job left bytes start origin e goes leaves = leaves
still_so_far Moved job left bytes start origin e goes leaves = leaves
still_so_far Done job left bytes start origin e (inl is) leaves = absurd cc
still_so_far Done job left bytes start origin e (inr is) leaves = absurd cc
still_so_far Failed job left bytes start origin e (inl is) leaves = absurd cc
still_so_far Failed job left bytes start origin e (inr is) leaves = absurd cc

-- an opening's command that failed leaves the opening over the drive's sectors, whatever it has made of them
pub failed_sectors : (side after : MonitorSide) (own : Own) (p q : Parts) (d e : Device) (sector : List ℕ)
    → Fits (Running side own purpose.Opening) p d → e.cells ≡ d.cells → q.area ≡ p.area → q.id ≡ p.id → FitsArea q
    → ((disk : List (List ℕ)) (old new : List Cell) → Opens disk p.opening p.bitmap old
    → MadeByOpening false p.opening sector old new → Opens disk q.opening q.bitmap new)
    → q.sector ≡ buffer_with (bytes_to_open q.opening) sector
    → OpeningGoesOn (Running side own purpose.Opening) p d (Monitor after) q e
failed_sectors side after own p q d e sector fits cells area id fit opens buffer closed k plain has =
    let s = Running side own purpose.Opening in
    let being = has.opens closed in
    let before = opens_in k.disk s p d fits.parts.state being.buffer being.opens in
    let none = subst (λ next. MadeBy false next (unwrap_or (bytes_to_open p.opening) (take 512 sector)) d.cells e.cells)
    (sym fits.parts.state.5.0) (inl cells) in
    ended_sectors k s after p q d e sector plain being (opens k.disk d.cells e.cells before none) buffer area id fit

-- an opening's command that is polled, with so many bytes of the monitor's sector
module _ (side after : MonitorSide) (own : Own) (p : Parts) (d e : Device) (end : ℕ) (bytes rest : List ℕ)
    (result : Poll) (fits : Fits (Running side own purpose.Opening) p d)
    (kept : IfSome (next_in_opening p.opening) (IsOnKept p.opening.area))
    (end_is : end ≡ 512 * count_of (job_of own)) (sized : length bytes ≡ 512 * count_of (job_of own))
    (moved : bytes ≡ bytes_after (job_of own) result (done_of own) d (take end p.sector))
    (leaves : (start : List ℕ) (origin : List Cell)
    → IsDoneSoFar (job_of own) (done_of own) (take end p.sector) start origin d
    → Leaves result (job_of own) (polls_left own) bytes start origin e) where
  next_is : next_in_opening p.opening ≡ Some (job_of own)
  next_is = fits.parts.state.5.0

  job_kept : IsOnKept p.opening.area (job_of own)
  job_kept = subst (λ next. IfSome next (IsOnKept p.opening.area)) next_is kept

  front : take end p.sector ≡ job_bytes (job_of own) p.sector
  front = ap (λ n. take n p.sector) end_is

  bytes_now : job_bytes (job_of own) (bytes ++ rest) ≡ bytes
  bytes_now = take_at bytes rest (512 * count_of (job_of own)) sized

  buffer_now : IfSome (bytes_to_open p.opening) (λ written. take 512 p.sector ≡ written)
      → IfSome (bytes_to_open p.opening) (λ written. take 512 (bytes ++ rest) ≡ written)
  buffer_now = buffer_stays p.opening.area p.opening.id p.opening.step (job_of own) result (done_of own) d p.sector
      bytes rest next_is
      (moved ∙ ap (λ xs. bytes_after (job_of own) result (done_of own) d xs) front)

  left_now : (disk : List (List ℕ)) (o : OpeningDone disk own p d)
      → Leaves result (job_of own) (polls_left own) bytes o.start o.origin e
  left_now disk o = leaves o.start o.origin
      (subst (λ xs. IsDoneSoFar (job_of own) (done_of own) xs o.start o.origin d) (sym front) o.done)

  -- it goes on
  pub goes_sectors : (left : Own) → job_of left ≡ job_of own → polls_left left ≡ left_after result (polls_left own)
      → (result ≡ Waiting) ⊎ (result ≡ Moved)
      → OpeningGoesOn (Running side own purpose.Opening) p d (Running after left purpose.Opening)
      (record p { sector = bytes ++ rest }) e
  goes_sectors left job_is left_is goes closed k plain has =
      let being = has.opens closed in
      let o = being.opens in
      let so_far = still_so_far result (job_of own) (polls_left own) bytes o.start o.origin e goes
      (left_now k.disk o) in
      let here = subst (λ n. IsDoneSoFar (job_of own) (done_by (job_of own) n) bytes o.start o.origin e) (sym left_is)
      so_far in
      let there = subst (λ xs. IsDoneSoFar (job_of own) (done_by (job_of own) (polls_left left)) xs o.start o.origin e)
      (sym bytes_now) here in record {
        opens = λ still. record {
          opens = record {
            origin = o.origin;
            start = o.start;
            stood = o.stood;
            whole = subst (λ j. length o.start ≡ 512 * count_of j) (sym job_is) o.whole;
            done = subst (λ j. IsDoneSoFar j (done_by j (polls_left left)) (job_bytes j (bytes ++ rest)) o.start
                o.origin e) (sym job_is) there;
          };
          buffer = buffer_now being.buffer;
          view = being.view;
          durable = being.durable;
        };
        overlaid = λ opened. absurd (true≢false (sym opened ∙ closed));
      }

  -- it is done
  pub done_sectors : (q : Parts) → result ≡ Done → IsSector (bytes ++ rest) → HoldsSectors e → q.area ≡ p.area
      → q.id ≡ p.id → FitsArea q
      → ((disk : List (List ℕ)) (old new : List Cell) → Opens disk p.opening p.bitmap old
      → MadeByOpening true p.opening (bytes ++ rest) old new → Opens disk q.opening q.bitmap new)
      → q.sector ≡ buffer_with (bytes_to_open q.opening) (bytes ++ rest)
      → OpeningGoesOn (Running side own purpose.Opening) p d (Monitor after) q e
  done_sectors q done whole holds area id fit opens buffer closed k plain has =
      let being = has.opens closed in
      let o = being.opens in
      let made = subst (λ r. Leaves r (job_of own) (polls_left own) bytes o.start o.origin e) done
      (left_now k.disk o) in
      let now : IsJobDone (job_of own) (job_bytes (job_of own) (bytes ++ rest)) o.start o.origin e =
      subst (λ xs. IsJobDone (job_of own) xs o.start o.origin e) (sym bytes_now) made in
      let cells = cells_done (job_of own) (job_bytes (job_of own) (bytes ++ rest)) o.origin in
      let forgets = ends-forget cells e.cells now.cells in
      let held : (s count : ℕ) → next_in_opening p.opening ≡ Some (Read s count) → IsSector (value_at s o.origin) =
      λ s count reads.
      let same : job_of own ≡ Read s count = ap (λ next. unwrap_or next (Read s count)) (sym next_is ∙ reads) in
      let read : cells ≡ o.origin = ap (λ j. cells_done j (job_bytes j (bytes ++ rest)) o.origin) same in
      let inside = kept_inside p.opening.area p.opening.id k.disk s count o.origin
      (subst (IsOnKept p.opening.area) same job_kept) o.stood.sectors in
      let many : length e.cells ≡ length o.origin = forgets.cells ∙ ap (λ (xs : List Cell). length xs) read in
      subst IsSector (forgets.newest s ∙ ap (value_at s) read)
      (current_held s e holds (subst (λ n. s < n) (sym many) inside)) in
      let stood = opens k.disk o.origin cells o.stood
      (done_at p.opening.area p.opening.id p.opening.step (job_of own) (bytes ++ rest) o.start o.origin e next_is
      (buffer_now being.buffer) whole o.whole held now) in
      ended_sectors k (Running side own purpose.Opening) after p q d e (bytes ++ rest) plain being
      (opens_forgets k.disk q.opening q.bitmap cells e.cells forgets stood) buffer area id fit
