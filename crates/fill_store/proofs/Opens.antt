-- What stands on the drive while an opening goes on.
use Rattle.std.proofs.Common.{◌≡◌, ℕ, suc, ◌==◌, ◌+◌, ◌<◌, Bool, true, false, if◌then◌else◌, Option, Some, None, unwrap_or, List, length, take, arith, refl, ap, sym, add-one, ◌∙◌, inl, inr}
use Rattle.std.proofs.Math.Path.{subst}
use Rattle.std.specs.Str.{bytes_eq}
use Rattle.std.proofs.lemmas.Bool.Decides.{eqb_tells}
use Rattle.std.proofs.lemmas.List.{length-map, length-replicate}
use Rattle.std.proofs.lemmas.Slice.Eq.{bytes_eq-Decides}
use Rattle.ata_taskfile.specs.Device.{Cell}
use Rattle.plain_drive.specs.Plain.{settled, appended, all_flushed, stored}
use Rattle.plain_drive.proofs.Cells.{length-appended, appended-current}
use Rattle.own_pio.specs.declared.job.OwnJob.{OwnJob}
use Rattle.own_pio.specs.declared.job.OwnJob.TheVariants.{Write}
use Rattle.fill_bitmap.specs.declared.area.Area.{Area}
use Rattle.fill_bitmap.specs.Area.{IsSuitable, blocks_of, bitmap_sectors_of, reserved_of, sector_of_bits}
use Rattle.fill_bitmap.specs.Bits.{has_bit}
use Rattle.fill_bitmap.specs.Bitmap.{Sets, empty_sets, loaded}
use Rattle.fill_bitmap.specs.BlockSet.{empty_set, with_sector}
use Rattle.fill_bitmap.specs.Disk.{sector_at, header_of, HasHeader, bitmap_sector, stored_blocks, with_sectors}
use Rattle.fill_bitmap.proofs.Disks.{added_all, none_stored, has-empty_set}
use Rattle.fill_bitmap.proofs.StoredBlocks.{length-stored_blocks, stored_inside, stored_block}
use Rattle.fill_store.specs.declared.opening.OpeningStep.{OpeningStep}
use Rattle.fill_store.specs.declared.opening.OpeningStep.TheVariants.{ReadHeader, ReadBits, WriteZeros, FlushZeros, WriteHeader, FlushHeader, Nothing}
use Rattle.fill_store.specs.Sectors.{zero_bits}
use Rattle.plain_drive.specs.Cells.{Each, ForgetsOld}
use Rattle.fill_store.specs.Cells.{MadeBy, HasBitsBetween, KeepsBits}
use Rattle.fill_store.specs.Opening.{OpeningState, opening_of, IsReached, job_at, bytes_at, next_in_opening, bytes_to_open, read_from, zeros_from, step_after, sets_behind, opening_after, sets_after_opening}
use Rattle.fill_store.specs.OpeningCells.{IsEither, alike, LeavesOldOrNew, HasOldBits, HasOldHeader, HasZeros, HasOnlyZeros, CellsAt, blocks_at, MadeByOpening, Opens}
use Rattle.fill_store.proofs.Values.{newest, each_map, each_written, each_flushed, flush_forgets, each_forgets, at_power_on, on_test}
use Rattle.fill_store.proofs.Stored.{no_bit}
use Rattle.fill_store.proofs.Keeps.{bits_forget, bits_stand, one_more, keeps_forgets}

leaves_forgets : (area : Area) (id : ℕ) (disk : List (List ℕ)) (old new : List Cell) → ForgetsOld old new
    → LeavesOldOrNew area id disk old → LeavesOldOrNew area id disk new
leaves_forgets area id disk old new forgets leaves = record {
  reserved = leaves.reserved ∙ sym forgets.cells;
  others = λ s below. each_forgets (λ value. value ≡ sector_at s disk) s old new forgets (leaves.others s below);
  header = each_forgets (IsEither (sector_at (reserved_of area) disk) (header_of area id))
      (reserved_of area) old new forgets leaves.header;
  bits = λ k inside. each_forgets (IsEither (bitmap_sector area disk k) zero_bits)
      (sector_of_bits area k) old new forgets
      (leaves.bits k inside);
}

leaves_zeros : (area : Area) (id : ℕ) (disk : List (List ℕ)) (k : ℕ) (cells : List Cell)
    → LeavesOldOrNew area id disk cells → LeavesOldOrNew area id disk (appended (sector_of_bits area k) zero_bits cells)
leaves_zeros area id disk k cells leaves = record {
  reserved = leaves.reserved ∙ sym (length-appended (sector_of_bits area k) zero_bits cells);
  others = λ s below. each_written (λ value. value ≡ sector_at s disk) (sector_of_bits area k) s zero_bits cells
      (λ e. absurd (omega arith)) (leaves.others s below);
  header = each_written (IsEither (sector_at (reserved_of area) disk) (header_of area id)) (sector_of_bits area k)
      (reserved_of area) zero_bits cells (λ e. absurd (omega arith)) leaves.header;
  bits = λ j inside. each_written (IsEither (bitmap_sector area disk j) zero_bits) (sector_of_bits area k)
      (sector_of_bits area j) zero_bits cells (λ e. inr refl) (leaves.bits j inside);
}

leaves_header : (area : Area) (id : ℕ) (disk : List (List ℕ)) (cells : List Cell)
    → LeavesOldOrNew area id disk cells → LeavesOldOrNew area id disk
    (appended (reserved_of area) (header_of area id) cells)
leaves_header area id disk cells leaves = record {
  reserved = leaves.reserved ∙ sym (length-appended (reserved_of area) (header_of area id) cells);
  others = λ s below. each_written (λ value. value ≡ sector_at s disk) (reserved_of area) s (header_of area id) cells
      (λ e. absurd (omega arith)) (leaves.others s below);
  header = each_written (IsEither (sector_at (reserved_of area) disk) (header_of area id)) (reserved_of area)
      (reserved_of area) (header_of area id) cells (λ e. inr refl) leaves.header;
  bits = λ j inside. each_written (IsEither (bitmap_sector area disk j) zero_bits) (reserved_of area)
      (sector_of_bits area j) (header_of area id) cells (λ e. absurd (omega arith)) (leaves.bits j inside);
}

old_bits_forget : (area : Area) (disk : List (List ℕ)) (old new : List Cell) → ForgetsOld old new
    → HasOldBits area disk old → HasOldBits area disk new
old_bits_forget area disk old new forgets bits k inside =
    each_forgets (λ value. value ≡ bitmap_sector area disk k) (sector_of_bits area k) old new forgets (bits k inside)

old_header_forgets : (area : Area) (disk : List (List ℕ)) (old new : List Cell) → ForgetsOld old new
    → HasOldHeader area disk old → HasOldHeader area disk new
old_header_forgets area disk old new forgets header =
    each_forgets (λ value. value ≡ sector_at (reserved_of area) disk) (reserved_of area) old new forgets header

only_zeros_forget : (area : Area) (old new : List Cell) → ForgetsOld old new → HasOnlyZeros area old
    → HasOnlyZeros area new
only_zeros_forget area old new forgets zeros k inside =
    each_forgets (λ value. value ≡ zero_bits) (sector_of_bits area k) old new forgets (zeros k inside)

cells_forget : (area : Area) (id : ℕ) (disk : List (List ℕ)) (step : OpeningStep) (old new : List Cell)
    → ForgetsOld old new
    → CellsAt area id disk step old → CellsAt area id disk step new
cells_forget area id disk ReadHeader old new forgets (header, bits) =
    (old_header_forgets area disk old new forgets header, old_bits_forget area disk old new forgets bits)
cells_forget area id disk (ReadBits k) old new forgets (header, bits) =
    (header, old_bits_forget area disk old new forgets bits)
cells_forget area id disk (WriteZeros k) old new forgets (none, header, zeros) = (
  none,
  old_header_forgets area disk old new forgets header,
  bits_forget k (λ i. zero_bits) area
      old new forgets zeros,
)
cells_forget area id disk FlushZeros old new forgets (none, header, zeros) = (
  none,
  old_header_forgets area disk old new forgets header,
  bits_forget (bitmap_sectors_of area) (λ i. zero_bits) area old new forgets zeros,
)
cells_forget area id disk WriteHeader old new forgets (none, zeros) =
    (none, only_zeros_forget area old new forgets zeros)
cells_forget area id disk FlushHeader old new forgets (none, zeros, header) =
    (none, only_zeros_forget area old new forgets zeros, forgets.newest (reserved_of area) ∙ header)
cells_forget area id disk Nothing old new forgets kept =
    keeps_forgets area id (stored_blocks area id disk) (stored_blocks area id disk) old new forgets kept

-- an opening stands where older values were forgotten
pub opens_forgets : (disk : List (List ℕ)) (o : OpeningState) (sets : Sets) (old new : List Cell) → ForgetsOld old new
    → Opens disk o sets old → Opens disk o sets new
opens_forgets disk o sets old new forgets opens = record {
  bitmap = opens.bitmap;
  sectors = leaves_forgets o.area o.id disk old new forgets opens.sectors;
  step = cells_forget o.area o.id disk o.step old new forgets opens.step;
}

disk_bits : (area : Area) (id : ℕ) (disk : List (List ℕ)) (k : ℕ) (value : List ℕ) → HasHeader area id disk
    → value ≡ bitmap_sector area disk k
    → HasBitsBetween area k (stored_blocks area id disk) (stored_blocks area id disk) value
disk_bits area id disk k value header same = record {
  least_set = λ b at held.
      let inside = stored_inside area id disk b held in
      ap (λ bytes. has_bit bytes b) (same ∙ ap (bitmap_sector area disk) (sym at))
      ∙ sym (stored_block area id disk b header inside) ∙ held;
  set_most = λ b inside at set.
      stored_block area id disk b header inside ∙ ap (λ bytes. has_bit bytes b)
      (ap (bitmap_sector area disk) at ∙ sym same) ∙ set;
}

zero_between : (area : Area) (k : ℕ) (value : List ℕ) → value ≡ zero_bits
    → HasBitsBetween area k (empty_set (blocks_of area)) (empty_set (blocks_of area)) value
zero_between area k value same = record {
  least_set = λ b at held.
      let none = has-empty_set (blocks_of area) b in absurd (cc);
  set_most = λ b inside at set. let none = ap (λ bytes. has_bit bytes b) same ∙ no_bit b in absurd (cc);
}

-- a drive whose header is the run's, and whose bitmap wasn't written since power-on, keeps the disk's stored blocks
keeps_old : (area : Area) (id : ℕ) (disk : List (List ℕ)) (cells : List Cell) → LeavesOldOrNew area id disk cells
    → HasHeader area id disk → HasOldBits area disk cells
    → KeepsBits area id (stored_blocks area id disk) (stored_blocks area id disk) cells
keeps_old area id disk cells leaves header bits = record {
  reserved = leaves.reserved;
  blocks = length-stored_blocks area id disk;
  header = each_map (IsEither (sector_at (reserved_of area) disk) (header_of area id))
      (λ value. value ≡ header_of area id)
      (reserved_of area) cells
      (λ value either. elim either [ inl e ↦ e ∙ header | inr e ↦ e ]) leaves.header;
  bits = λ k inside. each_map (λ value. value ≡ bitmap_sector area disk k)
      (HasBitsBetween area k (stored_blocks area id disk) (stored_blocks area id disk)) (sector_of_bits area k) cells
      (λ value same. disk_bits area id disk k value header same) (bits k inside);
}

-- a drive with the run's header and zeros for its bitmap keeps no block
keeps_empty : (area : Area) (id : ℕ) (disk : List (List ℕ)) (cells : List Cell) → LeavesOldOrNew area id disk cells
    → HasOnlyZeros area cells → Each (λ value. value ≡ header_of area id) (reserved_of area) cells
    → KeepsBits area id (empty_set (blocks_of area)) (empty_set (blocks_of area)) cells
keeps_empty area id disk cells leaves zeros header = record {
  reserved = leaves.reserved;
  blocks = length-replicate (blocks_of area) false;
  header = header;
  bits = λ k inside. each_map (λ value. value ≡ zero_bits)
      (HasBitsBetween area k (empty_set (blocks_of area)) (empty_set (blocks_of area)))
      (sector_of_bits area k) cells (λ value same. zero_between area k value same) (zeros k inside);
}

-- what stands at a step
abbrev Stands : Area → ℕ → List (List ℕ) → Sets → List Cell → OpeningStep → Type 0
Stands area id disk sets cells step =
    (sets ≡ alike (blocks_at area id disk step)) × LeavesOldOrNew area id disk cells × CellsAt area id disk step cells

reads_on : (area : Area) (id : ℕ) (disk : List (List ℕ)) (k : ℕ) (sets : Sets) (cells : List Cell)
    → LeavesOldOrNew area id disk cells
    → sets ≡ alike (with_sectors k area disk (empty_set (blocks_of area))) → HasHeader area id disk
    → HasOldBits area disk cells
    → Stands area id disk sets cells (read_from area k)
reads_on area id disk k sets cells leaves so_far header bits =
    on_test (Stands area id disk sets cells) k (bitmap_sectors_of area) Nothing (ReadBits k)
    (λ all. (
      so_far ∙ ap alike (ap (λ n. with_sectors n area disk (empty_set (blocks_of area))) all
          ∙ added_all area id disk header),
      leaves,
      keeps_old area id disk cells leaves header bits,
    ))
    (so_far, leaves, (header, bits))

zeros_on : (area : Area) (id : ℕ) (disk : List (List ℕ)) (k : ℕ) (sets : Sets) (cells : List Cell)
    → LeavesOldOrNew area id disk cells
    → sets ≡ alike (empty_set (blocks_of area)) → ¬ HasHeader area id disk → HasOldHeader area disk cells
    → HasZeros k area cells
    → Stands area id disk sets cells (zeros_from area k)
zeros_on area id disk k sets cells leaves empty none header zeros =
    on_test (Stands area id disk sets cells) k (bitmap_sectors_of area) FlushZeros (WriteZeros k)
    (λ all. (empty, leaves, (none, header, subst (λ n. HasZeros n area cells) all zeros)))
    (empty, leaves, (none, header, zeros))

header_stays : (area : Area) (disk : List (List ℕ)) (k : ℕ) (cells : List Cell) → HasOldHeader area disk cells
    → HasOldHeader area disk (appended (sector_of_bits area k) zero_bits cells)
header_stays area disk k cells header =
    each_written (λ value. value ≡ sector_at (reserved_of area) disk) (sector_of_bits area k)
    (reserved_of area) zero_bits cells
    (λ e. absurd (omega arith)) header

only_zeros_stay : (area : Area) (id : ℕ) (cells : List Cell) → HasOnlyZeros area cells
    → HasOnlyZeros area (appended (reserved_of area) (header_of area id) cells)
only_zeros_stay area id cells zeros k inside =
    each_written (λ value. value ≡ zero_bits) (reserved_of area) (sector_of_bits area k) (header_of area id) cells
    (λ e. absurd (omega arith)) (zeros k inside)

-- behind the header that was read
header_was_read : (area : Area) (id : ℕ) (disk : List (List ℕ)) (bytes : List ℕ) (sets : Sets) (cells : List Cell)
    → LeavesOldOrNew area id disk cells
    → bytes ≡ sector_at (reserved_of area) disk → sets ≡ alike (empty_set (blocks_of area))
    → HasOldHeader area disk cells
    → HasOldBits area disk cells
    → (test : Bool) → bytes_eq bytes (header_of area id) ≡ test
    → Stands area id disk sets cells (if test then read_from area 0 else zeros_from area 0)
header_was_read area id disk bytes sets cells leaves read empty header bits true test =
    reads_on area id disk 0 sets cells leaves empty (sym read ∙ (bytes_eq-Decides bytes (header_of area id)).0 test)
    bits
header_was_read area id disk bytes sets cells leaves read empty header bits false test =
    let other : ¬ HasHeader area id disk =
    λ same. let yes = (bytes_eq-Decides bytes (header_of area id)).1 (read ∙ same) in absurd (cc) in
    zeros_on area id disk 0 sets cells leaves empty other header (λ j below. absurd (omega arith))

-- what a step that was done leaves
step_done : (area : Area) (id : ℕ) (disk : List (List ℕ)) (step : OpeningStep) (bytes : List ℕ)
    (sets : Sets) (old new : List Cell)
    → IsReached area step → sets ≡ alike (blocks_at area id disk step) → LeavesOldOrNew area id disk old
    → CellsAt area id disk step old
    → MadeBy true (job_at area step) (unwrap_or (bytes_at area id step) bytes) old new
    → Stands area id disk (sets_behind bytes step sets) new (step_after area id bytes step)
step_done area id disk ReadHeader bytes sets old new reached empty leaves (header, bits) (read, same) =
    let value : bytes ≡ sector_at (reserved_of area) disk =
    read ∙ newest (λ value. value ≡ sector_at (reserved_of area) disk) (reserved_of area) old header in
    rw same (header_was_read area id disk bytes sets old leaves value empty header bits
    (bytes_eq bytes (header_of area id)) refl)
step_done area id disk (ReadBits k) bytes sets old new reached so_far leaves (header, bits) (read, same) =
    let value : bytes ≡ bitmap_sector area disk k =
    read ∙ newest (λ value. value ≡ bitmap_sector area disk k) (sector_of_bits area k) old (bits k reached) in
    let set : List Bool = with_sectors k area disk (empty_set (blocks_of area)) in
    let more : loaded k bytes sets ≡ alike (with_sector k (bitmap_sector area disk k) set) =
    ap (loaded k bytes) so_far ∙ ap (λ sector. alike (with_sector k sector set)) value in
    rw (same, add-one) (reads_on area id disk (suc k) (loaded k bytes sets) old leaves more header bits)
step_done area id disk (WriteZeros k) bytes sets old new reached empty leaves (none, header, zeros) made =
    let reserved = leaves.reserved in
    rw made (zeros_on area id disk (k + 1) sets (appended (sector_of_bits area k) zero_bits old)
    (leaves_zeros area id disk k old leaves)
    empty none (header_stays area disk k old header) (one_more k (λ i. zero_bits) area old (omega arith) zeros))
step_done area id disk FlushZeros bytes sets old new reached empty leaves (none, header, zeros) made =
    rw made (
      empty,
      leaves_forgets area id disk old (all_flushed old) (flush_forgets old) leaves,
      (none, λ k inside. each_flushed (λ value. value ≡ zero_bits) (sector_of_bits area k) old (zeros k inside)),
    )
step_done area id disk WriteHeader bytes sets old new reached empty leaves (none, zeros) made =
    let reserved = leaves.reserved in
    rw made (
      empty,
      leaves_header area id disk old leaves,
      (
        none,
        only_zeros_stay area id old zeros,
        appended-current (reserved_of area) (header_of area id) old
            (omega arith),
      ),
    )
step_done area id disk FlushHeader bytes sets old new reached empty leaves (none, zeros, header) made =
    let left = leaves_forgets area id disk old (all_flushed old) (flush_forgets old) leaves in
    let stored : stored_blocks area id disk ≡ empty_set (blocks_of area) = none_stored area id disk none in
    rw made (
      empty ∙ ap alike (sym stored),
      left,
      subst (λ set. KeepsBits area id set set (all_flushed old)) (sym stored)
          (keeps_empty area id disk (all_flushed old) left
          (only_zeros_forget area old (all_flushed old) (flush_forgets old) zeros)
          (each_flushed (λ value. value ≡ header_of area id) (reserved_of area) old header)),
    )
step_done area id disk Nothing bytes sets old new reached all leaves kept made = rw made (all, leaves, kept)

-- a job that a step has in hand leaves all as it is to be, once it was made too
step_in_hand : (area : Area) (id : ℕ) (disk : List (List ℕ)) (step : OpeningStep) (bytes : List ℕ) (old new : List Cell)
    → LeavesOldOrNew area id disk old → CellsAt area id disk step old
    → MadeBy true (job_at area step) (unwrap_or (bytes_at area id step) bytes) old new
    → LeavesOldOrNew area id disk new × CellsAt area id disk step new
step_in_hand area id disk ReadHeader bytes old new leaves holds (read, same) = rw same (leaves, holds)
step_in_hand area id disk (ReadBits k) bytes old new leaves holds (read, same) = rw same (leaves, holds)
step_in_hand area id disk (WriteZeros k) bytes old new leaves (none, header, zeros) made =
    rw made (
      leaves_zeros area id disk k old leaves,
      (
        none,
        header_stays area disk k old header,
        bits_stand k (λ i. zero_bits) area old zeros,
      ),
    )
step_in_hand area id disk FlushZeros bytes old new leaves holds made =
    rw made (
      leaves_forgets area id disk old (all_flushed old) (flush_forgets old) leaves,
      cells_forget area id disk FlushZeros old (all_flushed old) (flush_forgets old) holds,
    )
step_in_hand area id disk WriteHeader bytes old new leaves (none, zeros) made =
    rw made (leaves_header area id disk old leaves, (none, only_zeros_stay area id old zeros))
step_in_hand area id disk FlushHeader bytes old new leaves holds made =
    rw made (
      leaves_forgets area id disk old (all_flushed old) (flush_forgets old) leaves,
      cells_forget area id disk FlushHeader old (all_flushed old) (flush_forgets old) holds,
    )
step_in_hand area id disk Nothing bytes old new leaves holds made = rw made (leaves, holds)

step_failed : (area : Area) (id : ℕ) (disk : List (List ℕ)) (step : OpeningStep) (job : Option OwnJob)
    (bytes : List ℕ) (old new : List Cell)
    → job_at area step ≡ job → LeavesOldOrNew area id disk old → CellsAt area id disk step old
    → MadeBy false job (unwrap_or (bytes_at area id step) bytes) old new
    → LeavesOldOrNew area id disk new × CellsAt area id disk step new
step_failed area id disk step None bytes old new next leaves holds made = rw made (leaves, holds)
step_failed area id disk step (Some job) bytes old new next leaves holds (inl same) = rw same (leaves, holds)
step_failed area id disk step (Some job) bytes old new next leaves holds (inr done) =
    step_in_hand area id disk step bytes old new leaves holds
    (subst (λ it. MadeBy true it (unwrap_or (bytes_at area id step) bytes) old new) (sym next) done)

-- an opening stands while its job is in hand
pub opens_in_hand : (disk : List (List ℕ)) (o : OpeningState) (bytes : List ℕ) (sets : Sets) (old new : List Cell)
    → Opens disk o sets old
    → MadeBy false (next_in_opening o) (unwrap_or (bytes_to_open o) bytes) old new → Opens disk o sets new
opens_in_hand disk o bytes sets old new opens made =
    let left = step_failed o.area o.id disk o.step (next_in_opening o) bytes old new refl opens.sectors
    opens.step made in
    record { bitmap = opens.bitmap; sectors = left.0; step = left.1 }

-- an opening goes on where its job ended, well or not
pub opens_after : (ok : Bool) (disk : List (List ℕ)) (o : OpeningState) (bytes : List ℕ) (sets : Sets)
    (old new : List Cell)
    → IsReached o.area o.step → Opens disk o sets old
    → MadeBy ok (next_in_opening o) (unwrap_or (bytes_to_open o) bytes) old new
    → Opens disk (opening_after ok bytes o) (sets_after_opening ok bytes o sets) new
opens_after false disk o bytes sets old new reached opens made = opens_in_hand disk o bytes sets old new opens made
opens_after true disk o bytes sets old new reached opens made =
    let left = step_done o.area o.id disk o.step bytes sets old new reached opens.bitmap opens.sectors
    opens.step made in
    record { bitmap = left.0; sectors = left.1; step = left.2 }

room_for_reserved : (area : Area) → IsSuitable area → 0 < area.image
    → reserved_of area + (bitmap_sectors_of area + 2) ≡ area.sectors
room_for_reserved area suitable some = grind arith

-- an opening at power-on
pub opens_at_power_on : (area : Area) (id : ℕ) (disk : List (List ℕ)) → IsSuitable area → 0 < area.image
    → length disk ≡ area.sectors
    → Opens disk (opening_of area id) (empty_sets (blocks_of area)) (stored disk)
opens_at_power_on area id disk suitable some long =
    let reserved = room_for_reserved area suitable some in
    let begins : (if area.image == 0 then Nothing else ReadHeader) ≡ ReadHeader =
    elim (eqb_tells area.image 0) [ inl (test, none) ↦ absurd (omega arith) | inr (test, apart) ↦ rw test refl ] in
    record {
      bitmap = rw begins refl;
      sectors = record {
        reserved = reserved ∙ sym long ∙ sym (length-map disk settled);
        others = λ s below. at_power_on (λ value. value ≡ sector_at s disk) s disk (omega arith) refl;
        header = at_power_on (IsEither (sector_at (reserved_of area) disk) (header_of area id))
            (reserved_of area) disk (omega arith) (inl refl);
        bits = λ k inside. at_power_on (IsEither (bitmap_sector area disk k) zero_bits) (sector_of_bits area k) disk
            (omega arith) (inl refl);
      };
      step = subst (λ step. CellsAt area id disk step (stored disk)) (sym begins) (
        at_power_on (λ value. value ≡ sector_at (reserved_of area) disk) (reserved_of area) disk (omega arith) refl,
        λ k inside. at_power_on (λ value. value ≡ bitmap_sector area disk k) (sector_of_bits area k) disk
            (omega arith) refl,
      );
    }

-- an opening goes on where its job ended, said of its states before and after
pub opens_ended : (ok : Bool) (disk : List (List ℕ)) (o after : OpeningState) (buffer : List ℕ)
    (sets sets_after : Sets) (old new : List Cell)
    → IsReached o.area o.step → after ≡ opening_after ok (take 512 buffer) o
    → sets_after ≡ sets_after_opening ok (take 512 buffer) o sets
    → Opens disk o sets old → MadeByOpening ok o buffer old new → Opens disk after sets_after new
opens_ended ok disk o after buffer sets sets_after old new reached state bitmap opens made =
    rw (state, bitmap) (opens_after ok disk o (take 512 buffer) sets old new reached opens made)

header_written : (area : Area) (id : ℕ) (disk : List (List ℕ)) (step : OpeningStep) (cells : List Cell) (count : ℕ)
    → CellsAt area id disk step cells → job_at area step ≡ Some (Write (reserved_of area) count)
    → HasOnlyZeros area cells
header_written area id disk ReadHeader cells count holds next = absurd (cc)
header_written area id disk (ReadBits k) cells count holds next = absurd (cc)
header_written area id disk (WriteZeros k) cells count holds next =
    let same : sector_of_bits area k ≡ reserved_of area = cc in absurd (omega arith)
header_written area id disk FlushZeros cells count holds next = absurd (cc)
header_written area id disk WriteHeader cells count (none, zeros) next = zeros
header_written area id disk FlushHeader cells count holds next = absurd (cc)
header_written area id disk Nothing cells count holds next = absurd (cc)

-- the header is written behind durable zeros
pub opens_header : (disk : List (List ℕ)) (o : OpeningState) (sets : Sets) (cells : List Cell) (count : ℕ)
    → Opens disk o sets cells
    → next_in_opening o ≡ Some (Write (reserved_of o.area) count) → HasOnlyZeros o.area cells
opens_header disk o sets cells count opens next = header_written o.area o.id disk o.step cells count opens.step next
