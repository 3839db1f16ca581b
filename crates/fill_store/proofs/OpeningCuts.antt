-- What a power cut in an opening leaves, and what the bitmap has where one has ended.
use Rattle.std.proofs.Common.{◌≡◌, ℕ, ◌<◌, Bool, if◌then◌else◌, None, List, [], map, arith, ap, sym, ◌∙◌, inl, inr}
use Rattle.std.proofs.Math.Path.{subst}
use Rattle.std.specs.List.{range_with_len}
use Rattle.std.proofs.lemmas.List.FromFn.{fill_by_all, length-map-range_with_len, get_or-map-range_with_len}
use Rattle.ata_taskfile.specs.Device.{Cell}
use Rattle.plain_drive.specs.Plain.{current}
use Rattle.plain_drive.specs.Cut.{IsOutcome}
use Rattle.fill_bitmap.specs.declared.area.Area.{Area}
use Rattle.fill_bitmap.specs.Area.{bitmap_sectors_of, reserved_of, sector_of_bits}
use Rattle.fill_bitmap.specs.Bitmap.{Sets}
use Rattle.fill_bitmap.specs.Disk.{sector_at, header_of, HasHeader, bitmap_sector, stored_blocks, is_empty_at, sector_seen, guest_view}
use Rattle.fill_bitmap.proofs.Disks.{none_stored}
use Rattle.fill_bitmap.proofs.StoredBlocks.{same_stored}
use Rattle.fill_store.specs.declared.opening.OpeningStep.{OpeningStep}
use Rattle.fill_store.specs.declared.opening.OpeningStep.TheVariants.{ReadHeader, ReadBits, WriteZeros, FlushZeros, WriteHeader, FlushHeader, Nothing}
use Rattle.fill_store.specs.Sectors.{zero_bits}
use Rattle.fill_store.specs.Cells.{KeepsBits}
use Rattle.fill_store.specs.Opening.{OpeningState, job_at, next_in_opening}
use Rattle.fill_store.specs.OpeningCells.{IsEither, alike, LeavesOldOrNew, HasOldBits, HasOldHeader, HasOnlyZeros, CellsAt, blocks_at, Opens}
use Rattle.fill_store.proofs.Values.{left_by_cut}
use Rattle.fill_store.proofs.Stored.{zeros_stored, cut_stores_set}

-- a cut leaves the sectors below the reserved ones as they were at power-on
pub others_left : (disk : List (List ℕ)) (o : OpeningState) (sets : Sets) (cells : List Cell) (outcome : List (List ℕ))
    → Opens disk o sets cells
    → IsOutcome cells outcome → (s : ℕ) → s < reserved_of o.area → sector_at s outcome ≡ sector_at s disk
others_left disk o sets cells outcome opens left s below =
    let reserved = opens.sectors.reserved in
    left_by_cut (λ value. value ≡ sector_at s disk) s cells outcome (omega arith) (opens.sectors.others s below) left

-- a cut leaves the header old or the run's
pub either_header_left : (disk : List (List ℕ)) (o : OpeningState) (sets : Sets) (cells : List Cell)
    (outcome : List (List ℕ))
    → Opens disk o sets cells
    → IsOutcome cells outcome
    → IsEither (sector_at (reserved_of o.area) disk) (header_of o.area o.id) (sector_at (reserved_of o.area) outcome)
either_header_left disk o sets cells outcome opens left =
    let reserved = opens.sectors.reserved in
    left_by_cut (IsEither (sector_at (reserved_of o.area) disk) (header_of o.area o.id))
    (reserved_of o.area) cells outcome
    (omega arith) opens.sectors.header left

-- a cut leaves each sector of the bitmap old or zeros
pub either_bits_left : (disk : List (List ℕ)) (o : OpeningState) (sets : Sets) (cells : List Cell)
    (outcome : List (List ℕ))
    → Opens disk o sets cells
    → IsOutcome cells outcome → (k : ℕ) → k < bitmap_sectors_of o.area
    → IsEither (bitmap_sector o.area disk k) zero_bits (bitmap_sector o.area outcome k)
either_bits_left disk o sets cells outcome opens left k inside =
    let reserved = opens.sectors.reserved in
    left_by_cut (IsEither (bitmap_sector o.area disk k) zero_bits) (sector_of_bits o.area k) cells outcome
    (omega arith) (opens.sectors.bits k inside) left

-- the header that a cut leaves, where the disk's was the run's
header_left : (area : Area) (id : ℕ) (disk : List (List ℕ)) (cells : List Cell) (outcome : List (List ℕ))
    → LeavesOldOrNew area id disk cells
    → HasHeader area id disk → IsOutcome cells outcome → sector_at (reserved_of area) outcome ≡ sector_at
    (reserved_of area) disk
header_left area id disk cells outcome leaves header left =
    let reserved = leaves.reserved in
    elim (left_by_cut (IsEither (sector_at (reserved_of area) disk) (header_of area id))
    (reserved_of area) cells outcome
    (omega arith) leaves.header left) [
      | inl same ↦ same
      | inr new ↦ new ∙ sym header
    ]

-- the header that a cut leaves, where it wasn't written
old_header_left : (area : Area) (id : ℕ) (disk : List (List ℕ)) (cells : List Cell) (outcome : List (List ℕ))
    → LeavesOldOrNew area id disk cells
    → HasOldHeader area disk cells → IsOutcome cells outcome → sector_at (reserved_of area) outcome ≡ sector_at
    (reserved_of area) disk
old_header_left area id disk cells outcome leaves header left =
    let reserved = leaves.reserved in
    left_by_cut (λ value. value ≡ sector_at (reserved_of area) disk) (reserved_of area) cells outcome
    (omega arith) header left

bits_left : (area : Area) (id : ℕ) (disk : List (List ℕ)) (cells : List Cell) (outcome : List (List ℕ))
    → LeavesOldOrNew area id disk cells
    → HasOldBits area disk cells → IsOutcome cells outcome
    → (k : ℕ) → k < bitmap_sectors_of area → bitmap_sector area outcome k ≡ bitmap_sector area disk k
bits_left area id disk cells outcome leaves bits left k inside =
    let reserved = leaves.reserved in
    left_by_cut (λ value. value ≡ bitmap_sector area disk k) (sector_of_bits area k) cells outcome
    (omega arith) (bits k inside) left

-- without the header before and after, no block is stored before and after
none_left : (area : Area) (id : ℕ) (disk : List (List ℕ)) (cells : List Cell) (outcome : List (List ℕ))
    → LeavesOldOrNew area id disk cells
    → ¬ HasHeader area id disk → HasOldHeader area disk cells → IsOutcome cells outcome
    → stored_blocks area id outcome ≡ stored_blocks area id disk
none_left area id disk cells outcome leaves none header left =
    let same = old_header_left area id disk cells outcome leaves header left in
    none_stored area id outcome (λ yes. none (sym same ∙ yes)) ∙ sym (none_stored area id disk none)

zeros_left : (area : Area) (id : ℕ) (disk : List (List ℕ)) (cells : List Cell) (outcome : List (List ℕ))
    → LeavesOldOrNew area id disk cells
    → ¬ HasHeader area id disk → HasOnlyZeros area cells → IsOutcome cells outcome
    → stored_blocks area id outcome ≡ stored_blocks area id disk
zeros_left area id disk cells outcome leaves none zeros left =
    let reserved = leaves.reserved in
    zeros_stored area id outcome
    (λ k inside. left_by_cut (λ value. value ≡ zero_bits) (sector_of_bits area k) cells outcome
    (omega arith) (zeros k inside) left)
    ∙ sym (none_stored area id disk none)

step_cut : (area : Area) (id : ℕ) (disk : List (List ℕ)) (step : OpeningStep) (cells : List Cell)
    (outcome : List (List ℕ))
    → LeavesOldOrNew area id disk cells → CellsAt area id disk step cells → IsOutcome cells outcome
    → stored_blocks area id outcome ≡ stored_blocks area id disk
step_cut area id disk ReadHeader cells outcome leaves (header, bits) left =
    same_stored area id outcome disk (old_header_left area id disk cells outcome leaves header left)
    (bits_left area id disk cells outcome leaves bits left)
step_cut area id disk (ReadBits k) cells outcome leaves (header, bits) left =
    same_stored area id outcome disk (header_left area id disk cells outcome leaves header left)
    (bits_left area id disk cells outcome leaves bits left)
step_cut area id disk (WriteZeros k) cells outcome leaves (none, header, zeros) left =
    none_left area id disk cells outcome leaves none header left
step_cut area id disk FlushZeros cells outcome leaves (none, header, zeros) left =
    none_left area id disk cells outcome leaves none header left
step_cut area id disk WriteHeader cells outcome leaves (none, zeros) left =
    zeros_left area id disk cells outcome leaves none zeros left
step_cut area id disk FlushHeader cells outcome leaves (none, zeros, header) left =
    zeros_left area id disk cells outcome leaves none zeros left
step_cut area id disk Nothing cells outcome leaves kept left = cut_stores_set area id
    (stored_blocks area id disk) cells outcome kept left

-- a cut in an opening leaves the disk's stored blocks
pub opening_cut : (disk : List (List ℕ)) (o : OpeningState) (sets : Sets) (cells : List Cell) (outcome : List (List ℕ))
    → Opens disk o sets cells
    → IsOutcome cells outcome → stored_blocks o.area o.id outcome ≡ stored_blocks o.area o.id disk
opening_cut disk o sets cells outcome opens left = step_cut o.area o.id disk o.step cells outcome
    opens.sectors opens.step left

same_map : {X : Type 0} (f g : ℕ → X) (n : ℕ) (d : X) → ((k : ℕ) → k < n → f k ≡ g k)
    → map f (range_with_len 0 n) ≡ map g (range_with_len 0 n)
same_map f g n d same =
    fill_by_all g (map f (range_with_len 0 n)) n d (length-map-range_with_len f 0 n)
    (λ k inside. get_or-map-range_with_len f 0 n k k d inside (omega arith) ∙ same k inside)

-- a cut in an opening leaves what a guest finds
pub opening_view : (disk : List (List ℕ)) (o : OpeningState) (sets : Sets) (cells : List Cell)
    (image outcome : List (List ℕ))
    → Opens disk o sets cells
    → IsOutcome cells outcome → guest_view o.area o.id image outcome ≡ guest_view o.area o.id image disk
opening_view disk o sets cells image outcome opens left =
    let reserved = opens.sectors.reserved in
    let seen : List Bool → List (List ℕ) → ℕ → List ℕ = λ set sectors s. sector_seen o.area set image sectors s in
    ap (λ set. map (seen set outcome) (range_with_len 0 (reserved_of o.area)))
    (opening_cut disk o sets cells outcome opens left)
    ∙ same_map (seen (stored_blocks o.area o.id disk) outcome) (seen (stored_blocks o.area o.id disk) disk)
    (reserved_of o.area) []
    (λ s below.
    let same = left_by_cut (λ value. value ≡ sector_at s disk) s cells outcome (omega arith)
    (opens.sectors.others s below) left in
    ap (λ value. if is_empty_at o.area (stored_blocks o.area o.id disk) s then sector_at s image else value) same)

-- where no job is next, the bitmap has the disk's stored blocks, and a cut leaves these
at_end : (area : Area) (id : ℕ) (disk : List (List ℕ)) (step : OpeningStep) (sets : Sets) (cells : List Cell)
    → sets ≡ alike (blocks_at area id disk step) → CellsAt area id disk step cells → job_at area step ≡ None
    → (sets ≡ alike (stored_blocks area id disk)) × KeepsBits area id (stored_blocks area id disk)
    (stored_blocks area id disk) cells
at_end area id disk ReadHeader sets cells all holds none = absurd (cc)
at_end area id disk (ReadBits k) sets cells all holds none = absurd (cc)
at_end area id disk (WriteZeros k) sets cells all holds none = absurd (cc)
at_end area id disk FlushZeros sets cells all holds none = absurd (cc)
at_end area id disk WriteHeader sets cells all holds none = absurd (cc)
at_end area id disk FlushHeader sets cells all holds none = absurd (cc)
at_end area id disk Nothing sets cells all holds none = (all, holds)

-- the bitmap's stored blocks are those of the drive's sectors, which a cut may leave as they are
pub ended_stored : (disk : List (List ℕ)) (o : OpeningState) (sets : Sets) (cells : List Cell)
    → IsOutcome cells (map current cells)
    → Opens disk o sets cells → next_in_opening o ≡ None → sets.stored ≡ stored_blocks o.area o.id (map current cells)
ended_stored disk o sets cells left opens none =
    let (all, kept) = at_end o.area o.id disk o.step sets cells opens.bitmap opens.step none in
    ap (λ s. s.stored) all ∙ sym (cut_stores_set o.area o.id (stored_blocks o.area o.id disk) cells
    (map current cells) kept left)

-- the filled blocks of a bitmap whose opening has ended are its stored ones
pub ended_filled : (disk : List (List ℕ)) (o : OpeningState) (sets : Sets) (cells : List Cell)
    → Opens disk o sets cells → next_in_opening o ≡ None → sets.filled ≡ sets.stored
ended_filled disk o sets cells opens none =
    let (all, kept) = at_end o.area o.id disk o.step sets cells opens.bitmap opens.step none in
    ap (λ s. s.filled) all ∙ sym (ap (λ s. s.stored) all)

-- a cut leaves the stored blocks of a bitmap whose opening has ended
pub ended_kept : (disk : List (List ℕ)) (o : OpeningState) (sets : Sets) (cells : List Cell)
    → Opens disk o sets cells → next_in_opening o ≡ None → KeepsBits o.area o.id sets.stored sets.stored cells
ended_kept disk o sets cells opens none =
    let (all, kept) = at_end o.area o.id disk o.step sets cells opens.bitmap opens.step none in
    subst (λ set. KeepsBits o.area o.id set set cells) (sym (ap (λ s. s.stored) all)) kept
