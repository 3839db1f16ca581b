-- What a power cut may leave of header and bitmap, and the newest values of the bitmap's sectors.
use Rattle.std.proofs.Common.{◌≡◌, ℕ, ◌+◌, ◌<◌, Bool, List, length, arith, ap, sym, ◌∙◌, inl, inr}
use Rattle.std.proofs.Math.Path.{subst}
use Rattle.std.proofs.lemmas.Bool.{cases_lt}
use Rattle.ata_taskfile.specs.Device.{Cell}
use Rattle.plain_drive.specs.Plain.{appended, all_flushed}
use Rattle.plain_drive.proofs.Cells.{length-appended, appended-current}
use Rattle.fill_bitmap.specs.declared.area.Area.{Area}
use Rattle.fill_bitmap.specs.Area.{blocks_of, bitmap_sectors_of, reserved_of, sector_of_bits}
use Rattle.fill_bitmap.specs.Bits.{sector_of}
use Rattle.fill_bitmap.specs.BlockSet.{IsWithin}
use Rattle.fill_bitmap.specs.Disk.{header_of}
use Rattle.fill_bitmap.proofs.Bytes.{bit_written}
use Rattle.plain_drive.specs.Cells.{value_at, ForgetsOld}
use Rattle.fill_store.specs.Cells.{HasBits, HasBitsBetween, KeepsBits}
use Rattle.fill_store.proofs.Values.{each_map, each_written, other_written, each_flushed, flush_forgets, each_forgets}

-- the newest values of the bitmap's sectors stay where older ones were forgotten
pub bits_forget : (n : ℕ) (bytes : ℕ → List ℕ) (area : Area) (old new : List Cell) → ForgetsOld old new
    → HasBits n bytes area old → HasBits n bytes area new
bits_forget n bytes area old new forgets bits k below = forgets.newest (sector_of_bits area k) ∙ bits k below

-- the newest values of the bitmap's sectors stay where a sector below the reserved ones is written
pub bits_elsewhere : (n : ℕ) (bytes : ℕ → List ℕ) (area : Area) (sector : ℕ) (value : List ℕ) (cells : List Cell)
    → sector < reserved_of area → HasBits n bytes area cells → HasBits n bytes area (appended sector value cells)
bits_elsewhere n bytes area sector value cells elsewhere bits k below =
    other_written sector (sector_of_bits area k) value cells (λ e. omega arith) ∙ bits k below

-- a write to a sector of the bitmap leaves the newest values of those before it
pub bits_stand : (k : ℕ) (bytes : ℕ → List ℕ) (area : Area) (cells : List Cell) → HasBits k bytes area cells
    → HasBits k bytes area (appended (sector_of_bits area k) (bytes k) cells)
bits_stand k bytes area cells bits j below =
    other_written (sector_of_bits area k) (sector_of_bits area j) (bytes k) cells (λ e. omega arith) ∙ bits j below

-- behind a write to the next sector of the bitmap, one more has its bytes
pub one_more : (k : ℕ) (bytes : ℕ → List ℕ) (area : Area) (cells : List Cell) → sector_of_bits area k < length cells
    → HasBits k bytes area cells → HasBits (k + 1) bytes area (appended (sector_of_bits area k) (bytes k) cells)
one_more k bytes area cells there bits j below = elim (cases_lt j k) [
  | inl before ↦ bits_stand k bytes area cells bits j before
  | inr past ↦
      let same : j ≡ k = omega arith in
      ap (λ i. value_at (sector_of_bits area i) (appended (sector_of_bits area k) (bytes k) cells)) same
      ∙ appended-current (sector_of_bits area k) (bytes k) cells there ∙ ap bytes (sym same)
]

-- where older values were forgotten, what a cut may leave stays between its sets
pub keeps_forgets : (area : Area) (id : ℕ) (least most : List Bool) (old new : List Cell) → ForgetsOld old new
    → KeepsBits area id least most old → KeepsBits area id least most new
keeps_forgets area id least most old new forgets kept = record {
  reserved = kept.reserved ∙ sym forgets.cells;
  blocks = kept.blocks;
  header = each_forgets (λ value. value ≡ header_of area id) (reserved_of area) old new forgets kept.header;
  bits = λ k inside. each_forgets (HasBitsBetween area k least most) (sector_of_bits area k) old new forgets
      (kept.bits k inside);
}

-- where a sector below the reserved ones is written, what a cut may leave stays between its sets
pub keeps_elsewhere : (area : Area) (id : ℕ) (least most : List Bool) (sector : ℕ) (bytes : List ℕ) (cells : List Cell)
    → KeepsBits area id least most cells → sector < reserved_of area
    → KeepsBits area id least most (appended sector bytes cells)
keeps_elsewhere area id least most sector bytes cells kept elsewhere = record {
  reserved = kept.reserved ∙ sym (length-appended sector bytes cells);
  blocks = kept.blocks;
  header = each_written (λ value. value ≡ header_of area id) sector (reserved_of area) bytes cells
      (λ e. absurd (omega arith)) kept.header;
  bits = λ k inside. each_written (HasBitsBetween area k least most) sector (sector_of_bits area k) bytes cells
      (λ e. absurd (omega arith)) (kept.bits k inside);
}

-- the sector that is written has the bits of the frozen blocks
frozen_between : (area : Area) (k : ℕ) (least set : List Bool) → IsWithin least set
    → HasBitsBetween area k least set (sector_of k set)
frozen_between area k least set within = record {
  least_set = λ b at held. bit_written k b set at ∙ within b held;
  set_most = λ b inside at bit. sym (bit_written k b set at) ∙ bit;
}

-- a write of frozen bits leaves what a cut may leave between its sets
pub keeps_written : (area : Area) (id : ℕ) (least set : List Bool) (k : ℕ) (cells : List Cell) → IsWithin least set
    → KeepsBits area id least set cells → KeepsBits area id least set
    (appended (sector_of_bits area k) (sector_of k set) cells)
keeps_written area id least set k cells within kept = record {
  reserved = kept.reserved ∙ sym (length-appended (sector_of_bits area k) (sector_of k set) cells);
  blocks = kept.blocks;
  header = each_written (λ value. value ≡ header_of area id) (sector_of_bits area k) (reserved_of area)
      (sector_of k set) cells (λ e. absurd (omega arith)) kept.header;
  bits = λ j inside. each_written (HasBitsBetween area j least set) (sector_of_bits area k) (sector_of_bits area j)
      (sector_of k set) cells
      (λ e. let same : k ≡ j = omega arith in
      subst (λ i. HasBitsBetween area j least set (sector_of i set)) (sym same)
      (frozen_between area j least set within))
      (kept.bits j inside);
}

-- after the last flush the frozen bits are all that a cut may leave
pub keeps_frozen : (area : Area) (id : ℕ) (least most set : List Bool) (cells : List Cell) → length set ≡ blocks_of area
    → ((k : ℕ) → k < bitmap_sectors_of area → value_at (sector_of_bits area k) cells ≡ sector_of k set)
    → KeepsBits area id least most cells → KeepsBits area id set set (all_flushed cells)
keeps_frozen area id least most set cells long bits kept =
    let after = keeps_forgets area id least most cells (all_flushed cells) (flush_forgets cells) kept in
    record {
      reserved = after.reserved;
      blocks = long;
      header = after.header;
      bits = λ k inside. each_flushed (HasBitsBetween area k set set) (sector_of_bits area k) cells
          (subst (HasBitsBetween area k set set) (sym (bits k inside))
          (frozen_between area k set set (λ b held. held)));
    }

-- where the data of more blocks is durable, a cut leaves no other block than these
pub keeps_more : (area : Area) (id : ℕ) (least most wider : List Bool) (cells : List Cell) → IsWithin most wider
    → KeepsBits area id least most cells → KeepsBits area id least wider cells
keeps_more area id least most wider cells within kept = record {
  reserved = kept.reserved;
  blocks = kept.blocks;
  header = kept.header;
  bits = λ k inside. each_map (HasBitsBetween area k least most) (HasBitsBetween area k least wider)
      (sector_of_bits area k) cells
      (λ value between. record {
        least_set = between.least_set;
        set_most = λ b below at bit. within b
            (between.set_most b below at bit);
      })
      (kept.bits k inside);
}
