-- The bytes of the bitmap's sectors: a bit for each block, the lowest bit of a byte first.
use Rattle.std.specs.Prelude.{ℕ, ◌+◌, ◌*◌, ◌/◌, ◌%◌, ◌==◌, Bool, if◌then◌else◌, List, [], ◌∷◌, map, take, drop, slice_index}
use Rattle.std.specs.Int.{bit_at}
use Rattle.std.specs.List.{range_with_len}
use Rattle.fill_bitmap.specs.declared.area.TheConstants.{BLOCKS_OF_SECTOR}
use Rattle.fill_bitmap.specs.declared.lengths.TheConstants.{SECTOR_BYTES}

-- the sector of the bitmap that has the bit of block `b` (own)
abbrev pub sector_with_bit : ℕ → ℕ
sector_with_bit b = b / BLOCKS_OF_SECTOR

-- whether a sector has the bit of block `b` set: bit b mod 8 of byte b / 8, counted over the whole bitmap (own)
abbrev pub has_bit : List ℕ → ℕ → Bool
has_bit sector b = bit_at (slice_index sector (b % BLOCKS_OF_SECTOR / 8)) (b % 8) == 1

-- the byte of these bits, the lowest first; bits that are missing are 0 (own)
abbrev pub byte_of : List Bool → ℕ
byte_of [] = 0
byte_of (bit ∷ bits) = (if bit then 1 else 0) + 2 * byte_of bits

-- the byte of the eight blocks from `b` on; a block past the last has a bit 0 (own)
abbrev pub byte_from : ℕ → List Bool → ℕ
byte_from b set = byte_of (take 8 (drop b set))

-- so many bytes of the blocks from `b` on, in order (own)
unfoldable pub bytes_from : ℕ → ℕ → List Bool → List ℕ
bytes_from n b set = map (λ i. byte_from (b + 8 * i) set) (range_with_len 0 n)

-- the bytes of sector `k` of the bitmap (own)
abbrev pub sector_of : ℕ → List Bool → List ℕ
sector_of k set = bytes_from SECTOR_BYTES (k * BLOCKS_OF_SECTOR) set
