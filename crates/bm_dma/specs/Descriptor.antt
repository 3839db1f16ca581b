-- One descriptor of the table: 4 bytes of base, 2 bytes of count and a word with the mark of the end, each lowest
-- byte first.
use Rattle.std.specs.Prelude.{ℕ, zero, suc, ◌+◌, ◌-◌, ◌%◌, ◌==◌, Bool, not, ◌&&◌, nat_le, bit_and, List, ◌++◌, length, take, drop}
use Rattle.std.specs.List.{range_with_len}
use Rattle.byteorder.specs.Endian.{little_number}
use Rattle.ata_taskfile.specs.declared.registers.TheConstants.{SECTOR_BYTES}
use Rattle.bm_dma.specs.declared.descriptor.Descriptor.{Descriptor}
use Rattle.bm_dma.specs.declared.descriptor.TheConstants.{END_OF_TABLE}

-- how many bytes a count means: 0 means 65,536 (Bus Master IDE 1.0, descriptor table)
abbrev pub bytes_meant : ℕ → ℕ
bytes_meant zero = 65536
bytes_meant (suc n) = suc n

-- the descriptor in the first 8 of these bytes (Bus Master IDE 1.0, descriptor table)
abbrev pub descriptor_in : List ℕ → Descriptor
descriptor_in bytes = record {
  base = little_number 4 bytes;
  count = bytes_meant (little_number 2 (drop 4 bytes));
  is_last = not (bit_and (little_number 2 (drop 6 bytes)) END_OF_TABLE == 0);
}

-- not bad: base and count are even (Bus Master IDE 1.0, descriptor table), and its bytes are all in a memory of so
-- many (own)
abbrev pub is_good : Descriptor → ℕ → Bool
is_good d size = (d.base % 2 == 0) && ((d.count % 2 == 0) && nat_le (d.base + d.count) size)

-- the places of a descriptor, in order; that they cross 64 KiB doesn't matter (own)
abbrev pub places_of : Descriptor → List ℕ
places_of d = range_with_len d.base d.count

-- the places of a sector that were found, and those that a descriptor has for it behind its first `skipped`
abbrev pub with_piece : Descriptor → ℕ → List ℕ → List ℕ
with_piece d skipped found =
    found ++ take (SECTOR_BYTES - length found) (drop skipped (places_of d))
