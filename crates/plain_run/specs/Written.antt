-- The sectors that a report's command lines name as written.
use Rattle.std.specs.Prelude.{ℕ, Bool, true, false, not, ◌&&◌, ◌||◌, ◌+◌, nat_lt, Option, Some, None, List, [], ◌∷◌}
use Rattle.ata_taskfile.specs.declared.Form.{Form}
use Rattle.ata_taskfile.specs.declared.Form.TheVariants.{NoMove, PioIn, PioOut, DmaIn, DmaOut}
use Rattle.ata_taskfile.specs.Order.{Row, row_of}
use Rattle.schedule_text.specs.declared.Item.{Item}
use Rattle.schedule_text.specs.declared.Item.TheVariants as item
use Rattle.plain_run.specs.Entry.{Entry}

-- a command whose data goes to the drive (ATA/ATAPI-6, PIO data-out; DMA)
abbrev pub is_outward : Form → Bool
is_outward NoMove = false
is_outward PioIn = false
is_outward PioOut = true
is_outward DmaIn = false
is_outward DmaOut = true

-- a row of the table of commands that is one
abbrev pub row_writes : Option Row → Bool
row_writes None = false
row_writes (Some row) = is_outward row.form

-- a command byte that writes sectors (ATA/ATAPI-6, WRITE SECTOR(S), WRITE DMA)
abbrev pub writes_sectors : ℕ → Bool
writes_sectors byte = row_writes (row_of byte)

-- a sector in a range
abbrev pub is_within : ℕ → ℕ → ℕ → Bool
is_within first count s = not (nat_lt s first) && nat_lt s (first + count)

-- a command line of a write whose range has the sector
abbrev pub names_write : ℕ → Item → Bool
names_write s (item.Command byte first count) = writes_sectors byte && is_within first count s
names_write s other = false

-- one of these items is such a line
abbrev pub items_name : ℕ → List Item → Bool
items_name s [] = false
items_name s (one ∷ items) = names_write s one || items_name s items

-- one of the report's lines is
abbrev pub is_named : ℕ → List Entry → Bool
is_named s [] = false
is_named s (entry ∷ earlier) = items_name s entry.items || is_named s earlier
