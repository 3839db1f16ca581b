-- Which order a command byte gives over the registers that it reads, on a drive of so many sectors.
use Rattle.std.specs.Prelude.{ℕ, Bool, true, false, ◌||◌, ◌==◌, ◌+◌, ◌*◌, ◌%◌, if◌then◌else◌, nat_lt, slice_index, List, Option, Some, None, Result, Ok, Err}
use Rattle.ata_taskfile.specs.declared.Kind.{Kind}
use Rattle.ata_taskfile.specs.declared.Kind.TheVariants.{Read, Write, Verify, Flush, Identify, Features}
use Rattle.ata_taskfile.specs.declared.Form.{Form}
use Rattle.ata_taskfile.specs.declared.Form.TheVariants.{NoMove, PioIn, PioOut, DmaIn, DmaOut}
use Rattle.ata_taskfile.specs.declared.Refused.{Refused}
use Rattle.ata_taskfile.specs.declared.Refused.TheVariants.{Abort, NotFound}
use Rattle.ata_taskfile.specs.declared.Request.{Request}
use Rattle.ata_taskfile.specs.declared.Taken.{Taken}
use Rattle.ata_taskfile.specs.declared.Taken.TheVariants.{Good, Bad}
use Rattle.ata_taskfile.specs.declared.task_file.TaskFile.{TaskFile}
use Rattle.ata_taskfile.specs.TaskFile.{has_bit}
use Rattle.ata_taskfile.specs.declared.registers.TheConstants.{LBA, READ_SECTORS, READ_SECTORS_EXT, READ_DMA, READ_DMA_EXT, WRITE_SECTORS, WRITE_SECTORS_EXT, WRITE_DMA, WRITE_DMA_EXT, READ_VERIFY, READ_VERIFY_EXT, FLUSH_CACHE, FLUSH_CACHE_EXT, IDENTIFY_DEVICE, SET_FEATURES, ENABLE_WRITE_CACHE, SET_TRANSFER_MODE}

-- the registers that a command reads (ATA/ATAPI-6, inputs of a command)
pub record Inputs : Type 0 where
  pub features : ℕ
  pub count : List ℕ
  pub low : List ℕ
  pub mid : List ℕ
  pub high : List ℕ
  pub device : ℕ

-- the inputs that stand in the registers
abbrev pub inputs : TaskFile → Inputs
inputs f = record {
  features = f.features;
  count = f.count;
  low = f.low;
  mid = f.mid;
  high = f.high;
  device = f.device;
}

-- a row of the table of commands
pub record Row : Type 0 where
  pub kind : Kind
  pub form : Form
  pub extended : Bool

-- a row that addresses in 28 bits, or has no address
abbrev pub narrow : Kind → Form → Option Row
narrow kind form = Some (record { kind = kind; form = form; extended = false })

-- a row that addresses in 48 bits
abbrev pub wide : Kind → Form → Option Row
wide kind form = Some (record { kind = kind; form = form; extended = true })

-- the row of a command byte, where the table has one (ATA/ATAPI-6, command descriptions;
-- own: which commands there are)
abbrev pub row_of : ℕ → Option Row
row_of byte =
    if byte == READ_SECTORS then narrow Read PioIn else
    if byte == READ_SECTORS_EXT then wide Read PioIn else
    if byte == READ_DMA then narrow Read DmaIn else
    if byte == READ_DMA_EXT then wide Read DmaIn else
    if byte == WRITE_SECTORS then narrow Write PioOut else
    if byte == WRITE_SECTORS_EXT then wide Write PioOut else
    if byte == WRITE_DMA then narrow Write DmaOut else
    if byte == WRITE_DMA_EXT then wide Write DmaOut else
    if byte == READ_VERIFY then narrow Verify NoMove else
    if byte == READ_VERIFY_EXT then wide Verify NoMove else
    if byte == FLUSH_CACHE then narrow Flush NoMove else
    if byte == FLUSH_CACHE_EXT then wide Flush NoMove else
    if byte == IDENTIFY_DEVICE then narrow Identify PioIn else
    if byte == SET_FEATURES then narrow Features NoMove else
    None

-- a kind of command that names sectors
abbrev pub has_range : Kind → Bool
has_range Read = true
has_range Write = true
has_range Verify = true
has_range Flush = false
has_range Identify = false
has_range Features = false

-- the first sector in 28 bits: the current bytes, and Device's low four bits
-- (ATA/ATAPI-6, 28-bit addressing)
abbrev pub first_28 : Inputs → ℕ
first_28 i =
    slice_index i.low 0 + 256 * slice_index i.mid 0 + 65536 * slice_index i.high 0
    + 16777216 * (i.device % 16)

-- the first sector in 48 bits: the current bytes, and above them the previous ones
-- (ATA/ATAPI-6, 48-bit Address feature set)
abbrev pub first_48 : Inputs → ℕ
first_48 i =
    slice_index i.low 0 + 256 * slice_index i.mid 0 + 65536 * slice_index i.high 0
    + 16777216 * slice_index i.low 1 + 4294967296 * slice_index i.mid 1
    + 1099511627776 * slice_index i.high 1

-- a count as it is written, where 0 means this number, which the register can't say
abbrev pub count_or : ℕ → ℕ → ℕ
count_or most n = if n == 0 then most else n

-- a count of 8 bits, where 0 means 256 (ATA/ATAPI-6, READ SECTOR(S))
abbrev pub count_8 : Inputs → ℕ
count_8 i = count_or 256 (slice_index i.count 0)

-- a count of 16 bits, where 0 means 65,536 (ATA/ATAPI-6, READ SECTOR(S) EXT)
abbrev pub count_16 : Inputs → ℕ
count_16 i = count_or 65536 (slice_index i.count 0 + 256 * slice_index i.count 1)

-- the first sector of a command with a range, by whether it is extended
abbrev pub first_named : Bool → Inputs → ℕ
first_named false i = first_28 i
first_named true i = first_48 i

-- how many sectors a command with a range names, by whether it is extended
abbrev pub count_named : Bool → Inputs → ℕ
count_named false i = count_8 i
count_named true i = count_16 i

-- the first sector of a row's request: 0 without a range (own)
abbrev pub first_in : Row → Inputs → ℕ
first_in row i = if has_range row.kind then first_named row.extended i else 0

-- the count of a command without a range: 1 for IDENTIFY DEVICE, whose block is one (own)
abbrev pub count_without_range : Kind → ℕ
count_without_range Read = 0
count_without_range Write = 0
count_without_range Verify = 0
count_without_range Flush = 0
count_without_range Identify = 1
count_without_range Features = 0

-- the count of a row's request
abbrev pub count_in : Row → Inputs → ℕ
count_in row i =
    if has_range row.kind then count_named row.extended i else count_without_range row.kind

-- what a row asks for over the registers
abbrev pub request_of : Row → Inputs → Request
request_of row i = record {
  kind = row.kind;
  form = row.form;
  extended = row.extended;
  first = first_in row i;
  count = count_in row i;
}

-- LBA is 1, as each 28-bit command with a range wants it (own: no other addressing)
abbrev pub names_sectors : Inputs → Bool
names_sectors i = has_bit LBA i.device

-- a subcommand of SET FEATURES that is accepted (ATA/ATAPI-6, SET FEATURES; own: these two, with any
-- Count)
abbrev pub has_feature : Inputs → Bool
has_feature i = (i.features == ENABLE_WRITE_CACHE) || (i.features == SET_TRANSFER_MODE)

-- the registers are such as a command of this kind wants them
abbrev pub is_accepted : Kind → Bool → Inputs → Bool
is_accepted Read extended i = extended || names_sectors i
is_accepted Write extended i = extended || names_sectors i
is_accepted Verify extended i = extended || names_sectors i
is_accepted Flush extended i = true
is_accepted Identify extended i = true
is_accepted Features extended i = has_feature i

-- a range that the drive holds, else the refusal (ATA/ATAPI-6, IDNF bit)
abbrev pub within : ℕ → Request → Result Request Refused
within sectors request =
    if nat_lt sectors (request.first + request.count) then Err NotFound else Ok request

-- the order of a row: its refusals in their order, else its request (ATA/ATAPI-6, ABRT bit)
abbrev pub order_in : Option Row → Inputs → ℕ → Result Request Refused
order_in None i sectors = Err Abort
order_in (Some row) i sectors =
    if is_accepted row.kind row.extended i then within sectors (request_of row i) else Err Abort

-- the order of a command byte over the registers, on a drive of so many sectors
abbrev pub order_of : ℕ → Inputs → ℕ → Result Request Refused
order_of byte i sectors = order_in (row_of byte) i sectors

-- an order as the drive keeps it
abbrev pub taken : Result Request Refused → Taken
taken (Ok request) = Good request
taken (Err reason) = Bad reason
