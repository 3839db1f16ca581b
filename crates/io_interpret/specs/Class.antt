-- The class of a guest's command: the table of docs/monitor.md, a line or two for each kind of command.
use Rattle.std.specs.Prelude.{◌+◌, Bool, if◌then◌else◌, nat_lt, Result, Ok, Err}
use Rattle.std.specs.Cmp.Lexicographic.{pointwise}
use Rattle.std.proofs.Math.Bool.{beq}
use Rattle.ata_taskfile.specs.declared.Kind.{Kind}
use Rattle.ata_taskfile.specs.declared.Kind.TheVariants.{Read, Write, Verify, Flush, Identify, Features}
use Rattle.ata_taskfile.specs.declared.Refused.{Refused}
use Rattle.ata_taskfile.specs.declared.Request.{Request}
use Rattle.fill_bitmap.specs.declared.area.Area.{Area}
use Rattle.fill_bitmap.specs.Area.{reserved_of}
use Rattle.fill_bitmap.specs.Bitmap.{Sets}
use Rattle.io_interpret.specs.declared.class.Class.{Class}
use Rattle.io_interpret.specs.declared.class.Class.TheVariants.{Local, Redirected, FillFirst, Settle, Reserved, Other}
use Rattle.io_interpret.specs.Blocks.{touches_empty}

-- nothing is to be settled: the filled blocks are the stored ones
abbrev pub is_settled : Sets → Bool
is_settled sets = pointwise beq sets.filled sets.stored

-- the range has the first reserved sector, or one above it (own)
abbrev pub reaches_reserved : Request → Area → Bool
reaches_reserved request area = nat_lt (reserved_of area) (request.first + request.count)

-- the range has a sector in an empty block
abbrev pub touches : Request → Area → Sets → Bool
touches request area sets = touches_empty area sets.filled request.first request.count

-- the class of a command with a range: Reserved where that reaches the reserved sectors, else this one
abbrev pub unless_reserved : Request → Area → Class → Class
unless_reserved request area class = if reaches_reserved request area then Reserved else class

-- the class of a request by its kind (own)
abbrev pub class_of_kind : Kind → Request → Area → Sets → Class
class_of_kind Identify request area sets = Other
class_of_kind Features request area sets = Other
class_of_kind Flush request area sets = if is_settled sets then Local else Settle
class_of_kind Verify request area sets = unless_reserved request area Local
class_of_kind Read request area sets =
    unless_reserved request area (if touches request area sets then Redirected else Local)
class_of_kind Write request area sets =
    unless_reserved request area (if touches request area sets then FillFirst else Local)

-- the class of a request
abbrev pub class_of_request : Request → Area → Sets → Class
class_of_request request area sets = class_of_kind request.kind request area sets

-- the class of an order: a refused command's is Other (own)
abbrev pub class_of : Result Request Refused → Area → Sets → Class
class_of (Err reason) area sets = Other
class_of (Ok request) area sets = class_of_request request area sets
