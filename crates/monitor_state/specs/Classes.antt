-- What the monitor makes of the guest's commands.
use Rattle.std.specs.Prelude.{Bool, true, false}
use Rattle.ata_taskfile.specs.declared.Taken.{Taken}
use Rattle.ata_taskfile.specs.declared.Taken.TheVariants.{Good, Bad}
use Rattle.ata_taskfile.specs.declared.Phase.{Phase}
use Rattle.ata_taskfile.specs.declared.Phase.TheVariants.{Reset, Idle, Busy, Ready}
use Rattle.io_interpret.specs.declared.class.Class.{Class}
use Rattle.io_interpret.specs.declared.class.Class.TheVariants.{Local, Redirected, FillFirst, Settle, Reserved, Other}
use Rattle.io_interpret.specs.Class.{class_of_request}
use Rattle.monitor_state.specs.declared.parts.Parts.{Parts}

-- the class of an order; a refused one's is Other
abbrev pub class_of_order : Taken → Parts → Class
class_of_order (Good request) p = class_of_request request p.area p.bitmap
class_of_order (Bad reason) p = Other

-- the classes that the monitor refuses: of commands that name a reserved sector, or, for now, write to an empty block
-- (own)
abbrev pub is_refused_class : Class → Bool
is_refused_class Local = false
is_refused_class Redirected = false
is_refused_class FillFirst = true
is_refused_class Settle = false
is_refused_class Reserved = true
is_refused_class Other = false

-- an order that the monitor refuses
abbrev pub is_refused : Taken → Parts → Bool
is_refused order p = is_refused_class (class_of_order order p)

-- the classes whose commands the drive gets; a flush too, as long as no block is filled that isn't stored (own)
abbrev pub is_drives_class : Class → Bool
is_drives_class Local = true
is_drives_class Redirected = false
is_drives_class FillFirst = false
is_drives_class Settle = true
is_drives_class Reserved = false
is_drives_class Other = true

-- the order in hand in a phase, if there is one, is one that the drive gets
abbrev pub is_drives_in : Phase → Parts → Bool
is_drives_in Reset p = true
is_drives_in Idle p = true
is_drives_in (Busy order done) p = is_drives_class (class_of_order order p)
is_drives_in (Ready order done left) p = is_drives_class (class_of_order order p)
