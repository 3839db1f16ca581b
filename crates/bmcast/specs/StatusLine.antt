-- The line on Console that tells a status.
use Rattle.std.specs.Prelude.{ℕ, ◌++◌, List, [], ◌∷◌, codes, decimal}
use Rattle.bm_host.specs.declared.Role.{Role}
use Rattle.bm_host.specs.declared.Role.TheVariants as role
use Rattle.schedule_text.specs.declared.LineFault.{LineFault}
use Rattle.schedule_text.specs.declared.LineFault.TheVariants as fault
use Rattle.bmcast.specs.declared.Why.{Why}
use Rattle.bmcast.specs.declared.Why.TheVariants as why
use Rattle.bmcast.specs.declared.Status.{Status}
use Rattle.bmcast.specs.declared.Status.TheVariants as status

-- a reason's name
abbrev pub why_name : Why → List ℕ
why_name why.ImageLength = codes "ImageLength"
why_name why.DiskLength = codes "DiskLength"
why_name why.TooSmall = codes "TooSmall"
why_name why.TooLarge = codes "TooLarge"
why_name why.AlreadyBegun = codes "AlreadyBegun"
why_name why.NotBegun = codes "NotBegun"

-- a line fault's name
abbrev pub fault_name : LineFault → List ℕ
fault_name fault.LongLine = codes "LongLine"
fault_name fault.Form = codes "Form"
fault_name fault.Number = codes "Number"
fault_name fault.TooMany = codes "TooMany"
fault_name fault.NoEnd = codes "NoEnd"
fault_name fault.Trailing = codes "Trailing"

-- a role's name
abbrev pub role_name : Role → List ℕ
role_name role.Image = codes "Image"
role_name role.Disk = codes "Disk"
role_name role.Schedule = codes "Schedule"
role_name role.Report = codes "Report"
role_name role.Out = codes "Out"
role_name role.Console = codes "Console"

-- what the line says of a status (own)
abbrev pub status_text : Status → List ℕ
status_text status.Done = []
status_text status.Usage = codes "the words are not a command line of this program"
status_text (status.Unsuitable reason) = codes "unsuitable: " ++ why_name reason
status_text (status.BadLine number kind) =
    codes "line " ++ decimal number ++ codes ": " ++ fault_name kind
status_text (status.ReadFault failed) = codes "cannot read " ++ role_name failed
status_text (status.WriteFault failed) = codes "cannot write " ++ role_name failed
status_text status.NoMemory = codes "no memory"

-- the line of a status that isn't Done, with its line feed (10)
abbrev pub line_with : List ℕ → List ℕ
line_with text = codes "bmcast: " ++ text ++ 10 ∷ []

-- the line of a status; Done has none
abbrev pub status_line : Status → List ℕ
status_line status.Done = []
status_line other = line_with (status_text other)
