-- What a turn makes of what is left of opening.
use Rattle.std.specs.Prelude.{◌<◌, ◌≤◌, ◌≡◌, false}
use Rattle.ata_taskfile.specs.declared.registers.TheConstants.{BSY}
use Rattle.ata_taskfile.specs.TaskFile.{has_bit, status}
use Rattle.ata_taskfile.specs.Device.{Device}
use Rattle.monitor_state.specs.declared.state.State.{State}
use Rattle.monitor_state.specs.declared.parts.Parts.{Parts}
use Rattle.monitor_state.specs.Opening.{opening_left}
use Rattle.monitor_state.specs.State.{is_opened}

-- from one state to the next less is left of opening, where it hadn't ended and the drive wasn't at work
abbrev pub OpeningFalls : State → Parts → Device → State → Parts → Device → Type 0
OpeningFalls s p d t q e = is_opened p ≡ false → has_bit BSY (status d.file) ≡ false
    → opening_left t q e < opening_left s p d

-- from one state to the next no more is left of opening, where it hadn't ended
abbrev pub OpeningHolds : State → Parts → Device → State → Parts → Device → Type 0
OpeningHolds s p d t q e = is_opened p ≡ false → opening_left t q e ≤ opening_left s p d
