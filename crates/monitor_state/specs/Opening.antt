-- What is left of opening: a number that each turn lowers at which the drive isn't at work.
use Rattle.std.specs.Prelude.{ℕ, ◌≡◌, ◌+◌, ◌-◌, ◌*◌, false, if◌then◌else◌, IfSome}
use Rattle.ata_taskfile.specs.declared.registers.TheConstants.{ERR}
use Rattle.ata_taskfile.specs.TaskFile.{has_bit, status}
use Rattle.ata_taskfile.specs.Device.{Device}
use Rattle.fill_store.specs.Opening.{jobs_of_opening, next_in_opening}
use Rattle.fill_store.specs.Sectors.{IsOnKept}
use Rattle.own_pio.specs.declared.own.Own.{Own}
use Rattle.own_pio.specs.Own.{polls_left}
use Rattle.monitor_state.specs.declared.state.State.{State}
use Rattle.monitor_state.specs.declared.state.State.TheVariants.{Guest, Monitor, Running, Raising, Moving}
use Rattle.monitor_state.specs.declared.parts.Parts.{Parts}
use Rattle.monitor_state.specs.State.{is_opened}

-- what is left of a command that stands: its polls, or 5 where it has failed on the drive, and is begun again (own)
abbrev pub left_of_command : Own → Device → ℕ
left_of_command own d = if has_bit ERR (status d.file) then 5 else polls_left own

-- what is left of opening: 4 for each job, but for the one whose command stands (own)
abbrev pub opening_left : State → Parts → Device → ℕ
opening_left (Guest side) p d = 4 * jobs_of_opening p.opening
opening_left (Monitor side) p d = 4 * jobs_of_opening p.opening
opening_left (Running side own why) p d =
    4 * (jobs_of_opening p.opening - 1) + left_of_command own d
opening_left (Raising side dummy plan) p d = 4 * jobs_of_opening p.opening
opening_left Moving p d = 4 * jobs_of_opening p.opening

-- the next job of opening, if there is one, is on the sectors that the monitor keeps
abbrev pub OpensOnKept : Parts → Type 0
OpensOnKept p = IfSome (next_in_opening p.opening) (IsOnKept p.opening.area)

-- from one state to the next as much is left of opening, where it hadn't ended, and the drive shows what it showed
abbrev pub OpeningStays : State → Parts → Device → State → Parts → Device → Type 0
OpeningStays s p d t q e = is_opened p ≡ false
    → (opening_left t q e ≡ opening_left s p d) × (status e.file ≡ status d.file)
