-- What an access makes of the parts.
use Rattle.std.specs.Prelude.{ℕ, ◌≡◌, List}
use Rattle.ata_taskfile.specs.Device.{Device}
use Rattle.port_lease.specs.Sides.{view_held}
use Rattle.monitor_state.specs.declared.state.State.{State}
use Rattle.monitor_state.specs.declared.state.State.TheVariants.{Guest, Monitor, Running, Raising, Moving}
use Rattle.monitor_state.specs.declared.parts.Parts.{Parts}
use Rattle.monitor_state.specs.Buffered.{HasBuffers}
use Rattle.monitor_state.specs.Pieces.{tidied}

-- the parts after an access that leads to a state: on the monitor's side what is no longer in hand is let go
abbrev pub parts_after : State → Parts → Parts
parts_after (Guest side) p = p
parts_after (Monitor side) p = tidied (view_held side).file.phase p
parts_after (Running side own why) p = tidied (view_held side).file.phase p
parts_after (Raising side dummy planned) p = tidied (view_held side).file.phase p
parts_after Moving p = p

-- nothing else changed: bitmap, opening and client are as they were
abbrev pub KeepsOthers : Parts → Parts → Type 0
KeepsOthers old new = new ≡ record old { held = new.held; hand = new.hand; pool = new.pool }

-- the buffers go on to hold what they held, of each plain drive's sectors and over each image
abbrev pub GoesOnHolding : State → Parts → Device → State → Parts → Device → Type 0
GoesOnHolding s p d t r e = (image : List (List ℕ)) (g : Device) → HasBuffers image s p d g
    → HasBuffers image t r e g
