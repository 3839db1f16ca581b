-- A step of the drive leaves client, bitmap and opening as they are.
use Rattle.std.proofs.Common.{◌≡◌, Bool, true, false, if◌then◌else◌, refl, ap}
use Rattle.ata_taskfile.specs.Device.{Device}
use Rattle.monitor_state.specs.declared.state.State.{State}
use Rattle.monitor_state.specs.declared.state.State.TheVariants.{Guest, Monitor, Running, Raising, Moving}
use Rattle.monitor_state.specs.declared.state.Plan.{Plan}
use Rattle.monitor_state.specs.declared.parts.Parts.{Parts}
use Rattle.monitor_access.specs.Parts.{KeepsOthers}
use Rattle.monitor_events.specs.Stepping.{parts_after_step, parts_planned}

raised_others : (pends : Bool) (planned : Plan) (p : Parts)
    → KeepsOthers p (if pends then parts_planned planned p else p)
raised_others true planned p = refl
raised_others false planned p = refl

pub stepped_others : (s : State) (d : Device) (p : Parts) → KeepsOthers p (parts_after_step s d p)
stepped_others (Guest side) d p = refl
stepped_others (Monitor side) d p = refl
stepped_others (Running side own why) d p = refl
stepped_others (Raising side dummy planned) d p = raised_others d.file.pending planned p
stepped_others Moving d p = refl

pub stepped_client : (s : State) (d : Device) (p : Parts) → (parts_after_step s d p).client ≡ p.client
stepped_client s d p = ap (λ q. q.client) (stepped_others s d p)
