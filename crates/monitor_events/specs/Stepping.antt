-- What a step of the drive means to the guest, by who has the drive.
use Rattle.std.specs.Prelude.{Bool, true, false, if◌then◌else◌, Option, Some, None}
use Rattle.ata_taskfile.specs.declared.Refused.TheVariants.{NotFound}
use Rattle.ata_taskfile.specs.declared.Step.{Step}
use Rattle.ata_taskfile.specs.declared.Step.TheVariants as step
use Rattle.ata_taskfile.specs.declared.Stepped.{Stepped}
use Rattle.ata_taskfile.specs.declared.Stepped.TheVariants.{Changed, Nothing}
use Rattle.ata_taskfile.specs.declared.Taken.TheVariants.{Good}
use Rattle.ata_taskfile.specs.declared.Phase.{Phase}
use Rattle.ata_taskfile.specs.declared.Phase.TheVariants.{Busy}
use Rattle.ata_taskfile.specs.Device.{Device}
use Rattle.port_lease.specs.declared.view.View.{View}
use Rattle.port_lease.specs.Sides.{view_held}
use Rattle.dummy_read.specs.Flight.{ended}
use Rattle.guest_view.specs.Steps.{after_failure, after_finish, after_offer, after_refusal}
use Rattle.schedule_text.specs.declared.Item.{Item}
use Rattle.schedule_text.specs.declared.Item.TheVariants as item
use Rattle.monitor_state.specs.declared.state.State.{State}
use Rattle.monitor_state.specs.declared.state.State.TheVariants.{Guest, Monitor, Running, Raising, Moving}
use Rattle.monitor_state.specs.declared.state.Plan.{Plan}
use Rattle.monitor_state.specs.declared.state.Plan.TheVariants as plan
use Rattle.monitor_state.specs.declared.held.Hand.{Hand}
use Rattle.monitor_state.specs.declared.parts.Parts.{Parts}
use Rattle.monitor_state.specs.State.{view_of}
use Rattle.monitor_state.specs.Pieces.{no_hand}

-- the plan line of a step of the guest's own drive: none where it had no effect
abbrev pub plan_of_step : Step → Stepped → Option Item
plan_of_step kind Nothing = None
plan_of_step step.Good Changed = Some (item.Go 1)
plan_of_step step.Bad Changed = Some item.Bad

-- the plan line of the step that was planned for the view: a failing one where the monitor's work failed, else a good
-- one (own)
abbrev pub item_planned : Plan → Item
item_planned plan.Serve = item.Go 1
item_planned plan.End = item.Go 1
item_planned plan.Fail = item.Bad
item_planned plan.Reserved = item.Go 1

-- the step that was planned for a view, in its phase: a block is offered, or the command ends, fails or is refused
abbrev pub planned_in : Plan → Phase → View → View
planned_in plan.Serve (Busy (Good order) done) v = after_offer order done v
planned_in plan.End phase v = after_finish v
planned_in plan.Fail (Busy (Good order) done) v = after_failure order done v
planned_in plan.Reserved phase v = after_refusal NotFound v
planned_in other phase v = v

-- the view after the step that was planned for it
abbrev pub view_planned : Plan → View → View
view_planned planned v = planned_in planned v.file.phase v

-- what is in hand after it: nothing of a read once it has ended or failed; of a refused command nothing was
abbrev pub hand_after : Plan → Hand → Hand
hand_after plan.Serve hand = hand
hand_after plan.End hand = no_hand
hand_after plan.Fail hand = no_hand
hand_after plan.Reserved hand = hand

-- the parts after it
abbrev pub parts_planned : Plan → Parts → Parts
parts_planned planned p = record p { hand = hand_after planned p.hand }

-- the plan line of a dummy read: that of the planned step, once the interrupt is there
abbrev pub plan_of_dummy : Plan → Device → Option Item
plan_of_dummy planned d = if d.file.pending then Some (item_planned planned) else None

-- a dummy read whose interrupt is there ends
abbrev pub ends_dummy : State → Device → Bool
ends_dummy (Guest side) d = false
ends_dummy (Monitor side) d = false
ends_dummy (Running side own why) d = false
ends_dummy (Raising side dummy planned) d = d.file.pending
ends_dummy Moving d = false

-- the plan line that is due once the drive made a step: of each that had an effect while the guest has the drive, and
-- of the one by which a dummy read's interrupt came (own)
abbrev pub plan_due_of : State → Step → Stepped → Device → Option Item
plan_due_of (Guest side) kind effect d = plan_of_step kind effect
plan_due_of (Monitor side) kind effect d = None
plan_due_of (Running side own why) kind effect d = None
plan_due_of (Raising side dummy planned) kind effect d = plan_of_dummy planned d
plan_due_of Moving kind effect d = None

-- the view after that
abbrev pub view_after_step : State → Device → View
view_after_step (Guest side) d = view_of (Guest side)
view_after_step (Monitor side) d = view_of (Monitor side)
view_after_step (Running side own why) d = view_of (Running side own why)
view_after_step (Raising side dummy planned) d =
    if d.file.pending then view_planned planned (view_held side) else view_held side
view_after_step Moving d = view_of Moving

-- the parts after that
abbrev pub parts_after_step : State → Device → Parts → Parts
parts_after_step (Guest side) d p = p
parts_after_step (Monitor side) d p = p
parts_after_step (Running side own why) d p = p
parts_after_step (Raising side dummy planned) d p =
    if d.file.pending then parts_planned planned p else p
parts_after_step Moving d p = p

-- the drive after that: the words of a dummy read that ends are taken, and its interrupt is the guest's
abbrev pub device_after_step : State → Device → Device
device_after_step s d = if ends_dummy s d then ended false d else d

-- the monitor has the drive, and no command of its own stands
abbrev pub is_resting_state : State → Bool
is_resting_state (Guest side) = false
is_resting_state (Monitor side) = true
is_resting_state (Running side own why) = false
is_resting_state (Raising side dummy planned) = false
is_resting_state Moving = false
