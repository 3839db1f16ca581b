-- What no turn asks for again stays so over an access that takes no command.
use Rattle.std.proofs.Common.{◌≡◌, ℕ, true, false, sym, ap, ◌∙◌, subst}
use Rattle.ata_taskfile.specs.declared.Access.{Access}
use Rattle.ata_taskfile.specs.declared.task_file.TaskFile.{TaskFile}
use Rattle.ata_taskfile.specs.Device.{Device}
use Rattle.plain_drive.specs.Alike.{gives_command}
use Rattle.port_lease.specs.declared.guest_side.GuestSide.{GuestSide}
use Rattle.port_lease.specs.declared.monitor_side.MonitorSide.{MonitorSide}
use Rattle.port_lease.specs.declared.view.View.{View}
use Rattle.port_lease.specs.Free.{shows_rest}
use Rattle.port_lease.specs.Sides.{view_held}
use Rattle.guest_view.specs.Fits.{FitsView}
use Rattle.guest_view.specs.View.{is_reset}
use Rattle.monitor_state.specs.declared.state.State.{State}
use Rattle.monitor_state.specs.declared.state.State.TheVariants.{Guest, Monitor}
use Rattle.monitor_state.specs.declared.parts.Parts.{Parts}
use Rattle.monitor_state.specs.Accessed.{IsAccessed}
use Rattle.monitor_state.specs.Hand.{HasInHand}
use Rattle.monitor_state.specs.Pieces.{tidied}
use Rattle.monitor_state.specs.Requests.{AccessKeepsRequests, IsPastIn}
use Rattle.monitor_state.proofs.Behind.{viewed_past}
use Rattle.monitor_access.proofs.Sources.{calmed_takes}
use Rattle.monitor_access.proofs.Taking.{rests_idle}

-- on the monitor's side
pub viewed_requests : (a : Access) (old new : MonitorSide) (p r : Parts) → FitsView (view_held old) p.area.sectors
    → is_reset a ≡ false → HasInHand (view_held old).file.phase (view_held old) p
    → IsAccessed a p.area.sectors old new → r ≡ tidied (view_held new).file.phase p
    → gives_command a (view_held old).file ≡ false → (tag : ℕ) → IsPastIn (view_held old).file.phase p tag
    → IsPastIn (view_held new).file.phase r tag
viewed_requests a old new p r fits runs has is parts none tag past =
    subst (λ (q : Parts). IsPastIn (view_held new).file.phase q tag) (sym parts)
    (subst (λ (v : View). IsPastIn v.file.phase (tidied v.file.phase p) tag) (sym is.view)
    (viewed_past a p.area.sectors (view_held old) p tag fits runs none has past))

-- the drive is taken first, and the view has the command
pub taken_requests : (a : Access) (old : GuestSide) (new : MonitorSide) (t : State) (p r : Parts) (d n : Device)
    (command : ℕ) → shows_rest d.file ≡ true
    → (view_held new).file ≡ record d.file { pending = false; command = command }
    → AccessKeepsRequests a (Monitor new) p n t r → AccessKeepsRequests a (Guest old) p d t r
taken_requests a old new t p r d n command rests file keeps none tag was =
    keeps (ap (gives_command a) file ∙ calmed_takes a d.file command ∙ none) tag
    (subst (λ phase. IsPastIn phase p tag)
    (sym (ap (λ (f : TaskFile). f.phase) file ∙ rests_idle d.file rests)) tt)
