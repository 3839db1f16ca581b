-- A step of the drive while the monitor has it, and no dummy read is in flight: the guest sees nothing of it.
use Rattle.std.proofs.Common.{◌≡◌, [], refl}
use Rattle.ata_taskfile.specs.declared.Step.{Step}
use Rattle.ata_taskfile.specs.declared.Stepped.{Stepped}
use Rattle.plain_drive.specs.Plain.{Plain}
use Rattle.port_lease.specs.declared.guest_side.GuestSide.{GuestSide}
use Rattle.port_lease.specs.declared.monitor_side.MonitorSide.{MonitorSide}
use Rattle.dummy_read.specs.declared.dummy.Dummy.{Dummy}
use Rattle.monitor_state.specs.declared.state.Plan.{Plan}
use Rattle.monitor_state.specs.declared.state.State.{State}
use Rattle.monitor_state.specs.declared.state.State.TheVariants.{Guest, Monitor, Running, Raising, Moving}
use Rattle.monitor_state.specs.declared.parts.Parts.{Parts}
use Rattle.monitor_state.specs.GoesOn.{GoesOn}
use Rattle.monitor_state.proofs.SeenSteps.{resting_unseen, running_unseen}
use Rattle.monitor_events.specs.Shown.{HasComeTo}

-- such a step is told by nothing, and the plain drive stays the one that the guest sees
pub unseen_shown : (s : State) (p : Parts) (kind : Step) (effect : Stepped) (old now : Plain)
    → HasComeTo s p kind effect old now → ((side : GuestSide) → s ≡ Guest side → ⊥)
    → ((side : MonitorSide) (dummy : Dummy) (due : Plan) → s ≡ Raising side dummy due → ⊥)
    → GoesOn s p old.device old.memory [] s p now.device now.memory
unseen_shown (Guest side) p kind effect old now come guests raises q shows agree = absurd (guests side refl)
unseen_shown (Monitor side) p kind effect old now come guests raises q shows agree =
    (tt, resting_unseen p kind effect old now q come.stepped side come.fits shows)
unseen_shown (Running side own why) p kind effect old now come guests raises q shows agree =
    (tt, running_unseen p kind effect old now q come.stepped side own why come.fits shows)
unseen_shown (Raising side dummy due) p kind effect old now come guests raises q shows agree =
    absurd (raises side dummy due refl)
unseen_shown Moving p kind effect old now come guests raises q shows agree = absurd come.fits.device
