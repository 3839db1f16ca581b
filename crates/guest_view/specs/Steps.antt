-- The steps of the view's own, by which the monitor ends what the guest waits for.
use Rattle.std.specs.Prelude.{◌≡◌, ℕ, if◌then◌else◌}
use Rattle.ata_taskfile.specs.declared.Refused.{Refused}
use Rattle.ata_taskfile.specs.declared.Request.{Request}
use Rattle.ata_taskfile.specs.declared.Taken.TheVariants.{Good}
use Rattle.ata_taskfile.specs.declared.Phase.TheVariants.{Idle, Ready}
use Rattle.ata_taskfile.specs.declared.registers.TheConstants.{BLOCK_WORDS}
use Rattle.ata_taskfile.specs.TaskFile.{line, reset_ended, refused, interrupted_in, ended_failed}
use Rattle.ata_taskfile.specs.Bus.{walk_ended, raised}
use Rattle.ata_taskfile.specs.Device.{Device}
use Rattle.plain_drive.specs.Step.{failure_bit, failure_shown}
use Rattle.port_lease.specs.declared.view.View.{View}
use Rattle.port_lease.specs.View.{uses_bus}
use Rattle.guest_view.specs.View.{view_with_file}

-- the view whose reset has ended
abbrev pub after_reset : View → View
after_reset v = view_with_file (reset_ended v.file) v

-- the view in which a block of an order waits in Data, and an interrupt pends (ATA/ATAPI-6, PIO data-in)
abbrev pub after_offer : Request → ℕ → View → View
after_offer order done v =
    view_with_file (interrupted_in (Ready (Good order) done BLOCK_WORDS) v.file) v

-- the view whose command has ended as a refused one does; a walk goes on (own)
abbrev pub after_refusal : Refused → View → View
after_refusal reason v = view_with_file (refused reason v.file) v

-- the view without the walk of its command, where the bus master moves that; active stays (own)
abbrev pub view_without_walk : View → View
view_without_walk v = record v { bus = if uses_bus v then walk_ended v.bus else v.bus }

-- the view whose command has ended well, with its walk; an interrupt pends
abbrev pub after_finish : View → View
after_finish v = view_with_file (interrupted_in Idle v.file) (view_without_walk v)

-- the view whose order has failed, with its walk: its Error, its sector, and an interrupt pends
abbrev pub after_failure : Request → ℕ → View → View
after_failure order done v =
    view_with_file (ended_failed (failure_bit order.kind) (failure_shown order done v.file))
    (view_without_walk v)

-- while the view went from one to the other the drive did so too: the lines are the same before and after, and
-- the drive's bus master has noted a rise
pub record FollowsLine (v w : View) (d e : Device) : Type 0 where
  pub before : line d.file ≡ line v.file
  pub after : line e.file ≡ line w.file
  pub bus : e.bus ≡ raised (line d.file) (line e.file) d.bus
