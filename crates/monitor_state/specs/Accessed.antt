-- The monitor's side after an access of the guest's.
use Rattle.std.specs.Prelude.{ℕ, ◌≡◌}
use Rattle.ata_taskfile.specs.declared.Access.{Access}
use Rattle.port_lease.specs.declared.monitor_side.MonitorSide.{MonitorSide}
use Rattle.port_lease.specs.Sides.{has_own, view_held}
use Rattle.guest_view.specs.View.{view_after}

-- an access was made on the monitor's side, beside a drive of so many sectors
pub record IsAccessed (a : Access) (sectors : ℕ) (old new : MonitorSide) : Type 0 where
  pub view : view_held new ≡ view_after a sectors (view_held old)
  pub own : has_own new ≡ has_own old
