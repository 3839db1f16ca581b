-- What contracts see of the sides.
use Rattle.std.specs.Prelude.{Bool}
use Rattle.ata_taskfile.specs.TaskFile.{power_on}
use Rattle.ata_taskfile.specs.Bus.{idle_bus}
use Rattle.port_lease.specs.declared.view.View.{View}
use Rattle.port_lease.specs.declared.guest_side.GuestSide.{GuestSide}
use Rattle.port_lease.specs.declared.monitor_side.MonitorSide.{MonitorSide}

-- the view that the guest's side keeps
abbrev pub view_kept : GuestSide → View
view_kept side = side.view

-- the view that the monitor's side holds
abbrev pub view_held : MonitorSide → View
view_held side = side.view

-- an own command of the monitor's stands
abbrev pub has_own : MonitorSide → Bool
has_own side = side.own

-- the view at power-on
abbrev pub view_at_power_on : View
view_at_power_on = record { file = power_on; bus = idle_bus }
