-- The view of the monitor's side, lent.
use Rattle.std.specs.Borrow.{Lends, MutBor, Fml}
use Rattle.port_lease.specs.declared.view.View.{View}
use Rattle.port_lease.specs.declared.monitor_side.MonitorSide.{MonitorSide}
use Rattle.port_lease.specs.contracts.monitor_side.MonitorSide as side
use Rattle.port_lease.specs.contracts.view.View as view

-- the side with another view
abbrev pub with_view : MonitorSide → View → MonitorSide
with_view side v = record side { view = v }

-- the side ends with the view that was last behind the reference; whether an own command stands is as before
abbrev pub LendsView : MutBor MonitorSide → MutBor View → Fml
LendsView s r = Lends side.the_row view.the_row s r (with_view s.now)
