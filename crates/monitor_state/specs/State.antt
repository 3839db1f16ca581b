-- What of a state and of the parts others speak of.
use Rattle.std.specs.Prelude.{ℕ, Bool, true, false, ◌+◌, is_some, not, Option, Some, None}
use Rattle.fill_store.specs.Opening.{next_in_opening}
use Rattle.port_lease.specs.declared.view.View.{View}
use Rattle.port_lease.specs.Sides.{view_held, view_kept, view_at_power_on}
use Rattle.monitor_state.specs.declared.state.State.{State}
use Rattle.monitor_state.specs.declared.state.State.TheVariants.{Guest, Monitor, Running, Raising, Moving}
use Rattle.monitor_state.specs.declared.parts.Parts.{Parts}
use Rattle.monitor_state.specs.declared.held.HeldPiece.{HeldPiece}

-- the view of a state: what the monitor's side holds, or what the guest's side keeps
abbrev pub view_of : State → View
view_of (Guest side) = view_kept side
view_of (Monitor side) = view_held side
view_of (Running side own purpose) = view_held side
view_of (Raising side dummy plan) = view_held side
view_of Moving = view_at_power_on

-- the guest has the drive
abbrev pub is_guests : State → Bool
is_guests (Guest side) = true
is_guests (Monitor side) = false
is_guests (Running side own purpose) = false
is_guests (Raising side dummy plan) = false
is_guests Moving = false

-- opening has ended
abbrev pub is_opened : Parts → Bool
is_opened p = not (is_some (next_in_opening p.opening))

-- the sector behind a held piece
abbrev pub end_of_piece : HeldPiece → ℕ
end_of_piece held = held.first + held.count

-- a held piece by its first sector and its count
abbrev pub range_of : Option HeldPiece → Option (ℕ × ℕ)
range_of None = None
range_of (Some held) = Some (held.first, held.count)
