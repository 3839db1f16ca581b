-- Where the leases of the monitor's pool are.
use Rattle.std.specs.Prelude.{◌≡◌, ◌++◌, List, [], ◌∷◌, length, Option, Some, None}
use Rattle.mon_pool.specs.Region.{Held, AreOf, out_of}
use Rattle.aoe_client.specs.Asking.{leases_of}
use Rattle.monitor_state.specs.declared.state.State.{State}
use Rattle.monitor_state.specs.declared.state.State.TheVariants.{Guest, Monitor, Running, Raising, Moving}
use Rattle.monitor_state.specs.declared.state.Purpose.{Purpose}
use Rattle.monitor_state.specs.declared.state.Purpose.TheVariants as purpose
use Rattle.monitor_state.specs.declared.held.HeldPiece.{HeldPiece}
use Rattle.monitor_state.specs.declared.parts.Parts.{Parts}

-- the lease of an own command: the buffer that a piece is read into
abbrev pub leases_for : Purpose → List Held
leases_for purpose.Opening = []
leases_for (purpose.Piece first count lease) = lease ∷ []

-- the leases of a state
abbrev pub leases_of_state : State → List Held
leases_of_state (Guest side) = []
leases_of_state (Monitor side) = []
leases_of_state (Running side own why) = leases_for why
leases_of_state (Raising side dummy plan) = []
leases_of_state Moving = []

-- the lease of a held piece
abbrev pub leases_held : Option HeldPiece → List Held
leases_held None = []
leases_held (Some held) = held.lease ∷ []

-- the leases of the parts
abbrev pub leases_of_parts : Parts → List Held
leases_of_parts p = leases_held p.held ++ leases_of p.client

-- all leases, in the order in which they are given back
abbrev pub leases_in : State → Parts → List Held
leases_in s p = leases_of_state s ++ leases_of_parts p

-- they are of the pool, and no other buffer of it is out
pub record AreLeased (leases : List Held) (p : Parts) : Type 0 where
  pub held : AreOf leases p.pool
  pub counted : out_of p.pool ≡ length leases
