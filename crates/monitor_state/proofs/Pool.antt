-- How many buffers are out, and the order in which they go back.
use Rattle.std.proofs.Common.{◌<◌, ◌≤◌, length, Option, Some, None, arith}
use Rattle.std.proofs.lemmas.List.{length-append}
use Rattle.mon_pool.specs.Region.{AreOf, all_given, buffers_in, out_of}
use Rattle.aoe_client.specs.Asking.{lease_in, leases_of}
use Rattle.aoe_client.specs.Fetching.{Fetching}
use Rattle.port_lease.specs.declared.monitor_side.MonitorSide.{MonitorSide}
use Rattle.own_pio.specs.declared.own.Own.{Own}
use Rattle.monitor_state.specs.declared.held.HeldPiece.{HeldPiece}
use Rattle.monitor_state.specs.declared.parts.Parts.{Parts}
use Rattle.monitor_state.specs.declared.state.Purpose.{Purpose}
use Rattle.monitor_state.specs.declared.state.Purpose.TheVariants as purpose
use Rattle.monitor_state.specs.declared.state.State.{State}
use Rattle.monitor_state.specs.declared.state.State.TheVariants.{Guest, Monitor, Running, Raising, Moving}
use Rattle.monitor_state.specs.Leases.{leases_held, leases_in, leases_of_parts, leases_of_state}
use Rattle.monitor_state.specs.Fits.{FitsParts}

one_held : (piece : Option HeldPiece) → length (leases_held piece) ≤ 1
one_held None = omega arith
one_held (Some held) = omega arith

one_asked : (asked : Option Fetching) → length (lease_in asked) ≤ 1
one_asked None = omega arith
one_asked (Some fetching) = omega arith

-- with no own command a buffer is free
pub buffer_free : (side : MonitorSide) (p : Parts) → FitsParts (Monitor side) p → out_of p.pool < buffers_in p.pool
buffer_free side p fits = omega (
  arith,
  fits.leased.counted,
  length-append (leases_held p.held) (leases_of p.client),
  length-append (lease_in p.client.demand) (lease_in p.client.background),
  one_held p.held,
  one_asked p.client.demand,
  one_asked p.client.background,
  fits.area.buffers,
)

purpose_first : (why : Purpose) (side : MonitorSide) (own : Own) (p : Parts)
    → AreOf (leases_in (Running side own why) p) p.pool → AreOf (leases_of_state (Running side own why)) p.pool
    × AreOf (leases_of_parts p) (all_given (leases_of_state (Running side own why)) p.pool)
purpose_first purpose.Opening side own p are = (tt, are)
purpose_first (purpose.Piece first count lease) side own p are = ((are.0, tt), are.1)

both : (s : State) (p : Parts) → AreOf (leases_in s p) p.pool
    → AreOf (leases_of_state s) p.pool × AreOf (leases_of_parts p) (all_given (leases_of_state s) p.pool)
both (Guest side) p are = (tt, are)
both (Monitor side) p are = (tt, are)
both (Running side own why) p are = purpose_first why side own p are
both (Raising side dummy planned) p are = (tt, are)
both Moving p are = (tt, are)

-- the state's lease is the pool's
pub state_leased : (s : State) (p : Parts) → AreOf (leases_in s p) p.pool → AreOf (leases_of_state s) p.pool
state_leased s p are = (both s p are).0

-- and once it went back so are those of the parts
pub parts_leased : (s : State) (p : Parts) → AreOf (leases_in s p) p.pool
    → AreOf (leases_of_parts p) (all_given (leases_of_state s) p.pool)
parts_leased s p are = (both s p are).1
