-- The held piece of parts that fit.
use Rattle.std.proofs.Common.{◌≡◌, ℕ, ◌+◌, ◌≤◌, ◌++◌, List, Option, Some, None, subst, arith}
use Rattle.std.specs.Prelude.{IfSome}
use Rattle.ata_taskfile.specs.declared.Request.{Request}
use Rattle.ata_taskfile.specs.declared.Taken.{Taken}
use Rattle.ata_taskfile.specs.declared.Taken.TheVariants.{Good}
use Rattle.ata_taskfile.specs.declared.Phase.{Phase}
use Rattle.ata_taskfile.specs.declared.Phase.TheVariants.{Reset, Idle, Busy, Ready}
use Rattle.ata_taskfile.specs.Lawful.{end_in, end_of}
use Rattle.aoe_client.specs.Asking.{leases_of}
use Rattle.mon_pool.specs.Region.{Held, Region, AreOf, IsOf}
use Rattle.mon_pool.proofs.Held.{to_front}
use Rattle.port_lease.specs.declared.view.View.{View}
use Rattle.port_lease.specs.Sides.{view_held}
use Rattle.redirect.specs.declared.redirect.Redirect.{Redirect}
use Rattle.redirect.specs.Next.{end_of_read, request_of}
use Rattle.monitor_state.specs.declared.held.HeldPiece.{HeldPiece}
use Rattle.monitor_state.specs.declared.parts.Parts.{Parts}
use Rattle.monitor_state.specs.declared.state.State.{State}
use Rattle.monitor_state.specs.declared.state.State.TheVariants.{Guest, Monitor, Running, Raising, Moving}
use Rattle.monitor_state.specs.State.{end_of_piece}
use Rattle.monitor_state.specs.Leases.{leases_held, leases_of_state}
use Rattle.monitor_state.specs.Hand.{HasInHand, HoldsSector, IsEmptyHanded, Serves, WorksOn}
use Rattle.monitor_state.specs.Fits.{FitsParts, FitsState}
use Rattle.monitor_state.proofs.Served.{if_none, if_some}

-- a piece ends at or before a sector
abbrev Ends : ℕ → HeldPiece → Type 0
Ends n held = end_of_piece held ≤ n

leased_piece : (before behind : List Held) (piece : Option HeldPiece) (pool : Region)
    → AreOf (before ++ (leases_held piece ++ behind)) pool → IfSome piece (λ held. IsOf held.lease pool)
leased_piece before behind None pool are = tt
leased_piece before behind (Some held) pool are = (to_front before behind held.lease pool are).0

-- its lease is of the pool
pub piece_of_pool : (s : State) (p : Parts) → FitsParts s p → IfSome p.held (λ held. IsOf held.lease p.pool)
piece_of_pool s p fits = leased_piece (leases_of_state s) (leases_of p.client) p.held p.pool fits.leased.held

empty_within : (n : ℕ) (p : Parts) → IsEmptyHanded p → IfSome p.held (Ends n)
empty_within n p empty = if_none (Ends n) p.held empty.held

piece_ends : (p : Parts) (request : Request) (sector n : ℕ) (piece : Option HeldPiece) → end_of_read request ≤ n
    → IfSome piece (HoldsSector p request sector) → IfSome piece (Ends n)
piece_ends p request sector n None within holds = tt
piece_ends p request sector n (Some held) within holds = omega (arith, within, holds.within)

order_ends : (request : Request) (order : Taken) (n : ℕ) → order ≡ Good request → end_in order ≤ n
    → end_of_read request ≤ n
order_ends request order n is within = subst (λ order. end_in order ≤ n) is within

works_within : (redirect : Option Redirect) (v : View) (p : Parts) (order : Taken) (done n : ℕ) → end_in order ≤ n
    → WorksOn redirect v p order done → IfSome p.held (Ends n)
works_within None v p order done n within works = empty_within n p works.0
works_within (Some redirect) v p order done n within works =
    let request = request_of redirect in
    piece_ends p request (request.first + done) n p.held (order_ends request order n works.0 within) works.1.held

serves_within : (redirect : Option Redirect) (p : Parts) (order : Taken) (done n : ℕ) → end_in order ≤ n
    → Serves redirect p order done → IfSome p.held (Ends n)
serves_within None p order done n within serves = absurd serves
serves_within (Some redirect) p order done n within serves =
    let request = request_of redirect in
    piece_ends p request (request.first + done) n p.held (order_ends request order n serves.0 within)
    (if_some (HoldsSector p request (request.first + done)) p.held serves.1.held)

in_hand_within : (phase : Phase) (v : View) (p : Parts) (n : ℕ) → end_of phase ≤ n → HasInHand phase v p
    → IfSome p.held (Ends n)
in_hand_within Reset v p n within has = empty_within n p has.0
in_hand_within Idle v p n within has = empty_within n p has
in_hand_within (Busy order done) v p n within has = works_within p.hand.redirect v p order done n within has
in_hand_within (Ready order done left) v p n within has = serves_within p.hand.redirect p order done n within has

state_within : (s : State) (p : Parts) → FitsState s p → IfSome p.held (Ends p.area.sectors)
state_within (Guest side) p fits = empty_within p.area.sectors p fits.0
state_within (Monitor side) p fits =
    in_hand_within (view_held side).file.phase (view_held side) p p.area.sectors fits.1.within fits.2
state_within (Running side own why) p fits =
    in_hand_within (view_held side).file.phase (view_held side) p p.area.sectors fits.1.within fits.2
state_within (Raising side dummy planned) p fits =
    in_hand_within (view_held side).file.phase (view_held side) p p.area.sectors fits.1.within fits.2
state_within Moving p fits = absurd fits

-- and it lies on the disk
pub piece_on_disk : (s : State) (p : Parts) → FitsParts s p
    → IfSome p.held (λ held. end_of_piece held ≤ p.area.sectors)
piece_on_disk s p fits = state_within s p fits.state
