-- The parts as the power comes on again.
use Rattle.std.proofs.Common.{◌≡◌, List, [], ◌∷◌, ◌++◌, length, Option, Some, None, refl, sym, ap, ◌∙◌, arith}
use Rattle.std.specs.Prelude.{IfSome, true}
use Rattle.std.proofs.Math.ListN.{length-set}
use Rattle.std.proofs.lemmas.List.{length-append}
use Rattle.mon_pool.specs.Region.{Held, Region, AreOf, IsOf, all_given, buffers_in, given, out_of}
use Rattle.mon_pool.proofs.Held.{held_are_out}
use Rattle.aoe_client.specs.Asking.{leases_of}
use Rattle.monitor_state.specs.declared.held.HeldPiece.{HeldPiece}
use Rattle.monitor_state.specs.declared.state.State.{State}
use Rattle.monitor_state.specs.declared.parts.Parts.{Parts}
use Rattle.monitor_state.specs.Leases.{AreLeased, leases_held, leases_of_parts, leases_of_state}
use Rattle.monitor_state.specs.Fits.{FitsParts}
use Rattle.monitor_state.proofs.Pool.{parts_leased, state_leased}

given_both : (xs ys : List Held) (pool : Region) → all_given (xs ++ ys) pool ≡ all_given ys (all_given xs pool)
given_both [] ys pool = refl
given_both (x ∷ xs) ys pool = given_both xs ys (given x pool)

-- leases that are given back leave the pool's buffers as many, and as long
pub given_room : (leases : List Held) (pool : Region) → (all_given leases pool).room ≡ pool.room
given_room [] pool = refl
given_room (lease ∷ leases) pool = given_room leases (given lease pool)

pub given_count : (leases : List Held) (pool : Region) → buffers_in (all_given leases pool) ≡ buffers_in pool
given_count [] pool = refl
given_count (lease ∷ leases) pool =
    given_count leases (given lease pool) ∙ length-set pool.free lease.buffer true

-- the leases behind those that were given back are still of the pool
pub behind_given : (before behind : List Held) (pool : Region) → AreOf (before ++ behind) pool
    → AreOf behind (all_given before pool)
behind_given [] behind pool are = are
behind_given (lease ∷ before) behind pool are = behind_given before behind (given lease pool) are.1

-- once all that are out were given back none is out
pub none_out : (leases : List Held) (pool : Region) → AreOf leases pool → out_of pool ≡ length leases
    → out_of (all_given leases pool) ≡ 0
none_out leases pool are counted = omega (arith, held_are_out leases pool are, counted)

pub held_first : (piece : Option HeldPiece) (behind : List Held) (pool : Region)
    → AreOf (leases_held piece ++ behind) pool → IfSome piece (λ held. IsOf held.lease pool)
held_first None behind pool are = tt
held_first (Some held) behind pool are = are.0

-- once the held piece and what the client has went back none is out
pub all_back : (p : Parts) → AreLeased (leases_of_parts p) p
    → out_of (all_given (leases_of p.client) (all_given (leases_held p.held) p.pool)) ≡ 0
all_back p leased =
    ap out_of (sym (given_both (leases_held p.held) (leases_of p.client) p.pool))
    ∙ none_out (leases_of_parts p) p.pool leased.held leased.counted

pub ruleset going_back = (held_first, behind_given, given_room, given_count, all_back)

-- the parts' leases alone are out once the state's went back
pub parts_are_leased : (s : State) (p : Parts) → FitsParts s p
    → AreLeased (leases_of_parts p) (record p { pool = all_given (leases_of_state s) p.pool })
parts_are_leased s p fits = record {
  held = parts_leased s p fits.leased.held;
  counted = omega (
    arith,
    held_are_out (leases_of_state s) p.pool (state_leased s p fits.leased.held),
    fits.leased.counted,
    length-append (leases_of_state s) (leases_of_parts p),
  );
}
