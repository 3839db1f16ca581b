-- The leases and the area of the parts once a piece was let go.
use Rattle.std.proofs.Common.{◌≡◌, ◌+◌, ◌∷◌, ◌++◌, Bool, true, false, if◌then◌else◌, List, length, Option, Some, None, refl, ◌∙◌, arith}
use Rattle.std.proofs.lemmas.List.{length-append, length-set}
use Rattle.ata_taskfile.specs.declared.Taken.TheVariants.{Good, Bad}
use Rattle.ata_taskfile.specs.declared.Phase.{Phase}
use Rattle.ata_taskfile.specs.declared.Phase.TheVariants.{Reset, Idle, Busy, Ready}
use Rattle.aoe_client.specs.Asking.{leases_of}
use Rattle.mon_pool.specs.Region.{Held, Region, AreOf, all_given, buffers_in, out_of}
use Rattle.mon_pool.proofs.Held.{one_fewer_out, to_front}
use Rattle.monitor_state.specs.declared.held.HeldPiece.{HeldPiece}
use Rattle.monitor_state.specs.declared.parts.Parts.{Parts}
use Rattle.monitor_state.specs.declared.state.State.{State}
use Rattle.monitor_state.specs.Leases.{AreLeased, leases_held, leases_in, leases_of_state}
use Rattle.monitor_state.specs.Pieces.{ends_before, piece_let_go, tidied}
use Rattle.monitor_state.specs.Fits.{FitsArea}

still_leased : (before behind : List Held) (piece : Option HeldPiece) (pool : Region)
    → AreOf (before ++ (leases_held piece ++ behind)) pool
    → AreOf (before ++ behind) (all_given (leases_held piece) pool)
still_leased before behind None pool are = are
still_leased before behind (Some held) pool are = (to_front before behind held.lease pool are).1

still_counted : (before behind : List Held) (piece : Option HeldPiece) (pool : Region)
    → AreOf (before ++ (leases_held piece ++ behind)) pool
    → out_of pool ≡ length (before ++ (leases_held piece ++ behind))
    → out_of (all_given (leases_held piece) pool) ≡ length (before ++ behind)
still_counted before behind None pool are counted = counted
still_counted before behind (Some held) pool are counted = omega (
  arith,
  one_fewer_out pool held.lease (to_front before behind held.lease pool are).0,
  counted,
  length-append before (held.lease ∷ behind),
  length-append before behind,
)

-- the leases of the parts are the pool's once the held piece is let go
pub piece_unleased : (s : State) (p : Parts) → AreLeased (leases_in s p) p
    → AreLeased (leases_in s (piece_let_go p)) (piece_let_go p)
piece_unleased s p leased = record {
  held = still_leased (leases_of_state s) (leases_of p.client) p.held p.pool leased.held;
  counted = still_counted (leases_of_state s) (leases_of p.client) p.held p.pool leased.held leased.counted;
}

let_go_leased : (ends : Bool) (s : State) (p : Parts) → AreLeased (leases_in s p) p
    → let q = if ends then piece_let_go p else p in AreLeased (leases_in s q) q
let_go_leased true s p leased = piece_unleased s p leased
let_go_leased false s p leased = leased

-- and once they are tidied
pub tidied_leased : (phase : Phase) (s : State) (p : Parts) → AreLeased (leases_in s p) p
    → AreLeased (leases_in s (tidied phase p)) (tidied phase p)
tidied_leased Reset s p leased = leased
tidied_leased Idle s p leased =
    let q = piece_unleased s p leased in record { held = q.held; counted = q.counted }
tidied_leased (Busy (Good order) done) s p leased = let_go_leased (ends_before (order.first + done) p.held) s p leased
tidied_leased (Busy (Bad reason) done) s p leased = leased
tidied_leased (Ready order done left) s p leased = leased

same_room : (piece : Option HeldPiece) (pool : Region) → (all_given (leases_held piece) pool).room ≡ pool.room
same_room None pool = refl
same_room (Some held) pool = refl

same_buffers : (piece : Option HeldPiece) (pool : Region)
    → buffers_in (all_given (leases_held piece) pool) ≡ buffers_in pool
same_buffers None pool = refl
same_buffers (Some held) pool = length-set pool.free held.lease.buffer true

pub piece_area : (p : Parts) → FitsArea p → FitsArea (piece_let_go p)
piece_area p area = record {
  suitable = area.suitable;
  image = area.image;
  bitmap = area.bitmap;
  nested = area.nested;
  opening = area.opening;
  run = area.run;
  client = area.client;
  room = same_room p.held p.pool ∙ area.room;
  buffers = omega (arith, same_buffers p.held p.pool, area.buffers);
  background = area.background;
}

let_go_area : (ends : Bool) (p : Parts) → FitsArea p → FitsArea (if ends then piece_let_go p else p)
let_go_area true p area = piece_area p area
let_go_area false p area = area

-- the area's parts stay those of the area
pub tidied_area : (phase : Phase) (p : Parts) → FitsArea p → FitsArea (tidied phase p)
tidied_area Reset p area = area
tidied_area Idle p area =
    let q = piece_area p area in record {
      suitable = q.suitable;
      image = q.image;
      bitmap = q.bitmap;
      nested = q.nested;
      opening = q.opening;
      run = q.run;
      client = q.client;
      room = q.room;
      buffers = q.buffers;
      background = q.background;
    }
tidied_area (Busy (Good order) done) p area = let_go_area (ends_before (order.first + done) p.held) p area
tidied_area (Busy (Bad reason) done) p area = area
tidied_area (Ready order done left) p area = area
