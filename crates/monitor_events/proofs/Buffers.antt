-- What a frame leaves in the buffers: those of the client hold the image's sectors, and no other changed.
use Rattle.std.proofs.Common.{◌≡◌, ℕ, ◌∷◌, ◌++◌, List, [], Option, Some, None, refl, sym, subst}
use Rattle.std.specs.Prelude.{◌↔◌}
use Rattle.ata_taskfile.specs.Device.{Device}
use Rattle.mon_pool.specs.Region.{AreOf, Held, Region, given, leased_bytes}
use Rattle.mon_pool.proofs.Held.{to_front}
use Rattle.aoe_client.specs.declared.client.Heard.{Heard}
use Rattle.aoe_client.specs.declared.client.Heard.TheVariants.{Took, Ignored}
use Rattle.aoe_client.specs.Asking.{Asking, leases_of}
use Rattle.aoe_client.specs.Buffers.{BothHold, SourceGives}
use Rattle.redirect.specs.Scatter.{HoldsPiece}
use Rattle.streaming.specs.Client.{TakesFor}
use Rattle.monitor_state.specs.declared.held.HeldPiece.{HeldPiece}
use Rattle.monitor_state.specs.declared.parts.Parts.{Parts}
use Rattle.monitor_state.specs.declared.state.Purpose.TheVariants as purpose
use Rattle.monitor_state.specs.declared.state.State.{State}
use Rattle.monitor_state.specs.declared.state.State.TheVariants.{Guest, Monitor, Running, Raising, Moving}
use Rattle.monitor_state.specs.Buffered.{HasBuffers, ReadsSoFar, image_part}
use Rattle.monitor_state.specs.Fits.{FitsParts}
use Rattle.monitor_state.specs.Leases.{leases_held, leases_in, leases_of_state}
use Rattle.monitor_state.specs.Sectors.{IsPieceOf}
use Rattle.monitor_state.specs.State.{end_of_piece}

-- a source that gives what the frame carries for each tag that it is taken for does so for the one that was taken
pub source_gives : (source : ℕ → List ℕ) (what : Heard) (frame sectors : List ℕ) (c : Asking)
    → ((tag : ℕ) → (what ≡ Took tag) ↔ TakesFor tag frame c)
    → ((tag : ℕ) → TakesFor tag frame c → source tag ≡ sectors) → SourceGives source sectors what
source_gives source Ignored frame sectors c took gives = tt
source_gives source (Took tag) frame sectors c took gives = gives tag ((took tag).0 refl)

-- leases that are held beside others are of the pool
later : (leases : List Held) (lease : Held) (pool : Region) → AreOf (lease ∷ leases) pool → AreOf leases pool
later [] lease pool are = tt
later (next ∷ leases) lease pool are =
    let front = to_front (lease ∷ []) leases next pool are in
    (front.0, later leases lease (given next pool) front.1)

-- the leases behind others are of the pool
pub behind : (before leases : List Held) (pool : Region) → AreOf (before ++ leases) pool → AreOf leases pool
behind [] leases pool are = are
behind (lease ∷ before) leases pool are = behind before leases pool (later (before ++ leases) lease pool are)

beside_piece : (lease : Held) (piece : Option HeldPiece) (leases : List Held) (pool : Region)
    → AreOf (lease ∷ (leases_held piece ++ leases)) pool → AreOf (lease ∷ leases) pool
beside_piece lease None leases pool are = are
beside_piece lease (Some held) leases pool are =
    later (lease ∷ leases) held.lease pool (to_front (lease ∷ []) leases held.lease pool are)

-- while the buffers of leases that the client doesn't hold stay, what they hold does
module _ (p q : Parts) (held : q.held ≡ p.held)
    (stay : (lease : Held) → AreOf (lease ∷ leases_of p.client) p.pool
    → leased_bytes lease q.pool ≡ leased_bytes lease p.pool) where
  -- a held piece
  piece_stays : (piece : Option HeldPiece) (before : List Held) (g : Device)
      → AreOf (before ++ (leases_held piece ++ leases_of p.client)) p.pool → IsPieceOf g p.pool piece
      → IsPieceOf g q.pool piece
  piece_stays None before g are is = tt
  piece_stays (Some one) before g are is =
      subst (λ bytes. HoldsPiece bytes one.base one.first (end_of_piece one) g)
      (sym (stay one.lease (behind before (one.lease ∷ leases_of p.client) p.pool are))) is

  -- and what an own read has put into its buffer so far
  read_stays : (s : State) (d : Device) → AreOf (leases_in s p) p.pool → ReadsSoFar s p d → ReadsSoFar s q d
  read_stays (Guest side) d are read = tt
  read_stays (Monitor side) d are read = tt
  read_stays (Running side own purpose.Opening) d are read = tt
  read_stays (Running side own (purpose.Piece first count lease)) d are read = record {
    origin = read.origin;
    start = read.start;
    whole = read.whole;
    done = rw (stay lease (beside_piece lease p.held (leases_of p.client) p.pool are)) read.done;
  }
  read_stays (Raising side dummy planned) d are read = tt
  read_stays Moving d are read = tt

  -- where the client's buffers hold what they should, all do
  pub frame_holds : (image : List (List ℕ)) (s : State) (d g : Device) → FitsParts s p
      → (BothHold (image_part image) p.client p.pool → BothHold (image_part image) q.client q.pool)
      → HasBuffers image s p d g → HasBuffers image s q d g
  frame_holds image s d g fits asks has = record {
    held = subst (IsPieceOf g q.pool) (sym held) (piece_stays p.held (leases_of_state s) g fits.leased.held has.held);
    asked = asks has.asked;
    read = read_stays s d fits.leased.held has.read;
    whole = has.whole;
  }
