-- What the client asks for stays while tags are sent, ticks go by and frames are heard.
use Rattle.std.specs.Prelude.{◌≡◌, Option, Some, None}
use Rattle.aoe_client.specs.Fetching.{Fetching}
use Rattle.aoe_client.specs.Asking.{Asking}
use Rattle.monitor_state.specs.declared.parts.Parts.{Parts}

-- a slot asks for the block that it asked for, into the same buffer, or for none as before
abbrev pub AsksTheSame : Option Fetching → Option Fetching → Type 0
AsksTheSame None None = Unit {0}
AsksTheSame None (Some new) = ⊥
AsksTheSame (Some old) None = ⊥
AsksTheSame (Some old) (Some new) = (new.block ≡ old.block) × (new.lease ≡ old.lease)

-- both slots do
pub record BothAskTheSame (old new : Asking) : Type 0 where
  pub block : new.block ≡ old.block
  pub demand : AsksTheSame old.demand new.demand
  pub background : AsksTheSame old.background new.background

-- of the parts no more changed than how far the client's asking has come, and the bytes of the pool's buffers
pub record HaveSameAsks (old new : Parts) : Type 0 where
  pub asks : BothAskTheSame old.client new.client
  pub pool : new.pool ≡ record old.pool { block = new.pool.block }
  pub others : new ≡ record old { client = new.client; pool = new.pool }
