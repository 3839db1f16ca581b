-- A frame that comes to the client.
use Rattle.std.specs.Prelude.{ℕ, ◌≡◌, ◌↔◌, Bool, true, false, List, Option, Some, None}
use Rattle.aoe_client.specs.declared.client.Heard.{Heard}
use Rattle.aoe_client.specs.declared.client.Heard.TheVariants.{Took, Ignored}
use Rattle.aoe_client.specs.Asking.{buffers_heard, heard}
use Rattle.aoe_client.specs.Messages.{sectors_carried}
use Rattle.streaming.specs.Client.{TakesFor}
use Rattle.schedule_text.specs.declared.Item.{Item}
use Rattle.schedule_text.specs.declared.Item.TheVariants.{Forged}
use Rattle.monitor_state.specs.declared.parts.Parts.{Parts}

-- a frame was heard: what became of it, by the tags that it is taken for, and the parts after that, of which client and
-- pool alone changed
pub record IsHeard (frame : List ℕ) (old new : Parts) : Type 0 where
  pub what : Heard
  pub took : (tag : ℕ) → (what ≡ Took tag) ↔ TakesFor tag frame old.client
  pub client : new.client ≡ heard what old.client
  pub pool : new.pool ≡ buffers_heard what (sectors_carried frame) old.client old.pool
  pub others : new ≡ record old { client = new.client; pool = new.pool }

-- the mark of a frame that was taken though the server didn't send it
abbrev pub mark_of : Heard → Bool → Option Item
mark_of (Took tag) true = Some Forged
mark_of (Took tag) false = None
mark_of Ignored injected = None
