-- How much of the image an event looks at, also where it fails.
use Rattle.std.specs.Prelude.{ℕ, List, Option, Some, None}
use Rattle.bm_host.specs.Outside.{Outside}
use Rattle.block_writes.specs.Kept.{KeepsLooked}
use Rattle.image_server.specs.Serving.{LooksAtSent}

-- no more than goes into the reply to the frame that the server is handed; without a frame nothing
abbrev pub LooksAtHanded : ℕ → Option (List ℕ) → Outside → Outside → Type 0
LooksAtHanded sectors None old new = KeepsLooked old new
LooksAtHanded sectors (Some frame) old new = LooksAtSent sectors frame old new
