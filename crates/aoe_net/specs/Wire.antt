-- What the network holds, and what each call does to it. A frame is the list of its bytes.
use Rattle.std.specs.Prelude.{ℕ, ◌≤◌, Bool, ◌==◌, List, [], ◌∷◌, ◌++◌, length, drop, remove, slice_get, Option, None, if◌then◌else◌}
use Rattle.aoe_net.specs.declared.way.Way.{Way}
use Rattle.aoe_net.specs.declared.way.Way.TheVariants.{ToServer, ToClient}
use Rattle.aoe_net.specs.declared.ring.TheConstants.{MOST_FRAMES}

-- the frames that are under way, each list the oldest first (own)
pub record Wire : Type 0 where
  pub to_server : List (List ℕ)
  pub to_client : List (List ℕ)

-- a network with nothing under way
abbrev pub nothing_sent : Wire
nothing_sent = record { to_server = []; to_client = [] }

-- the frames of one way
abbrev pub going : Way → Wire → List (List ℕ)
going ToServer wire = wire.to_server
going ToClient wire = wire.to_client

-- a network in which these are the frames of one way, and those of the other are as they were
abbrev pub with_going : Way → List (List ℕ) → Wire → Wire
with_going ToServer frames wire = record wire { to_server = frames }
with_going ToClient frames wire = record wire { to_client = frames }

-- whether a list has no room for another frame
abbrev pub is_ring_full : List (List ℕ) → Bool
is_ring_full frames = length frames == MOST_FRAMES

-- a list once a frame is queued: it is the newest, and where the list was full, the oldest is displaced (own)
abbrev pub queued : List ℕ → List (List ℕ) → List (List ℕ)
queued frame frames = (if is_ring_full frames then drop 1 frames else frames) ++ frame ∷ []

-- the oldest frame of a full list, which the next one displaces
abbrev pub displaced : List (List ℕ) → Option (List ℕ)
displaced frames = if is_ring_full frames then slice_get frames 0 else None

-- a network once a frame is sent one way
abbrev pub sent : Way → List ℕ → Wire → Wire
sent way frame wire = with_going way (queued frame (going way wire)) wire

-- a network without frame k of one way, the oldest being frame 0; where there is no frame k, all stay (own)
abbrev pub without : Way → ℕ → Wire → Wire
without way k wire = with_going way (remove (going way wire) k) wire

-- no way has more frames than a list has room for
pub record FitsRings (wire : Wire) : Type 0 where
  pub to_server : length wire.to_server ≤ MOST_FRAMES
  pub to_client : length wire.to_client ≤ MOST_FRAMES
