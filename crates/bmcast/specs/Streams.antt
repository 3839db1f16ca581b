-- Inner: the schedule as it is read in blocks, and the report as it is written in blocks.
use Rattle.std.specs.Prelude.{ℕ, ◌≡◌, ◌≢◌, ◌≤◌, ◌++◌, List, [], ◌∷◌, length, take, drop, Option, Some, None}
use Rattle.bm_host.specs.declared.Role.TheVariants.{Schedule, Report}
use Rattle.bm_host.specs.Outside.{Outside}
use Rattle.block_writes.specs.Waiting.{Waits}
use Rattle.schedule_text.specs.declared.TheConstants.{LINE_BYTES}
use Rattle.schedule_text.specs.Schedule.{IsOneLine}
use Rattle.bmcast.specs.declared.streams.Streams.{Streams}
use Rattle.bmcast.specs.declared.streams.Fetched.{Fetched}
use Rattle.bmcast.specs.declared.streams.Fetched.TheVariants as fetched

-- the bytes of the block that aren't taken yet
abbrev pub in_block : Streams → List ℕ
in_block s = drop s.at (take s.end s.block)

-- the bytes of a schedule's text that aren't taken yet: those of the block, and those that the host still has
abbrev pub unread : Streams → Outside → List ℕ → List ℕ
unread s outside text = in_block s ++ drop (outside.given Schedule) text

-- the report's lines so far, written or waiting, are this text
abbrev pub Said : Streams → Outside → List ℕ → Type 0
Said s outside text = Waits Report s.pending.items outside text

-- the report's lines so far stay the same text
abbrev pub KeepsSaid : Streams → Streams → Outside → Outside → Type 0
KeepsSaid from to old new = (text : List ℕ) → Said from old text → Said to new text

-- these bytes are appended to it
abbrev pub Appends : Streams → Streams → Outside → Outside → List ℕ → Type 0
Appends from to old new lines = (text : List ℕ) → Said from old text → Said to new (text ++ lines)

-- nothing of the schedule is taken
abbrev pub KeepsUnread : Streams → Streams → Outside → Outside → Type 0
KeepsUnread from to old new = (text : List ℕ) → unread to new text ≡ unread from old text

-- these bytes are appended to the report, and nothing of the schedule is taken
abbrev pub Reports : Streams → Streams → Outside → Outside → List ℕ → Type 0
Reports from to old new lines = Appends from to old new lines × KeepsUnread from to old new

-- the next byte was taken, where there is one
abbrev pub Takes : Option ℕ → List ℕ → List ℕ → Type 0
Takes None old new = (old ≡ []) × (new ≡ [])
Takes (Some byte) old new = old ≡ byte ∷ new

-- bytes of the block were taken behind those of a line, none of them a line feed, and what waits to
-- be written stays
pub record TakesBytes (from to : Streams) (line longer : List ℕ) : Type 0 where
  pub front : List ℕ
  pub one : IsOneLine front
  pub line_is : longer ≡ line ++ front
  pub left_is : in_block from ≡ front ++ in_block to
  pub pending : to.pending ≡ from.pending

-- a line was taken: what stood there, up to its line feed (10) or the end
abbrev pub Fetches : Fetched → List ℕ → List ℕ → List ℕ → Type 0
Fetches fetched.Line line old new = IsOneLine line × (old ≡ line ++ 10 ∷ new)
Fetches fetched.LastLine line old new = IsOneLine line × (line ≢ []) × (old ≡ line) × (new ≡ [])
Fetches fetched.Nothing line old new = (old ≡ []) × (new ≡ [])
Fetches fetched.TooLong line old new = IsOneLine line × (LINE_BYTES ≤ length line)
    × ((byte : ℕ) × (byte ≢ 10) × (old ≡ line ++ byte ∷ new))

-- what the end of the schedule makes of the bytes before it
abbrev pub fetched_at_end : List ℕ → Fetched
fetched_at_end [] = fetched.Nothing
fetched_at_end (byte ∷ line) = fetched.LastLine
