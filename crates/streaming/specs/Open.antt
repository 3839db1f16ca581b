-- Which tags are open, and which the guest's command needs. Lists of lines have the newest first.
use Rattle.std.specs.Prelude.{ℕ, zero, suc, ◌≡◌, ◌<◌, ◌⊎◌, ◌+◌, ◌*◌, ◌/◌, ◌&&◌, nat_lt, if◌then◌else◌, Bool, true, false, List, [], ◌∷◌, Option, Some, None}
use Rattle.ata_taskfile.specs.declared.Taken.{Taken}
use Rattle.ata_taskfile.specs.declared.Taken.TheVariants.{Good, Bad}
use Rattle.ata_taskfile.specs.Order.{has_range}
use Rattle.aoe_client.specs.Messages.{Answers, first_sector}
use Rattle.plain_drive.specs.Plain.{Plain}
use Rattle.streaming.specs.Lines.{Call, Line, order_in_hand}
use Rattle.streaming.specs.Lines.Call.{of_tick, of_frame}
use Rattle.streaming.specs.Sources.{is_power_on, one_asks, was_asked_for}

-- the power has just come on: there is no line yet, or the newest is that it did
abbrev pub is_at_power_on : List Line → Bool
is_at_power_on [] = true
is_at_power_on (line ∷ lines) = is_power_on line.call

-- one more tick behind so many, where the call is one
abbrev pub and_tick : Call → ℕ → ℕ
and_tick of_tick ticks = suc ticks
and_tick other ticks = ticks

-- how many ticks followed the line under which this tag was asked for last, whose requests are behind its call (own)
abbrev pub ticks_since : ℕ → List Line → ℕ
ticks_since tag [] = zero
ticks_since tag (line ∷ lines) =
    if one_asks tag line.items then zero else and_tick line.call (ticks_since tag lines)

-- a frame came that answers this tag, a stray one too
abbrev pub Delivers : ℕ → Call → Type 0
Delivers tag (of_frame frame stray) = Answers frame tag
Delivers tag other = ⊥

-- such a frame came after the tag was asked for last (own)
abbrev pub WasAnswered : ℕ → List Line → Type 0
WasAnswered tag [] = ⊥
WasAnswered tag (line ∷ lines) = (one_asks tag line.items ≡ false)
    × (Delivers tag line.call ⊎ WasAnswered tag lines)

-- a tag is open: it was asked for since the power came on, no frame that answers it came after it was asked for last,
-- and fewer than four ticks followed (own)
pub record IsOpen (tag : ℕ) (lines : List Line) : Type 0 where
  pub asked : was_asked_for tag lines ≡ true
  pub unanswered : ¬ WasAnswered tag lines
  pub young : ticks_since tag lines < 4

-- an order touches a block, of so many sectors: one of the sectors that it names is of it
abbrev pub touches : ℕ → ℕ → Option Taken → Bool
touches block b None = false
touches block b (Some (Good order)) = has_range order.kind && nat_lt 0 order.count
    && nat_lt order.first ((b + 1) * block) && nat_lt (b * block) (order.first + order.count)
touches block b (Some (Bad reason)) = false

-- the block of a tag's sectors, where blocks have so many
abbrev pub block_of_tag : ℕ → ℕ → ℕ
block_of_tag block tag = first_sector tag / block

-- a tag is needed: its sectors are of a block that the command in hand of the guest's drive touches
abbrev pub is_needed : ℕ → ℕ → Plain → Bool
is_needed block tag q =
    touches block (block_of_tag block tag) (order_in_hand q.device.file.phase)
