-- When a tag may be asked for, and how often. Lists of lines have the newest first.
use Rattle.std.specs.Prelude.{ℕ, zero, suc, ◌≡◌, ◌≤◌, ◌+◌, ◌==◌, ◌||◌, if◌then◌else◌, Bool, true, false, not, List, [], ◌∷◌}
use Rattle.ata_taskfile.specs.declared.Access.{Access}
use Rattle.ata_taskfile.specs.declared.Access.TheVariants as access
use Rattle.ata_taskfile.specs.declared.Reg.TheVariants.{Alternate}
use Rattle.ata_taskfile.specs.declared.Step.TheVariants.{Good, Bad}
use Rattle.ata_taskfile.specs.declared.Stepped.TheVariants.{Changed, Nothing}
use Rattle.ata_taskfile.specs.declared.registers.TheConstants.{SRST}
use Rattle.ata_taskfile.specs.declared.task_file.TaskFile.{TaskFile}
use Rattle.ata_taskfile.specs.TaskFile.{has_bit, holds_reset}
use Rattle.plain_drive.specs.Alike.{gives_command}
use Rattle.plain_drive.specs.Plain.{Plain}
use Rattle.schedule_text.specs.declared.Item.{Item}
use Rattle.schedule_text.specs.declared.Item.TheVariants as item
use Rattle.streaming.specs.Lines.{Call, Line}
use Rattle.streaming.specs.Lines.Call.{of_access, of_turn, of_step, of_tick, of_frame, of_power_on}
use Rattle.streaming.specs.Open.{IsOpen, ticks_since}
use Rattle.streaming.specs.Sources.{one_asks}

-- a tag is asked for again, over these lines: under the fourth tick after it was asked for last, and it is open just
-- before
pub record IsAskedAgain (tag : ℕ) (lines : List Line) : Type 0 where
  pub fourth : ticks_since tag lines ≡ 3
  pub awaited : IsOpen tag lines

-- where a call may ask for a tag, over these lines: under a turn, and under a tick where it is asked for again (own)
abbrev pub MayAsk : Call → ℕ → List Line → Type 0
MayAsk of_turn tag lines = Unit {0}
MayAsk of_tick tag lines = IsAskedAgain tag lines
MayAsk other tag lines = ⊥

-- a call with these items asks for no other tag
abbrev pub AsksInTime : Call → List Item → List Line → Type 0
AsksInTime call items lines = (tag : ℕ) → one_asks tag items ≡ true → MayAsk call tag lines

-- SRST is written with the other value: a reset begins, or it ends (ATA/ATAPI-6, Device Control register)
abbrev pub turns_reset : Access → TaskFile → Bool
turns_reset (access.Write8 Alternate v) f =
    if has_bit SRST v then not (holds_reset f) else holds_reset f
turns_reset other f = false

-- the calls from which requests are counted anew: the power comes on, the plain drive takes a command, a reset begins
-- or ends, and a failing step changes the drive (own)
abbrev pub counts_anew : Call → Plain → Bool
counts_anew (of_access a) q = gives_command a q.device.file || turns_reset a q.device.file
counts_anew of_turn q = false
counts_anew (of_step Good effect) q = false
counts_anew (of_step Bad Changed) q = true
counts_anew (of_step Bad Nothing) q = false
counts_anew of_tick q = false
counts_anew (of_frame frame stray) q = false
counts_anew of_power_on q = true

-- how often these items ask for a tag
abbrev pub asks_for : ℕ → List Item → ℕ
asks_for tag [] = zero
asks_for tag (item.Asked one ∷ items) =
    if one == tag then suc (asks_for tag items) else asks_for tag items
asks_for tag (other ∷ items) = asks_for tag items

-- and how often those of a turn do
abbrev pub asks_in_turn : ℕ → Call → List Item → ℕ
asks_in_turn tag of_turn items = asks_for tag items
asks_in_turn tag other items = zero

-- how often turns asked for a tag since requests are counted (own)
abbrev pub asked_in_turns : ℕ → List Line → ℕ
asked_in_turns tag [] = zero
asked_in_turns tag (line ∷ lines) =
    if counts_anew line.call line.plain then zero else
    asks_in_turn tag line.call line.items + asked_in_turns tag lines

-- turns asked for no tag more than four times (own)
abbrev pub AsksSeldom : List Line → Type 0
AsksSeldom lines = (tag : ℕ) → asked_in_turns tag lines ≤ 4
