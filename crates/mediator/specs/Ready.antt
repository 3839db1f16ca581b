-- How soon a monitor becomes ready: how many helpful turns stand before that, and how many are still to come at most.
use Rattle.std.specs.Prelude.{ℕ, suc, ◌≡◌, ◌<◌, ◌+◌, Bool, true, false, List}
use Rattle.ata_taskfile.specs.declared.registers.TheConstants.{BSY}
use Rattle.ata_taskfile.specs.TaskFile.{has_bit, status}
use Rattle.ata_taskfile.specs.Device.{Device}
use Rattle.fill_bitmap.specs.declared.area.Area.{Area}
use Rattle.fill_bitmap.specs.Area.{bitmap_sectors_of}
use Rattle.streaming.specs.Helpful.{HasHelpful, SteppedWell, ready_bound, was_ready}
use Rattle.streaming.specs.Lines.{Line}
use Rattle.monitor_state.specs.declared.parts.Parts.{Parts}
use Rattle.monitor_state.specs.declared.state.State.{State}
use Rattle.monitor_state.specs.Opening.{opening_left}
use Rattle.monitor_state.specs.State.{is_opened}

-- the helpful turns so far, over blocks of so many sectors, and what is left to do stay below a bound; and where a
-- drive is at work although a good step came since the last of them, by one more, since the next one needn't lower what
-- is left (own)
pub record IsInTime (block most left : ℕ) (at_work : Bool) (lines : List Line) : Type 0 where
  pub below : (n : ℕ) → HasHelpful block n lines → n + left < most
  pub waits : at_work ≡ true → SteppedWell block lines → (n : ℕ) → HasHelpful block n lines
      → suc n + left < most

-- so it is of what is left of opening, over an area
abbrev pub OpensInTime : Area → State → Parts → Device → List Line → Type 0
OpensInTime area s p d lines =
    IsInTime area.block (ready_bound (bitmap_sectors_of area)) (opening_left s p d)
    (has_bit BSY (status d.file)) lines

-- a monitor becomes ready in time: once opening has ended it was told, and until then it goes on in time (own)
pub record BecomesReady (s : State) (p : Parts) (d : Device) (lines : List Line) : Type 0 where
  pub told : was_ready lines ≡ false → is_opened p ≡ false
  pub in_time : is_opened p ≡ false → OpensInTime p.area s p d lines
