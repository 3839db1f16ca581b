-- What a turn leaves.
use Rattle.std.specs.Prelude.{◌≡◌, true, not, ◌&&◌, Option}
use Rattle.ata_taskfile.specs.Device.{Device}
use Rattle.schedule_text.specs.declared.Item.{Item}
use Rattle.schedule_text.specs.Taken.{commands_due}
use Rattle.monitor_state.specs.declared.state.State.{State}
use Rattle.monitor_state.specs.declared.parts.Parts.{Parts}
use Rattle.monitor_state.specs.State.{is_opened}
use Rattle.monitor_state.specs.Fits.{Fits, IsBetweenEvents}
use Rattle.streaming.specs.Told.{MayTell, command_told, tells_ready}

-- the image and the run stay as they are, and so does the bitmap once opening has ended
pub record KeepsImage (old new : Parts) : Type 0 where
  pub area : new.area ≡ old.area
  pub id : new.id ≡ old.id
  pub opening : is_opened old ≡ true → new.opening ≡ old.opening
  pub bitmap : is_opened old ≡ true → new.bitmap ≡ old.bitmap

-- the command that is told is the one that the drive has just taken, if any
abbrev pub TellsCommand : Device → Device → Option Item → Type 0
TellsCommand old new told = command_told told ≡ commands_due old.file new.file

-- that opening has ended is told in the turn in which it does
abbrev pub TellsReady : Parts → Parts → Option Item → Type 0
TellsReady old new told = tells_ready told ≡ (not (is_opened old) && is_opened new)

-- a turn, or a part of one, over parts and drive: monitor and drive fit afterwards, and what is told is what came about
pub record HasTurned (p : Parts) (d : Device) (s : State) (told : Option Item) (q : Parts)
    (e : Device) : Type 0 where
  pub fits : Fits s q e
  pub between : IsBetweenEvents s e
  pub commands : TellsCommand d e told
  pub ready : TellsReady p q told
  pub may : MayTell told
  pub image : KeepsImage p q
