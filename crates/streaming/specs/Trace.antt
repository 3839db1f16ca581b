-- A drive that a monitor reaches: the step of each event is the drive's own, and then come register accesses that the
-- monitor chooses.
use Rattle.std.specs.Prelude.{ℕ, ◌≡◌, true, List, length}
use Rattle.ata_taskfile.specs.Accesses.{Reaches}
use Rattle.ata_taskfile.specs.Lawful.{is_just_taken}
use Rattle.plain_drive.specs.Physical.{Physical, physical_cut, physical_destaged, physical_step, seen}
use Rattle.schedule_text.specs.declared.Event.{Event}
use Rattle.schedule_text.specs.declared.Event.TheVariants as event
use Rattle.schedule_text.specs.declared.Item.{Item}
use Rattle.schedule_text.specs.Taken.{commands_due}
use Rattle.plain_run.specs.Event.{zeroed}
use Rattle.plain_run.specs.Guest.{memory_written}

-- the drive after what an event does to it by itself: a step, a destage or a power cut
abbrev pub moved_by : Event → Physical → Physical
moved_by (event.Drive s) p = physical_step s p
moved_by (event.Destage k) p = physical_destaged k p
moved_by event.Cut p = physical_cut (zeroed p.memory) p
moved_by other p = p

-- the guest's memory once the drive has moved and the event is over: the guest may have written it, and in a turn the
-- monitor may have, for the guest's bus master
abbrev pub MemoryGoes : Event → List ℕ → List ℕ → Type 0
MemoryGoes (event.WriteMemory address bytes) old new = new ≡ memory_written address bytes old
MemoryGoes event.Turn old new = length new ≡ length old
MemoryGoes other old new = new ≡ old

-- an event of a drive that a monitor reaches, of which these commands are told:
pub record IsTraced (one : Event) (commands : List Item) (old new : Physical) : Type 0 where
  -- the drive moves as the event says, and then register accesses reach it and no sector
  pub reached : Reaches (seen (moved_by one old)).device (seen new).device
  pub kept : new.kept ≡ (moved_by one old).kept
  pub memory : MemoryGoes one (moved_by one old).memory new.memory
  -- the command that is told is the one that it took, if any
  pub commands_are : commands ≡ commands_due old.file new.file
  -- none is hidden: where it stands at a command of which nothing is done, before the event and after it, that is the
  -- same command, and it stood there too when the drive had moved
  pub begins : is_just_taken old.file.phase ≡ true → is_just_taken new.file.phase ≡ true
      → new.file.phase ≡ old.file.phase
  pub stood : is_just_taken old.file.phase ≡ true → is_just_taken new.file.phase ≡ true
      → is_just_taken (moved_by one old).file.phase ≡ true
