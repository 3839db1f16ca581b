-- The events that aren't built yet for a run with an image.
use Rattle.std.specs.Prelude.{Bool, true, false, not}
use Rattle.ata_taskfile.specs.declared.registers.TheConstants.{SRST}
use Rattle.ata_taskfile.specs.TaskFile.{has_bit}
use Rattle.ata_taskfile.specs.declared.Reg.TheVariants.{Alternate}
use Rattle.schedule_text.specs.declared.Event.{Event}
use Rattle.schedule_text.specs.declared.Event.TheVariants as event

-- an event that a run with an image knows: for now no power cut, and no write that sets SRST (own)
abbrev pub is_built : Event → Bool
is_built event.Cut = false
is_built (event.Write8 Alternate v) = not (has_bit SRST v)
is_built other = true
