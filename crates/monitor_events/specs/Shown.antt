-- How a step leads the drive to where the monitor finds it.
use Rattle.ata_taskfile.specs.declared.Step.{Step}
use Rattle.ata_taskfile.specs.declared.Stepped.{Stepped}
use Rattle.ata_taskfile.specs.Lawful.{IsLawful}
use Rattle.plain_drive.specs.Plain.{Plain}
use Rattle.plain_drive.specs.Seen.{HasStepped}
use Rattle.monitor_state.specs.declared.state.State.{State}
use Rattle.monitor_state.specs.declared.parts.Parts.{Parts}
use Rattle.monitor_state.specs.Fits.{Fits, IsBetweenEvents}

-- a drive made a step, from one which the monitor fitted between two events
pub record HasComeTo (s : State) (p : Parts) (kind : Step) (effect : Stepped)
    (old now : Plain) : Type 0 where
  pub lawful : IsLawful old.device
  pub fits : Fits s p old.device
  pub between : IsBetweenEvents s old.device
  pub stepped : HasStepped kind effect old now
