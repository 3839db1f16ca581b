-- What a call that tells of steps makes of every plain drive that the guest sees.
use Rattle.std.specs.Prelude.{ℕ, List}
use Rattle.ata_taskfile.specs.Device.{Device}
use Rattle.plain_drive.specs.Plain.{Plain}
use Rattle.schedule_text.specs.declared.Item.{Item}
use Rattle.plain_run.specs.Plan.{ActsAlong, planned}
use Rattle.monitor_state.specs.declared.state.State.{State}
use Rattle.monitor_state.specs.declared.parts.Parts.{Parts}
use Rattle.monitor_state.specs.Seen.{Shows}
use Rattle.monitor_state.specs.Sectors.{SectorsAgree}

-- every plain drive that the guest sees before, and that has the sectors which it gets, makes the steps that are told,
-- each with an effect, and is what the guest sees afterwards
abbrev pub GoesOn : State → Parts → Device → List ℕ → List Item → State → Parts → Device → List ℕ
    → Type 0
GoesOn s p d memory items t r e left = (q : Plain) → Shows s p d memory q → SectorsAgree s p d q
    → ActsAlong items q × Shows t r e left (planned items q)
