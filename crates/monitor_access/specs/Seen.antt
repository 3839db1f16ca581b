-- What an access of the guest sees, whoever has the drive.
use Rattle.std.specs.Prelude.{ℕ, ◌≡◌, true, List, Option, None}
use Rattle.ata_taskfile.specs.declared.Access.{Access}
use Rattle.ata_taskfile.specs.declared.Answer.{Answer}
use Rattle.ata_taskfile.specs.Access.{answer_to}
use Rattle.ata_taskfile.specs.Data.{word_in}
use Rattle.ata_taskfile.specs.Device.{Device}
use Rattle.port_lease.specs.declared.view.View.{View}
use Rattle.plain_drive.specs.Alike.{after_access}
use Rattle.plain_drive.specs.Plain.{Plain}
use Rattle.port_lease.specs.Seen.{on_guest_side}
use Rattle.port_lease.specs.Sides.{view_held, view_kept}
use Rattle.guest_view.specs.Seen.{on_monitor_side}
use Rattle.guest_view.specs.View.{reads_block}
use Rattle.monitor_state.specs.declared.state.State.{State}
use Rattle.monitor_state.specs.declared.state.State.TheVariants.{Guest, Monitor, Running, Raising, Moving}
use Rattle.monitor_state.specs.declared.parts.Parts.{Parts}
use Rattle.monitor_state.specs.Pieces.{word_offered}
use Rattle.monitor_state.specs.Seen.{Shows}
use Rattle.schedule_text.specs.declared.Item.{Item}

-- the answer is that of the device which view and drive make up, with the words of the held piece in Data
abbrev pub IsViews : View → Parts → Device → Access → Answer → Type 0
IsViews v p d a answer = (g : Device) →
    (reads_block a v.file.phase ≡ true
    → word_in v.file.phase g.block ≡ word_offered v.file.phase p.held p.pool)
    → answer ≡ answer_to a (on_monitor_side v d g)

-- the answer is that of the one device which the guest sees, whoever has the drive
abbrev pub IsAnswered : State → Parts → Device → Access → Answer → Type 0
IsAnswered (Guest side) p d a answer = answer ≡ answer_to a (on_guest_side (view_kept side) d)
IsAnswered (Monitor side) p d a answer = IsViews (view_held side) p d a answer
IsAnswered (Running side own why) p d a answer = IsViews (view_held side) p d a answer
IsAnswered (Raising side dummy planned) p d a answer = IsViews (view_held side) p d a answer
IsAnswered Moving p d a answer = ⊥

-- an access without a mark leads every plain drive that the guest sees to the one that it sees afterwards
abbrev pub IsShown : State → Parts → Device → Access → Option Item → State → Parts → Device → Type 0
IsShown s p d a mark t r e = (memory : List ℕ) (q : Plain) → Shows s p d memory q → mark ≡ None
    → Shows t r e memory (after_access a q)
