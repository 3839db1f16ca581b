-- A plain drive that has the registers of a device, but for the byte of the last command, its bus master, and its block
-- where that matters: it answers as the device does, and goes on beside it.
use Rattle.std.proofs.Common.{◌≡◌, ℕ, true, false, List, [], refl, ap, ◌∙◌}
use Rattle.ata_taskfile.specs.declared.Access.{Access}
use Rattle.ata_taskfile.specs.Access.{accessed, answer_to}
use Rattle.ata_taskfile.specs.Device.{Device}
use Rattle.plain_drive.specs.Alike.{IsAlike, after_access, block_matters, without_command}
use Rattle.plain_drive.specs.Plain.{Plain, plain}
use Rattle.plain_drive.proofs.Dressed.{accessed_dressed, answer_dressed, block_accessed}
use Rattle.plain_drive.proofs.Likeness.{accessed_alike, answers_alike}
use Rattle.monitor_state.specs.declared.state.State.{State}
use Rattle.monitor_state.specs.declared.parts.Parts.{Parts}
use Rattle.monitor_state.specs.Seen.{Shows, block_seen, bus_seen, file_seen, refuses}

module _ (x : Device) (q : Plain) (file : without_command q.device.file ≡ without_command x.file)
    (bus : q.device.bus ≡ x.bus) (block : block_matters x.file.phase ≡ true → q.device.block ≡ x.block)
    (sectors : q.device.sectors ≡ x.sectors) where
  -- the device with the drive's sectors
  abbrev with_its : Plain
  with_its = plain (record x { cells = q.device.cells }) q.memory

  alike : IsAlike with_its q
  alike = record {
    file = file;
    bus = bus;
    block = block;
    sectors = sectors;
    memory = refl;
    values = λ t read. refl;
  }

  pub answers_as : (a : Access) → answer_to a q.device ≡ answer_to a x
  answers_as a = answers_alike with_its q alike a
      ∙ answer_dressed x.file.command x.block q.device.cells a x (λ matters. refl)

  after : (a : Access) → IsAlike (after_access a with_its) (after_access a q)
  after a = accessed_alike with_its q alike a (λ t read. refl)

  -- after the same access it is what the guest sees, where that is the device then
  pub accessed_as : (a : Access) (y : Device) (t : State) (r : Parts) (e : Device) (memory : List ℕ)
      → accessed a x ≡ y → y.file ≡ file_seen t e → y.bus ≡ bus_seen t e
      → (block_matters y.file.phase ≡ true → y.block ≡ block_seen t r e) → y.sectors ≡ r.area.sectors
      → refuses t r ≡ false → q.memory ≡ memory → Shows t r e memory (after_access a q)
  accessed_as a y t r e memory is file_is bus_is block_is sectors_are served memory_is =
      let worn = accessed_dressed x.file.command x.block q.device.cells a x in
      record {
        file = (after a).file ∙ ap (λ (d : Device). d.file) worn ∙ ap (λ (d : Device). without_command d.file) is
            ∙ ap without_command file_is;
        bus = (after a).bus ∙ ap (λ (d : Device). d.bus) worn ∙ ap (λ (d : Device). d.bus) is ∙ bus_is;
        block = λ matters.
            let there : block_matters y.file.phase ≡ true
            = ap (λ f. block_matters f.phase) file_is ∙ matters in
            (after a).block
            (ap (λ (d : Device). block_matters d.file.phase) (worn ∙ ap (λ (d : Device). record d {
              file = without_command d.file;
              block = [];
              cells = q.device.cells;
            }) is) ∙ there)
            ∙ block_accessed x.file.command q.device.cells a x ∙ ap (λ (d : Device). d.block) is ∙ block_is there;
        sectors = (after a).sectors ∙ ap (λ (d : Device). d.sectors) worn ∙ ap (λ (d : Device). d.sectors) is
            ∙ sectors_are;
        memory_is = memory_is;
        served = served;
      }
