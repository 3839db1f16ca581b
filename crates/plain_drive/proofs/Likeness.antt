-- Drives that a guest can't tell apart stay so, through each access, step and destage.
use Rattle.std.proofs.Common.{◌≡◌, ℕ, ◌+◌, true, false, List, refl, sym, ap, ◌∙◌, subst}
use Rattle.ata_taskfile.specs.declared.Step.{Step}
use Rattle.ata_taskfile.specs.declared.Stepped.{Stepped}
use Rattle.ata_taskfile.specs.declared.Access.{Access}
use Rattle.ata_taskfile.specs.declared.task_file.TaskFile.{TaskFile}
use Rattle.ata_taskfile.specs.Device.{Device, Cell}
use Rattle.ata_taskfile.specs.Access.{accessed, answer_to}
use Rattle.ata_taskfile.specs.Lawful.{IsLawful}
use Rattle.ata_taskfile.proofs.Cells.{accessed-cells}
use Rattle.plain_drive.specs.Plain.{Plain, sector_value}
use Rattle.plain_drive.specs.Change.{change_made, cells_after}
use Rattle.plain_drive.specs.Step.{acts, step_made}
use Rattle.plain_drive.specs.Seen.{HasStepped, HasLetGo}
use Rattle.plain_drive.specs.Alike.{IsAlike, ReadAlike, without_command, beside_command, block_matters, reads_sector, after_access, gives_command}
use Rattle.plain_drive.proofs.CellEnds.{ends-current}
use Rattle.plain_drive.proofs.Dressed.{dressed, dressed_drive, matters_before, reads_before, due_read, step_reads, step_leaves, step_sectors, answer_dressed, accessed_dressed, acts_dressed, change_dressed, file_dressed, bus_dressed, block_dressed, memory_dressed, block_accessed, command_accessed, command_stepped}

-- registers that are the same but for that byte are the same with it
with_byte : (f g : TaskFile) → without_command g ≡ without_command f → g ≡ record f { command = g.command }
with_byte f g same = ap (λ (h : TaskFile). record h { command = g.command }) same

module _ (d e : Plain) (alike : IsAlike d e) where
  abbrev byte : ℕ
  byte = e.device.file.command

  abbrev block : List ℕ
  block = e.device.block

  abbrev cells : List Cell
  cells = e.device.cells

  -- one is the other with another byte of the last command, another block and other cells
  dressed_as : e ≡ dressed_drive byte block cells d
  dressed_as = λ i. record {
    device = record {
      file = with_byte d.device.file e.device.file alike.file i;
      bus = alike.bus i;
      block = block;
      cells = cells;
      sectors = alike.sectors i;
    };
    memory = alike.memory i;
  }

  pub answers_alike : (a : Access) → answer_to a e.device ≡ answer_to a d.device
  answers_alike a = ap (λ (r : Plain). answer_to a r.device) dressed_as
      ∙ answer_dressed byte block cells a d.device alike.block

  pub acts_alike : (s : Step) → acts s e ≡ acts s d
  acts_alike s = ap (acts s) dressed_as ∙ acts_dressed byte block cells s d

  pub changes_alike : (s : Step) → change_made s e ≡ change_made s d
  changes_alike s = ap (change_made s) dressed_as ∙ change_dressed byte block cells s d alike.block

  -- an access, where the sectors that are read then have the same values
  pub accessed_alike : (a : Access) → ReadAlike (accessed a d.device).file.phase d.device e.device
      → IsAlike (after_access a d) (after_access a e)
  accessed_alike a values =
      let after : Plain → Device = λ r. accessed a r.device in
      let worn = accessed_dressed byte block cells a d.device in
      record {
        file = ap (λ r. without_command (after r).file) dressed_as ∙ ap (λ (r : Device). r.file) worn;
        bus = ap (λ r. (after r).bus) dressed_as ∙ ap (λ (r : Device). r.bus) worn;
        block = λ held. ap (λ r. (after r).block) dressed_as
            ∙ ap (λ words. (accessed a (dressed byte words cells d.device)).block)
            (alike.block (matters_before a d.device held))
            ∙ block_accessed byte cells a d.device;
        sectors = ap (λ r. (after r).sectors) dressed_as ∙ ap (λ (r : Device). r.sectors) worn;
        memory = alike.memory;
        values = λ t read.
            ap (λ c. sector_value t (record e.device { cells = c })) (accessed-cells a e.device)
            ∙ values t read
            ∙ ap (λ c. sector_value t (record d.device { cells = c })) (sym (accessed-cells a d.device));
      }

  -- an access that gives no command
  pub accessed_on_alike : (a : Access) → gives_command a d.device.file ≡ false
      → IsAlike (after_access a d) (after_access a e)
  accessed_on_alike a none = accessed_alike a (λ t read. alike.values t (reads_before a d.device t none read))

  -- a step of both
  pub step_alike : (s : Step) → IsLawful d.device → IsAlike (step_made s d) (step_made s e)
  step_alike s lawful = record {
    file = ap (λ r. without_command (step_made s r).device.file) dressed_as
        ∙ ap without_command (file_dressed byte block cells s d);
    bus = ap (λ r. (step_made s r).device.bus) dressed_as ∙ bus_dressed byte block cells s d;
    block = λ held. ap (λ r. (step_made s r).device.block) dressed_as
        ∙ block_dressed byte block cells s d alike.block alike.values lawful.registers.goes_on.goes_on held;
    sectors = step_sectors s e ∙ alike.sectors ∙ sym (step_sectors s d);
    memory = ap (λ r. (step_made s r).memory) dressed_as
        ∙ memory_dressed byte block cells s d
        (λ order done busy form more. alike.values (order.first + done)
        (due_read d.device.file.phase order done lawful.registers.goes_on.possible busy form more));
    values = λ t read.
        let leaves_cells = step_leaves s d t read in
        ap (λ change. sector_value t (record e.device { cells = cells_after change cells }))
        (changes_alike s ∙ leaves_cells)
        ∙ alike.values t (step_reads s d t read)
        ∙ ap (λ change. sector_value t (record d.device { cells = cells_after change d.device.cells }))
        (sym leaves_cells);
  }

  -- the first lets older values of its sectors go
  pub destage_alike : (new : Plain) → HasLetGo d new → IsAlike new e
  destage_alike new gone = subst (λ r. IsAlike r e) (sym gone.after) (record {
    file = alike.file;
    bus = alike.bus;
    block = alike.block;
    sectors = alike.sectors;
    memory = alike.memory;
    values = λ t read. alike.values t read ∙ sym (ends-current new.device.cells d.device.cells t gone.cells);
  })

-- a step of both, in which the first lets older values of its sectors go
pub let_go_alike : (s : Step) (answer : Stepped) (d e new : Plain) → IsLawful d.device → IsAlike d e
    → HasStepped s answer d new → IsAlike new (step_made s e)
let_go_alike s answer d e new lawful alike made =
    destage_alike (step_made s d) (step_made s e) (step_alike d e alike s lawful) new
    (record { after = made.after; cells = made.cells })

-- each drive is like itself
pub alike_itself : (d : Plain) → IsAlike d d
alike_itself d = record {
  file = refl;
  bus = refl;
  block = λ held. refl;
  sectors = refl;
  memory = refl;
  values = λ t read. refl;
}

-- likeness goes both ways
pub alike_back : (d e : Plain) → IsAlike d e → IsAlike e d
alike_back d e alike =
    let phases = ap (λ (f : TaskFile). f.phase) alike.file in
    record {
      file = sym alike.file;
      bus = sym alike.bus;
      block = λ held. sym (alike.block (subst (λ phase. block_matters phase ≡ true) phases held));
      sectors = sym alike.sectors;
      memory = sym alike.memory;
      values = λ t read. sym (alike.values t (subst (λ phase. reads_sector phase t ≡ true) phases read));
    }

-- drives that differ in the byte of the last command alone
module _ (d e : Plain) (same : beside_command e ≡ beside_command d) where
  command_as : e ≡ dressed_drive e.device.file.command d.device.block d.device.cells d
  command_as = ap (λ (p : Plain). record p {
    device = record p.device { file = record p.device.file { command = e.device.file.command } };
  }) same

  pub same_answer_beside : (a : Access) → answer_to a e.device ≡ answer_to a d.device
  same_answer_beside a = ap (λ (r : Plain). answer_to a r.device) command_as
      ∙ answer_dressed e.device.file.command d.device.block d.device.cells a d.device (λ held. refl)

  pub accessed_beside : (a : Access) → beside_command (after_access a e) ≡ beside_command (after_access a d)
  accessed_beside a = ap (λ r. beside_command (after_access a r)) command_as
      ∙ ap (λ r. record d { device = r }) (command_accessed e.device.file.command a d.device)

  pub acts_beside : (s : Step) → acts s e ≡ acts s d
  acts_beside s = ap (acts s) command_as
      ∙ acts_dressed e.device.file.command d.device.block d.device.cells s d

  pub stepped_beside : (s : Step) → beside_command (step_made s e) ≡ beside_command (step_made s d)
  stepped_beside s = ap (λ r. beside_command (step_made s r)) command_as
      ∙ ap beside_command (command_stepped e.device.file.command s d)
