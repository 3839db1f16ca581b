use Rattle.std.proofs.Common.{ap, sym, ◌∙◌}
use Rattle.ata_taskfile.specs.declared.task_file.TaskFile.{TaskFile}
use Rattle.ata_taskfile.specs.Lawful.{is_just_taken}
use Rattle.plain_run.proofs.Told.{drive_event_noted, drive_event_unnoted}
use Rattle.plain_drive.specs.Physical.{seen}
use Rattle.world.specs.Machine.{physical}
use Rattle.world.proofs.EventLaws.{few_due}
use Rattle.world.proofs.events.apply.Goals as goal

pub returns-then-not-was_taken : goal.returns-then-not-was_taken
returns-then-not-was_taken c =
    let before = ap (λ (f : TaskFile). is_just_taken f.phase) (sym c.file.ensures)
    ∙ sym c.is_just_taken-was_taken.ensures ∙ c.if-not-was_taken.true in
    record {
      event = rw (c.note_command.ensures.items, c.note_command.ensures.bytes, c.file-then-not-was_taken.ensures)
          (drive_event_noted _ _ _ (physical c.args.machine.now) (physical c.act.new.machine) c.act.ensures.after
          c.act.ensures.items c.act.ensures.bytes before);
    }

pub returns-else-not-was_taken : goal.returns-else-not-was_taken
returns-else-not-was_taken c =
    let before = ap (λ (f : TaskFile). is_just_taken f.phase) (sym c.file.ensures)
    ∙ sym c.is_just_taken-was_taken.ensures ∙ c.if-not-was_taken.false in
    record {
      event = drive_event_unnoted _ _ _ (physical c.args.machine.now) (physical c.act.new.machine)
          c.act.ensures.after c.act.ensures.items c.act.ensures.bytes before;
    }

pub note_command-requires : goal.note_command-requires
note_command-requires c = rw c.act.ensures.items
    (few_due c.args.event.now (seen (physical c.args.machine.now)))
