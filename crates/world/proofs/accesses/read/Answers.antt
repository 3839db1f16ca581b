use Rattle.std.proofs.Common.{◌++◌, ap, ◌∙◌}
use Rattle.std.specs.Prelude.{◌&&◌, not}
use Rattle.ata_taskfile.specs.declared.Reg.TheVariants.{Status}
use Rattle.ata_taskfile.specs.TaskFile.{is_ignored}
use Rattle.plain_run.specs.Guest.{bytes_answered}
use Rattle.mediator.specs.Mediator.{parts_of}
use Rattle.world.specs.Machine.{physical}
use Rattle.world.proofs.Keeping.{one_answered}
use Rattle.world.proofs.KeptEvents.{untaken_none}
use Rattle.world.proofs.accesses.read.Goals as goal

pub returns-clause-answered : goal.returns-clause-answered
returns-clause-answered c =
    one_answered c.args.access.now c.args.mediator.now (physical c.args.machine.now) c.make-answer.result _
    c.make-answer.ensures.answered
    (c.push_answer.ensures.bytes ∙ ap (λ front. front ++ bytes_answered c.make-answer.result)
    (ap (λ x. x.items) c.make-answer.ensures.bytes ∙ c.requires.bytes))

pub returns-clause-kept : goal.returns-clause-kept
returns-clause-kept c = λ k q lines stand.
    c.make-answer.ensures.kept k q lines stand
    (untaken_none q.device.file (parts_of c.args.mediator.now) c.args.access.now
    (ap (λ is. is && not (is_ignored Status q.device.file)) c.requires.no_command))
