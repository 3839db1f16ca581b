use Rattle.std.proofs.Common.{sym, ◌∙◌}
use Rattle.plain_drive.specs.Physical.{seen}
use Rattle.plain_drive.specs.Step.{acts}
use Rattle.world.specs.Machine.{physical}
use Rattle.world.proofs.EventLaws.{step_told, step_untold}
use Rattle.world.proofs.events.make_step.Goals as goal

pub returns-clause-items : goal.returns-clause-items
returns-clause-items c =
    step_told c.args.step (acts c.args.step (seen (physical c.args.machine.now))) _
    (sym c.in_default.is ∙ c.step.ensures.answer)
    (rw (c.requires.items, c.step_item.ensures) at c.push.ensures.items)

pub returns-in-Nothing-clause-items : goal.returns-in-Nothing-clause-items
returns-in-Nothing-clause-items c =
    step_untold c.args.step (acts c.args.step (seen (physical c.args.machine.now))) _
    (sym c.in-Nothing.is ∙ c.step.ensures.answer) c.requires.items
