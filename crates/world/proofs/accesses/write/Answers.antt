use Rattle.std.proofs.Common.{◌++◌, sym, ap, ◌∙◌}
use Rattle.mediator.specs.Mediator.{parts_of, state_of}
use Rattle.monitor_access.specs.Marks.{mark_due}
use Rattle.monitor_state.specs.Seen.{file_seen}
use Rattle.streaming.specs.Monitor.{item_of}
use Rattle.world.specs.Coupled.{closes}
use Rattle.world.specs.Machine.{device, physical}
use Rattle.world.proofs.KeptEvents.{seen_unmarked, unmarked_none}
use Rattle.world.proofs.accesses.write.Goals as goal

pub returns-clause-kept : goal.returns-clause-kept
returns-clause-kept c = λ not k q lines stand.
    let m = c.args.mediator.now in
    let p = physical c.args.machine.now in
    let a = c.args.access.now in
    let items = c.make.ensures.items ∙ ap (λ front. front ++ item_of (mark_due (state_of m) (parts_of m)
    (device c.args.machine.now) a)) c.requires.items in
    c.make.ensures.kept k q lines stand
    (seen_unmarked k m p q lines a stand
    (unmarked_none (file_seen (state_of m) (device c.args.machine.now)) (parts_of m) a (sym (ap closes items) ∙ not)))
