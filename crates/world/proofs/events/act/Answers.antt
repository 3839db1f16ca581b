use Rattle.std.proofs.Common.{ap, sym, ◌∙◌, ◌++◌, []}
use Rattle.plain_drive.specs.Physical.{seen}
use Rattle.plain_run.specs.Entry.{answer_bytes, answer_items}
use Rattle.plain_run.proofs.Guest.{words_due}
use Rattle.world.specs.Machine.{physical}
use Rattle.world.proofs.EventLaws.{read_reaches, write_due, write_reaches}
use Rattle.world.proofs.events.act.Goals as goal

pub returns-in-ReadWords-clause-after : goal.returns-in-ReadWords-clause-after
returns-in-ReadWords-clause-after c = rw c.in-ReadWords.is
    (c.answer_words.ensures.after ∙ sym (read_reaches c.in-ReadWords.n (physical c.args.machine.now)))

pub returns-in-ReadWords-clause-bytes : goal.returns-in-ReadWords-clause-bytes
returns-in-ReadWords-clause-bytes c =
    let some = (rw c.in-ReadWords.is at c.requires.in_range).0 in
    rw c.in-ReadWords.is
    (c.answer_words.ensures.bytes
    ∙ sym (ap answer_bytes (words_due c.in-ReadWords.n (seen (physical c.args.machine.now)) some)))

pub returns-in-WriteWords-clause-after : goal.returns-in-WriteWords-clause-after
returns-in-WriteWords-clause-after c = rw c.in-WriteWords.is
    ((rw c.as_slice.ensures.bytes at c.write_words.ensures.after)
    ∙ sym (write_reaches c.in-WriteWords.bytes (physical c.args.machine.now)))

pub returns-in-WriteWords-clause-items : goal.returns-in-WriteWords-clause-items
returns-in-WriteWords-clause-items c = rw c.in-WriteWords.is
    (c.requires.items
    ∙ sym (ap (λ due. answer_items due ++ [])
    (write_due c.in-WriteWords.bytes (seen (physical c.args.machine.now)))))

pub returns-in-WriteWords-clause-bytes : goal.returns-in-WriteWords-clause-bytes
returns-in-WriteWords-clause-bytes c = rw c.in-WriteWords.is
    (c.requires.bytes
    ∙ sym (ap answer_bytes (write_due c.in-WriteWords.bytes (seen (physical c.args.machine.now)))))
