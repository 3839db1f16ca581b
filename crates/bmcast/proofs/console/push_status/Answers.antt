use Rattle.std.proofs.Common.{◌∙◌, append_assoc, codes}
use Rattle.bmcast.proofs.console.push_status.Goals as goal

pub returns-in-Unsuitable-clause-text : goal.returns-in-Unsuitable-clause-text
returns-in-Unsuitable-clause-text c =
    rw (c.in-Unsuitable.is, ← c.why_name.ensures.name)
    (c.push_two.ensures.text ∙ append_assoc c.args.line.now.items (codes "unsuitable: ") c.why_name.result.now)

pub returns-in-ReadFault-clause-text : goal.returns-in-ReadFault-clause-text
returns-in-ReadFault-clause-text c =
    rw (c.in-ReadFault.is, ← c.role_name.ensures.name)
    (c.push_two-in-ReadFault.ensures.text ∙ append_assoc c.args.line.now.items (codes "cannot read ")
    c.role_name.result.now)

pub returns-in-WriteFault-clause-text : goal.returns-in-WriteFault-clause-text
returns-in-WriteFault-clause-text c =
    rw (c.in-WriteFault.is, ← c.role_name-in-WriteFault.ensures.name)
    (c.push_two-in-WriteFault.ensures.text
    ∙ append_assoc c.args.line.now.items (codes "cannot write ") c.role_name-in-WriteFault.result.now)
