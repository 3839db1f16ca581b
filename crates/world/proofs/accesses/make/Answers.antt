use Rattle.std.proofs.Common.{ap}
use Rattle.monitor_state.specs.declared.parts.Parts.{Parts}
use Rattle.world.proofs.accesses.make.Goals as goal

pub returns-clause-answered : goal.returns-clause-answered
returns-clause-answered c = λ k q lines stand. c.access.ensures.answers k q lines stand

pub returns-clause-kept : goal.returns-clause-kept
returns-clause-kept c = λ k q lines stand unmarked. c.access.ensures.kept k q lines stand unmarked

pub returns-clause-area : goal.returns-clause-area
returns-clause-area c = ap (λ (p : Parts). p.area) c.access.ensures.others

pub returns-clause-id : goal.returns-clause-id
returns-clause-id c = ap (λ (p : Parts). p.id) c.access.ensures.others
