use Rattle.std.proofs.Common.{length, sym, ap, ◌∙◌}
use Rattle.plain_drive.specs.Physical.{fresh, physical_at_power_on}
use Rattle.world.specs.Machine.{list_of}
use Rattle.world.proofs.disk.load.Goals as goal

pub returns-clause-began : goal.returns-clause-began
returns-clause-began g c =
    let store = c.in-Ok-new-2.drive.sectors.store in
    c.in-Ok-new-2.ensures.power_on c.in-Ok-new.memory
    ∙ ap (λ s. physical_at_power_on (fresh 64 (list_of s)) (length (list_of s)) c.in-Ok-new.memory)
    (sym c.in-Ok-new-2.ensures.store)
    ∙ ap (λ m. physical_at_power_on (fresh 64 (list_of store)) (length (list_of store)) m) c.in-Ok-new.ensures.zeros
