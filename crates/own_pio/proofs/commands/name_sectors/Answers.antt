use Rattle.own_pio.proofs.Named.{dev_clear}
use Rattle.own_pio.proofs.commands.name_sectors.Goals as goal

pub returns-clause-selected : goal.returns-clause-selected
returns-clause-selected g c =
    rw (
      c.put_register-5.ensures.put,
      c.put_register-4.ensures.put,
      c.put_register-3.ensures.put,
      c.put_register-2.ensures.put,
      c.put_register.ensures.put,
      c.requires.rests.idle,
    ) (dev_clear c.args.first c.args.count c.requires.named)
