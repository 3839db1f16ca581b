use Rattle.ata_taskfile.specs.declared.Form.TheVariants.{NoMove, PioIn, PioOut}
use Rattle.drive_model.specs.Drive.{physical_of}
use Rattle.drive_model.proofs.Worked.{by_form}
use Rattle.drive_model.proofs.drive.Drive.proceed.Goals as goal

pub returns-in-NoMove-clause-after : goal.returns-in-NoMove-clause-after
returns-in-NoMove-clause-after g c = by_form c.args.order.form NoMove c.args.order c.args.done
    (physical_of c.args.self.now) (physical_of c.end_without_data.new.self) c.args.memory.now
    c.end_without_data.result _ _ c.in-NoMove.is c.end_without_data.ensures.after

pub returns-in-PioIn-clause-after : goal.returns-in-PioIn-clause-after
returns-in-PioIn-clause-after g c = by_form c.args.order.form PioIn c.args.order c.args.done
    (physical_of c.args.self.now) (physical_of c.give_block.new.self) c.args.memory.now
    c.give_block.result _ _ c.in-PioIn.is c.give_block.ensures.after

pub returns-in-PioOut-clause-after : goal.returns-in-PioOut-clause-after
returns-in-PioOut-clause-after g c = by_form c.args.order.form PioOut c.args.order c.args.done
    (physical_of c.args.self.now) (physical_of c.receive.new.self) c.args.memory.now
    c.receive.result _ _ c.in-PioOut.is c.receive.ensures.after
