use Rattle.std.proofs.Common.{◌≡◌, rules}
use Rattle.ata_taskfile.specs.declared.Access.TheVariants as access
use Rattle.ata_taskfile.specs.Access.{accessed}
use Rattle.ata_taskfile.proofs.Lawfulness.{bus_written_lawful}
use Rattle.ata_taskfile.proofs.Reaching.{reaches_more}
use Rattle.drive_model.specs.Drive.{device_of}
use Rattle.drive_model.proofs.ports.DrivePorts.write8.Goals as goal

pub invariant_of-self-clause-lawful : goal.invariant_of-self-clause-lawful
invariant_of-self-clause-lawful g c =
    rw c.write.ensures
    (bus_written_lawful c.args.reg c.args.v c.args.self.now.file c.args.self.now.bus c.args.self.now.words
    (g.S.Store.sectors c.args.self.now.sectors.store).count c.args.self.now.lawful)

pub returns-else-is_of_bus-clause-reached : goal.returns-else-is_of_bus-clause-reached
returns-else-is_of_bus-clause-reached g c = λ origin reached.
    let is : device_of c.write_file.new.self
    ≡ accessed (access.Write8 c.args.reg c.args.v) (device_of c.args.self.now) = search rules in
    reaches_more (access.Write8 c.args.reg c.args.v) origin (device_of c.args.self.now) _ is reached

pub returns-then-is_of_bus-clause-reached : goal.returns-then-is_of_bus-clause-reached
returns-then-is_of_bus-clause-reached g c = λ origin reached.
    let is : record (device_of c.args.self.now) { bus = c.write.new.self }
    ≡ accessed (access.Write8 c.args.reg c.args.v) (device_of c.args.self.now) = search rules in
    reaches_more (access.Write8 c.args.reg c.args.v) origin (device_of c.args.self.now) _ is reached
