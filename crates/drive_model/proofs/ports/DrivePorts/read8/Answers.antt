use Rattle.std.proofs.Common.{◌≡◌, rules}
use Rattle.ata_taskfile.specs.declared.Access.TheVariants as access
use Rattle.ata_taskfile.specs.Access.{accessed}
use Rattle.ata_taskfile.proofs.Reaching.{reaches_more}
use Rattle.drive_model.specs.Drive.{device_of}
use Rattle.drive_model.proofs.ports.DrivePorts.read8.Goals as goal

pub returns-clause-reached : goal.returns-clause-reached
returns-clause-reached g c = λ origin reached.
    let is : device_of c.put_file.new.self
    ≡ accessed (access.Read8 c.args.reg) (device_of c.args.self.now) = search rules in
    reaches_more (access.Read8 c.args.reg) origin (device_of c.args.self.now) _ is reached
