use Rattle.std.proofs.Common.{◌≡◌, rules}
use Rattle.ata_taskfile.specs.declared.Access.TheVariants as access
use Rattle.ata_taskfile.specs.Access.{accessed}
use Rattle.ata_taskfile.proofs.Reaching.{reaches_more}
use Rattle.drive_model.specs.Drive.{device_of}
use Rattle.drive_model.proofs.ports.DrivePorts.write_pointer.Goals as goal

pub returns-clause-reached : goal.returns-clause-reached
returns-clause-reached g c = λ origin reached.
    let is : _ ≡ accessed (access.WritePointer c.args.v) (device_of c.args.self.now) = search rules in
    reaches_more (access.WritePointer c.args.v) origin (device_of c.args.self.now) _ is reached
