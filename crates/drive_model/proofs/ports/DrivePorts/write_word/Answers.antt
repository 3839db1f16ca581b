use Rattle.std.proofs.Common.{◌≡◌, rules}
use Rattle.ata_taskfile.specs.declared.Access.TheVariants as access
use Rattle.ata_taskfile.specs.Access.{accessed}
use Rattle.ata_taskfile.proofs.Reaching.{reaches_more}
use Rattle.drive_model.specs.Drive.{device_of}
use Rattle.drive_model.proofs.ports.DrivePorts.write_word.Goals as goal

pub returns-in-Ready-Good-default-default-clause-reached : goal.returns-in-Ready-Good-default-default-clause-reached
returns-in-Ready-Good-default-default-clause-reached g c = λ origin reached.
    let is : device_of c.push_word.new.self
    ≡ accessed (access.WriteWord c.args.w) (device_of c.args.self.now) = search rules in
    reaches_more (access.WriteWord c.args.w) origin (device_of c.args.self.now) _ is reached
