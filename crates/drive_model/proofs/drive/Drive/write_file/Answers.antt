use Rattle.std.proofs.Common.{◌∙◌, sym, subst}
use Rattle.ata_taskfile.specs.declared.task_file.TaskFile.{TaskFile}
use Rattle.ata_taskfile.specs.declared.bus_master.Bus.{Bus}
use Rattle.ata_taskfile.specs.TaskFile.{after_write}
use Rattle.ata_taskfile.specs.Device.{in_hand}
use Rattle.ata_taskfile.specs.Lawful.{IsLawfulState}
use Rattle.ata_taskfile.proofs.Lawfulness.{stored_lawful, command_lawful, reset_lawful}
use Rattle.ata_taskfile.proofs.Ends.{bus_in_reset_lawful}
use Rattle.drive_model.proofs.drive.Drive.write_file.Goals as goal

pub put_file-requires : goal.put_file-requires
put_file-requires g c =
    rw c.in-Stored.ensures.after
    (stored_lawful c.args.reg c.args.v c.args.self.now.file c.args.self.now.bus c.args.self.now.words
    (g.S.Store.sectors c.args.self.now.sectors.store).count (sym c.in-Stored.ensures.wrote) c.args.self.now.lawful)

pub put_file-requires-in-Command : goal.put_file-requires-in-Command
put_file-requires-in-Command g c =
    let after = λ (f : TaskFile). IsLawfulState
    (in_hand c.in-Command.byte (g.S.Store.sectors c.args.self.now.sectors.store).count f) c.args.self.now.bus
    c.args.self.now.words (g.S.Store.sectors c.args.self.now.sectors.store).count in
    rw (c.of.ensures, c.read_request-order.ensures, c.sectors.ensures)
    (subst after (sym c.write.ensures.after)
    (command_lawful c.args.reg c.args.v c.in-Command.byte c.args.self.now.file c.args.self.now.bus
    c.args.self.now.words (g.S.Store.sectors c.args.self.now.sectors.store).count
    (sym c.write.ensures.wrote ∙ c.in-Command.is) c.args.self.now.lawful))

pub invariant_of-self-clause-lawful : goal.invariant_of-self-clause-lawful
invariant_of-self-clause-lawful g c =
    rw c.reset_in.ensures
    (bus_in_reset_lawful c.args.self.now.file.phase c.args.self.now.file c.args.self.now.bus c.args.self.now.words
    (g.S.Store.sectors c.args.self.now.sectors.store).count c.args.self.now.lawful)

pub put_file-requires-in-ResetBegun : goal.put_file-requires-in-ResetBegun
put_file-requires-in-ResetBegun g c =
    let d = c.args.self.now in let n = (g.S.Store.sectors d.sectors.store).count in
    let at = λ (f : TaskFile) (b : Bus). IsLawfulState f b d.words n in
    subst (λ (f : TaskFile). at f c.reset_in.new.self) (sym c.in-ResetBegun.ensures.after)
    (subst (λ (b : Bus). at (after_write c.args.reg c.args.v d.file) b) (sym c.reset_in.ensures)
    (reset_lawful c.args.reg c.args.v d.file d.bus d.words n (sym c.in-ResetBegun.ensures.wrote) d.lawful))
