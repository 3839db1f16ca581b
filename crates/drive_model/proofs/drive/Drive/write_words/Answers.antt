use Rattle.std.proofs.Common.{refl, ◌≡◌, ◌/◌, min, true, false, length, sym, ◌∙◌, arith}
use Rattle.std.proofs.lemmas.Grind.{common_steps}
use Rattle.ata_taskfile.specs.declared.Taken.TheVariants.{Good}
use Rattle.ata_taskfile.specs.declared.Phase.TheVariants.{Ready}
use Rattle.ata_taskfile.specs.Data.{is_wanted, takes_words}
use Rattle.ata_taskfile.specs.Device.{Device}
use Rattle.plain_drive.specs.Plain.{words_of}
use Rattle.drive_model.specs.Drive.{device_of}
use Rattle.drive_model.proofs.Moves.{wanted_lawful, all_written, none_written}
use Rattle.drive_model.proofs.drive.Drive.write_words.Goals as goal

pub returns-in-Ready-Good-default-default-clause-after : goal.returns-in-Ready-Good-default-default-clause-after
returns-in-Ready-Good-default-default-clause-after g c =
    let s = c.args.self.now in
    let d : Device = device_of s in
    let arm = c.in-Ready-Good-default-default in
    let phase : s.file.phase ≡ Ready (Good arm.order) arm.done arm.left = grind arith in
    let takes : takes_words arm.order.form ≡ true = grind arith in
    let few : c.min-count.result ≡ min (length c.args.bytes.now / 2) arm.left = grind (arith, common_steps) in
    let law = wanted_lawful s.file s.bus s.words _ arm.order arm.done arm.left phase takes s.lawful in
    c.take_words.ensures.after
    ∙ all_written c.args.bytes.now arm.left c.min-count.result d arm.order arm.done phase takes law.1 few

pub returns-else-takes_words-clause-after : goal.returns-else-takes_words-clause-after
returns-else-takes_words-clause-after g c =
    let d : Device = device_of c.args.self.now in
    let outside : is_wanted d.file.phase ≡ false = grind arith in
    sym (none_written (words_of c.args.bytes.now) d outside)

pub returns-2 : goal.returns-2
returns-2 g c =
    let d : Device = device_of c.args.self.now in
    let outside : is_wanted d.file.phase ≡ false = grind arith in
    record { after = sym (none_written (words_of c.args.bytes.now) d outside); rest = refl }
