use Rattle.std.proofs.Common.{◌/◌, length, sym, ap, ◌∙◌, arith}
use Rattle.ata_taskfile.specs.declared.Phase.{Phase}
use Rattle.ata_taskfile.specs.Device.{Device, with_phase}
use Rattle.plain_drive.specs.Words.{bytes_of}
use Rattle.drive_model.specs.Drive.{device_of}
use Rattle.drive_model.proofs.Moves.{given_lawful, left_of_block, some_read}
use Rattle.drive_model.proofs.drive.Drive.give_words.Goals as goal

pub returns-clause-after : goal.returns-clause-after
returns-clause-after g c =
    let s = c.args.self.now in
    let d : Device = device_of s in
    let law = given_lawful s.file s.bus s.words _ c.args.order c.args.done c.args.left c.requires.phase c.requires.gives
    s.lawful in
    let all = some_read (length c.args.into.now / 2) c.args.left d c.args.order c.args.done c.requires.phase
    c.requires.gives (s.counted ∙ law.0) law.1 c.requires.few law.2 in
    ap (λ (p : Phase). with_phase p d) c.phase_given-self.ensures ∙ sym all.1

pub returns-clause-bytes : goal.returns-clause-bytes
returns-clause-bytes g c =
    let s = c.args.self.now in
    let d : Device = device_of s in
    let law = given_lawful s.file s.bus s.words _ c.args.order c.args.done c.args.left c.requires.phase c.requires.gives
    s.lawful in
    let all = some_read (length c.args.into.now / 2) c.args.left d c.args.order c.args.done c.requires.phase
    c.requires.gives (s.counted ∙ law.0) law.1 c.requires.few law.2 in
    let left = left_of_block (length c.args.into.now / 2) c.args.left c.from-first.result _ s.words s.block law.0
    c.from-first.ensures law.1 c.requires.few (omega arith) in
    c.put_words.ensures ∙ ap bytes_of (left ∙ sym all.0)
