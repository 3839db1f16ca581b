use Rattle.std.proofs.Common.{ℕ, List, ◌≡◌, ◌/◌, ◌++◌, take, length, sym, ap, ap₂, ◌∙◌, arith}
use Rattle.ata_taskfile.specs.declared.Phase.{Phase}
use Rattle.ata_taskfile.specs.Device.{Device, with_phase}
use Rattle.plain_drive.specs.Plain.{words_of}
use Rattle.plain_drive.proofs.Blocks.{length_words}
use Rattle.drive_model.specs.Data.{words_taken}
use Rattle.drive_model.specs.Drive.{device_of}
use Rattle.drive_model.proofs.Moves.{wanted_lawful, block_taken, some_written}
use Rattle.drive_model.proofs.drive.Drive.take_words.Goals as goal

pub returns-clause-after : goal.returns-clause-after
returns-clause-after g c =
    let s = c.args.self.now in
    let d : Device = device_of s in
    let n : ℕ = length c.args.bytes.now / 2 in
    let words : List ℕ = words_of c.args.bytes.now in
    let many : length words ≡ n = length_words n c.args.bytes.now (omega arith) in
    let law = wanted_lawful s.file s.bus s.words _ c.args.order c.args.done c.args.left c.requires.phase
    c.requires.takes s.lawful in
    let all = some_written words c.args.left d c.args.order c.args.done c.requires.phase c.requires.takes
    (omega arith) law.1 in
    let first : c.from-first.result ≡ s.words = c.from-first.ensures in
    let phase = c.phase_taken-self.ensures ∙ ap (words_taken c.args.order c.args.done c.args.left) (sym many) in
    let block = rw first (block_taken s.words n (take s.words s.block) c.get_words.new.words _ s.counted
    (ap length c.get_words.ensures ∙ many)) ∙ ap (λ (ws : List ℕ). take s.words s.block ++ ws) c.get_words.ensures in
    ap₂ (λ (p : Phase) (b : List ℕ). with_phase p (record d { block = b })) phase block ∙ sym all
