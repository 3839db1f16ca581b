use Rattle.std.proofs.Common.{ℕ, List, refl, ◌≡◌, ◌≤◌, ◌*◌, ◌/◌, ◌++◌, min, true, false, length, drop, replicate, ap, ap₂, ◌∙◌, arith}
use Rattle.std.proofs.lemmas.Grind.{common_steps}
use Rattle.ata_taskfile.specs.declared.Taken.TheVariants.{Good}
use Rattle.ata_taskfile.specs.declared.Phase.TheVariants.{Ready}
use Rattle.ata_taskfile.specs.Data.{is_given, gives_words}
use Rattle.ata_taskfile.specs.Device.{Device}
use Rattle.plain_drive.specs.Words.{words_read, after_words, bytes_of}
use Rattle.drive_model.specs.Drive.{device_of}
use Rattle.drive_model.proofs.Moves.{given_lawful, all_read, half_front, blank_read}
use Rattle.drive_model.proofs.drive.Drive.read_words.Goals as goal

pub returns-in-Ready-Good-default-default : goal.returns-in-Ready-Good-default-default
returns-in-Ready-Good-default-default g c =
    let s = c.args.self.now in
    let d : Device = device_of s in
    let arm = c.in-Ready-Good-default-default in
    let n : ℕ = length c.args.into.now / 2 in
    let count : ℕ = c.min-count.result in
    let filled : c.fill.new.self ≡ replicate (length c.args.into.now) 255 = grind (arith, common_steps) in
    let phase : s.file.phase ≡ Ready (Good arm.order) arm.done arm.left = grind arith in
    let gives : gives_words arm.order.form ≡ true = grind arith in
    let few : count ≡ min n arm.left = grind (arith, common_steps) in
    let whole : length c.args.into.now ≡ 2 * n = omega arith in
    let room : 2 * count ≤ length c.fill.new.self = omega arith in
    let half = half_front count c.fill.new.self room in
    let law = given_lawful s.file s.bus s.words _ arm.order arm.done arm.left phase gives s.lawful in
    let all = all_read n arm.left count (length c.args.into.now) d arm.order arm.done phase gives (s.counted ∙ law.0)
    law.1 law.2 few whole in
    record {
      bytes = ap₂ (λ (front blank : List ℕ). front ++ drop (2 * count) blank)
          (c.give_words.ensures.bytes ∙ ap (λ (k : ℕ). bytes_of (words_read k d)) half) filled ∙ all.0;
      after = c.give_words.ensures.after ∙ ap (λ (k : ℕ). after_words k d) half ∙ all.1;
      rest = c.give_words.ensures.rest;
    }

pub returns-else-gives_words : goal.returns-else-gives_words
returns-else-gives_words g c =
    let d : Device = device_of c.args.self.now in
    let filled : c.fill.new.self ≡ replicate (length c.args.into.now) 255 = grind (arith, common_steps) in
    let outside : is_given d.file.phase ≡ false = grind arith in
    let blank = blank_read (length c.args.into.now / 2) (length c.args.into.now) d outside (omega arith) in
    record { bytes = filled ∙ blank.0; after = blank.1; rest = refl }

pub returns-2 : goal.returns-2
returns-2 g c =
    let d : Device = device_of c.args.self.now in
    let filled : c.fill.new.self ≡ replicate (length c.args.into.now) 255 = grind (arith, common_steps) in
    let outside : is_given d.file.phase ≡ false = grind arith in
    let blank = blank_read (length c.args.into.now / 2) (length c.args.into.now) d outside (omega arith) in
    record { bytes = filled ∙ blank.0; after = blank.1; rest = refl }
