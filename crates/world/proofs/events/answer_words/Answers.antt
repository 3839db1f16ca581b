use Rattle.std.proofs.Common.{ℕ, ◌≡◌, ◌*◌, ◌/◌, length, ap, ◌∙◌, arith}
use Rattle.std.proofs.lemmas.Grind.{common_steps}
use Rattle.std.proofs.lemmas.List.{take_at}
use Rattle.plain_drive.specs.Words.{words_read, after_words, bytes_of}
use Rattle.world.specs.Machine.{device, physical, with_device}
use Rattle.world.proofs.events.answer_words.Goals as goal

pub returns-clause-bytes : goal.returns-clause-bytes
returns-clause-bytes c =
    let room : length c.try_extend_from_slice.new.self.items ≡ 2 * c.args.n = grind (arith, common_steps) in
    let lent = ap length c.as_mut_slice.ensures.value in
    let half : length c.as_mut_slice.result.now / 2 ≡ c.args.n = omega arith in
    let whole : length c.read_words.new.into ≡ length c.try_extend_from_slice.new.self.items =
    grind (arith, common_steps) in
    take_at c.read_words.new.into _ _ whole ∙ c.read_words.ensures.bytes
    ∙ ap (λ (k : ℕ). bytes_of (words_read k (device c.args.machine.now))) half

pub returns-clause-after : goal.returns-clause-after
returns-clause-after c =
    let was = c.args.machine.now in
    let room : length c.try_extend_from_slice.new.self.items ≡ 2 * c.args.n = grind (arith, common_steps) in
    let lent = ap length c.as_mut_slice.ensures.value in
    let half : length c.as_mut_slice.result.now / 2 ≡ c.args.n = omega arith in
    c.read_words.ensures.after ∙ ap (λ (k : ℕ). with_device (after_words k (device was)) (physical was)) half
