use Rattle.std.proofs.Common.{◌≡◌, ◌++◌, ℕ, List, [], ◌∷◌, length, suc, ap, ◌∙◌, arith}
use Rattle.ata_taskfile.specs.declared.Taken.TheVariants.{Good}
use Rattle.ata_taskfile.specs.declared.Phase.TheVariants.{Ready}
use Rattle.ata_taskfile.specs.Device.{Device}
use Rattle.plain_drive.specs.Words.{after_written}
use Rattle.plain_drive.specs.Laws.{IsAwaited, IsWritten}
use Rattle.plain_drive.proofs.Words.{written_words}
use Rattle.plain_drive.proofs.a_written_block_is_taken.Goals as goal

taken : (d : Device) (words : List ℕ) → (wanted : IsAwaited d) → length words ≡ 256
    → IsWritten (after_written words d) words wanted.order wanted.done
taken d [] wanted whole = absurd (omega arith)
taken d (w ∷ words) wanted whole =
    let many : 256 ≡ suc (length words) = omega arith in
    let all = written_words words w d wanted.order wanted.done
    (wanted.phase ∙ ap (λ n. Ready (Good wanted.order) wanted.done n) many) wanted.moves in
    record { block = all.block ∙ ap (λ b. b ++ w ∷ words) wanted.empty; phase = all.phase }

pub returns : goal.returns
returns c = taken
