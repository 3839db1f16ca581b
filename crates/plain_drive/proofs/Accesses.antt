-- Words of Data as accesses, one for each word.
use Rattle.std.proofs.Common.{◌≡◌, ℕ, zero, suc, List, [], ◌∷◌, refl, ap}
use Rattle.std.specs.Prelude.{map, replicate}
use Rattle.ata_taskfile.specs.declared.Access.TheVariants as access
use Rattle.ata_taskfile.specs.declared.Answer.TheVariants as answer
use Rattle.ata_taskfile.specs.Device.{Device, word_read, after_read_word, after_write_word}
use Rattle.ata_taskfile.specs.Accesses.{all_accessed, all_answered}
use Rattle.plain_drive.specs.Words.{words_read, after_words, after_written}

-- so many reads of Data answer these words
pub words_answered : (n : ℕ) (d : Device)
    → all_answered (replicate n access.ReadWord) d ≡ map (λ w. answer.Word w) (words_read n d)
unfolding words_read
words_answered zero d = refl
words_answered (suc n) d = ap (λ answers. answer.Word (word_read d) ∷ answers) (words_answered n (after_read_word d))

-- and lead here
pub words_accessed : (n : ℕ) (d : Device) → all_accessed (replicate n access.ReadWord) d ≡ after_words n d
unfolding after_words
words_accessed zero d = refl
words_accessed (suc n) d = words_accessed n (after_read_word d)

-- writes of these words lead here
pub written_accessed : (words : List ℕ) (d : Device)
    → all_accessed (map (λ w. access.WriteWord w) words) d ≡ after_written words d
unfolding after_written
written_accessed [] d = refl
written_accessed (w ∷ words) d = written_accessed words (after_write_word w d)
