-- What a guest reads and writes, word by word and byte by byte.
use Rattle.std.proofs.Common.{◌≡◌, ◌≤◌, ◌%◌, ◌/◌, ℕ, zero, suc, List, [], ◌∷◌, Some, refl, ap, ◌∙◌, arith}
use Rattle.std.specs.Prelude.{map, replicate}
use Rattle.std.specs.List.{flat_map}
use Rattle.ata_taskfile.specs.declared.Access.TheVariants as access
use Rattle.ata_taskfile.specs.declared.Answer.TheVariants as answer
use Rattle.ata_taskfile.specs.Device.{Device}
use Rattle.plain_drive.specs.Plain.{Plain}
use Rattle.plain_drive.specs.Words.{words_read, bytes_of}
use Rattle.plain_drive.proofs.Accesses.{words_answered}
use Rattle.schedule_text.specs.declared.Event.TheVariants as event
use Rattle.plain_run.specs.Guest.{answer_due, answer_of, bytes_answered, bytes_read, memory_read}

-- words that are answered, in bytes
word_bytes : (words : List ℕ) → flat_map bytes_answered (map (λ w. answer.Word w) words) ≡ bytes_of words
word_bytes [] = refl
word_bytes (w ∷ words) = ap (λ bytes. (w % 256) ∷ (w / 256) ∷ bytes) (word_bytes words)

-- so many reads of Data answer their words' bytes
pub words_in_bytes : (n : ℕ) (d : Device) → bytes_read (replicate n access.ReadWord) d ≡ bytes_of (words_read n d)
words_in_bytes n d = ap (flat_map bytes_answered) (words_answered n d) ∙ word_bytes (words_read n d)

-- where a word is read or a byte, there is an answer
pub words_due : (n : ℕ) (p : Plain) → 1 ≤ n
    → answer_due (event.ReadWords n) p ≡ Some (bytes_of (words_read n p.device))
unfolding words_read
words_due zero p some = absurd (omega arith)
words_due (suc n) p some = ap answer_of (words_in_bytes (suc n) p.device)

pub memory_due : (address n : ℕ) (p : Plain) → 1 ≤ n
    → answer_due (event.ReadMemory address n) p ≡ Some (memory_read address n p.memory)
memory_due address zero p some = absurd (omega arith)
memory_due address (suc n) p some = refl
