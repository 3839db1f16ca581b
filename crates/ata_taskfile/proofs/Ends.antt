-- The ways in which a step ends leave a lawful device lawful.
use Rattle.std.proofs.Common.{◌≡◌, ℕ, true, false, ◌+◌, ◌<◌, refl, arith}
use Rattle.ata_taskfile.specs.declared.Phase.{Phase}
use Rattle.ata_taskfile.specs.declared.Phase.TheVariants.{Reset, Busy, Ready}
use Rattle.ata_taskfile.specs.declared.Request.{Request}
use Rattle.ata_taskfile.specs.declared.Taken.TheVariants.{Good}
use Rattle.ata_taskfile.specs.declared.Refused.{Refused}
use Rattle.ata_taskfile.specs.declared.task_file.TaskFile.{TaskFile}
use Rattle.ata_taskfile.specs.declared.bus_master.Bus.{Bus}
use Rattle.ata_taskfile.specs.TaskFile.{holds_reset, refusal_bit, reset_ended, refused, ended_failed, interrupted_in}
use Rattle.ata_taskfile.specs.Data.{gives_words, takes_words, word_given, word_taken}
use Rattle.ata_taskfile.specs.Device.{is_moving, bus_in_reset}
use Rattle.ata_taskfile.specs.Lawful.{has_order, IsLawfulState}

-- a walk that a reset ends
pub bus_in_reset_lawful : (now : Phase) (f : TaskFile) (b : Bus) (words n : ℕ) → IsLawfulState f b words n
    → IsLawfulState f (bus_in_reset now b) words n
bus_in_reset_lawful now f b words n l = grind arith

-- a reset that ends
pub reset_ended_lawful : (f : TaskFile) (b : Bus) (words n : ℕ) → f.phase ≡ Reset → holds_reset f ≡ false
    → IsLawfulState f b words n → IsLawfulState (reset_ended f) b words n
reset_ended_lawful f b words n e free l = grind arith

-- a command that fails, and had no walk to itself
failed_lawful : (error : ℕ) (f : TaskFile) (b : Bus) (words n : ℕ) → has_order f.phase ≡ true
    → is_moving f.phase ≡ false → IsLawfulState f b words n → IsLawfulState (ended_failed error f) b words n
failed_lawful error f b words n in_hand still l = grind arith

-- a refused command that ends
pub refused_lawful : (reason : Refused) (f : TaskFile) (b : Bus) (words n : ℕ) → has_order f.phase ≡ true
    → is_moving f.phase ≡ false
    → IsLawfulState f b words n → IsLawfulState (refused reason f) b words n
refused_lawful reason f b words n in_hand still l = failed_lawful (refusal_bit reason) f b words
    n in_hand still l

-- the sector that is due of a block that is read
pub is_due : (f : TaskFile) (b : Bus) (words n : ℕ) (order : Request) (done : ℕ) → f.phase ≡ Busy (Good order) done
    → gives_words order.form ≡ true
    → IsLawfulState f b words n → order.first + done < n
is_due f b words n order done e gives l = grind arith

-- a block that waits in Data
pub waiting_block_lawful : (f : TaskFile) (b : Bus) (words n : ℕ) (order : Request) (done : ℕ)
    → f.phase ≡ Busy (Good order) done → gives_words order.form ≡ true
    → IsLawfulState f b words n → IsLawfulState (interrupted_in (Ready (Good order) done 256) f) b 256 n
waiting_block_lawful f b words n order done e gives l = grind arith

-- a word that is given
pub word_given_lawful : (f : TaskFile) (b : Bus) (words n : ℕ) (order : Request) (done left : ℕ)
    → f.phase ≡ Ready (Good order) done left
    → gives_words order.form ≡ true → IsLawfulState f b words n
    → IsLawfulState (record f { phase = word_given order done left }) b words n
word_given_lawful f b words n order done left e gives l = grind arith

-- a block that is given is whole
pub given_block_whole : (f : TaskFile) (b : Bus) (words n : ℕ) (order : Request) (done left : ℕ)
    → f.phase ≡ Ready (Good order) done left
    → gives_words order.form ≡ true → IsLawfulState f b words n → words ≡ 256
given_block_whole f b words n order done left e gives l = grind arith

-- a word that is taken
pub word_taken_lawful : (f : TaskFile) (b : Bus) (words n : ℕ) (order : Request) (done left : ℕ)
    → f.phase ≡ Ready (Good order) done left
    → takes_words order.form ≡ true → IsLawfulState f b words n
    → IsLawfulState (record f { phase = word_taken order done left }) b (words + 1) n
word_taken_lawful f b words n order done left e takes l = grind arith

-- there is room for a word that is wanted
pub room_for_word : (f : TaskFile) (b : Bus) (words n : ℕ) (order : Request) (done left : ℕ)
    → f.phase ≡ Ready (Good order) done left
    → takes_words order.form ≡ true → IsLawfulState f b words n → words < 256
room_for_word f b words n order done left e takes l = grind arith
