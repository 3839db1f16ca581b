-- A block that goes through Data.
use Rattle.std.specs.Prelude.{◌≡◌, ℕ, ◌+◌, true, zero, suc, length, take, drop, List, [], ◌∷◌}
use Rattle.ata_taskfile.specs.declared.Taken.TheVariants.{Good, Bad}
use Rattle.ata_taskfile.specs.declared.Phase.{Phase}
use Rattle.ata_taskfile.specs.declared.Phase.TheVariants.{Reset, Idle, Busy, Ready}
use Rattle.ata_taskfile.specs.declared.registers.TheConstants.{BLOCK_WORDS}
use Rattle.ata_taskfile.specs.Data.{is_given, is_wanted, left_in, block_read}
use Rattle.ata_taskfile.specs.Device.{Device}
use Rattle.plain_drive.specs.Plain.{words_of}

-- a whole block waits in Data
pub record IsGivenWhole (d : Device) : Type 0 where
  pub given : is_given d.file.phase ≡ true
  pub left : left_in d.file.phase ≡ BLOCK_WORDS
  pub whole : length d.block ≡ BLOCK_WORDS

-- a whole block is wanted in Data
pub record IsWantedWhole (d : Device) : Type 0 where
  pub wanted : is_wanted d.file.phase ≡ true
  pub left : left_in d.file.phase ≡ BLOCK_WORDS
  pub none : d.block ≡ []

-- the phase when so many words of a block are left to be read; with none left the block was read
abbrev pub phase_left : Phase → ℕ → Phase
phase_left Reset n = Reset
phase_left Idle n = Idle
phase_left (Busy taken done) n = Busy taken done
phase_left (Ready (Bad reason) done left) n = Ready (Bad reason) done left
phase_left (Ready (Good order) done left) zero = block_read order done
phase_left (Ready (Good order) done left) (suc n) = Ready (Good order) done (suc n)

-- bytes with others put over them from a place on
abbrev pub put_over : ℕ → List ℕ → List ℕ → List ℕ
put_over n xs [] = []
put_over zero [] (y ∷ ys) = y ∷ ys
put_over zero (x ∷ xs) (y ∷ ys) = x ∷ put_over zero xs ys
put_over (suc n) xs (y ∷ ys) = y ∷ put_over n xs ys

-- the phase when so many words of a block are still wanted; with none left the drive is at work on the block
abbrev pub phase_wanted : Phase → ℕ → Phase
phase_wanted Reset n = Reset
phase_wanted Idle n = Idle
phase_wanted (Busy taken done) n = Busy taken done
phase_wanted (Ready (Bad reason) done left) n = Ready (Bad reason) done left
phase_wanted (Ready (Good order) done left) zero = Busy (Good order) (done + 1)
phase_wanted (Ready (Good order) done left) (suc n) = Ready (Good order) done (suc n)

-- so many words of the bytes from a place on
abbrev pub words_at : ℕ → ℕ → List ℕ → List ℕ
words_at n start bytes = take n (words_of (drop start bytes))
