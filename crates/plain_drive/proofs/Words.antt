-- The words of a block: those read from Data and written to it, and those of IDENTIFY DEVICE.
use Rattle.std.proofs.Common.{◌≡◌, ℕ, ◌+◌, ◌-◌, ◌≤◌, ◌<◌, List, [], ◌∷◌, ◌++◌, append_assoc, length, zero, suc, true, drop, get_or, refl, sym, ap, ◌∙◌, arith, length-append}
use Rattle.std.proofs.Math.ListN.{drop_of_length-le}
use Rattle.std.proofs.Math.Seq.{drop-cons}
use Rattle.ata_taskfile.specs.declared.Request.{Request}
use Rattle.ata_taskfile.specs.declared.Taken.TheVariants.{Good}
use Rattle.ata_taskfile.specs.declared.Phase.{Phase}
use Rattle.ata_taskfile.specs.declared.Phase.TheVariants.{Busy, Ready}
use Rattle.ata_taskfile.specs.Data.{word_in, phase_after_read, gives_words, takes_words, phase_after_write, block_after_write}
use Rattle.ata_taskfile.specs.Device.{Device, after_read_word, after_write_word}
use Rattle.plain_drive.specs.Words.{words_read, after_written}
use Rattle.plain_drive.specs.Identify.{identity_front, identity_word}
use Rattle.plain_drive.specs.Laws.{IsWritten}

-- the word that is due
word_due : (phase : Phase) (block : List ℕ) (order : Request) (done left : ℕ)
    → phase ≡ Ready (Good order) done left → gives_words order.form ≡ true
    → word_in phase block ≡ get_or block (256 - left) 0
word_due phase block order done left e g = grind arith

-- one word less is left, while there are more
one_less : (phase : Phase) (order : Request) (done n : ℕ)
    → phase ≡ Ready (Good order) done (suc (suc n)) → gives_words order.form ≡ true
    → phase_after_read phase ≡ Ready (Good order) done (suc n)
one_less phase order done n e g = grind arith

-- what is left of a block, by the next word
next_word : (block : List ℕ) (n : ℕ) → length block ≡ 256 → suc n ≤ 256
    → drop (256 - suc n) block ≡ get_or block (256 - suc n) 0 ∷ drop (256 - n) block
next_word block n whole most =
    let at : 256 - suc n < length block = omega arith in
    let after : suc (256 - suc n) ≡ 256 - n = omega arith in
    drop-cons block (256 - suc n) 0 at ∙ ap (λ i. get_or block (256 - suc n) 0 ∷ drop i block) after

-- the words read are what is left of the block
pub read_words : (n : ℕ) (d : Device) (order : Request) (done : ℕ)
    → d.file.phase ≡ Ready (Good order) done n → gives_words order.form ≡ true
    → length d.block ≡ 256 → n ≤ 256 → words_read n d ≡ drop (256 - n) d.block
unfolding words_read
read_words zero d order done e g whole most =
    let all : length d.block ≤ 256 = omega arith in sym (drop_of_length-le d.block all)
read_words (suc zero) d order done e g whole most =
    let all : length d.block ≤ 256 = omega arith in
    let word = word_due d.file.phase d.block order done 1 e g in
    let left = next_word d.block 0 whole most in
    let none = drop_of_length-le d.block all in cc
read_words (suc (suc n)) d order done e g whole most =
    let less = one_less d.file.phase order done n e g in
    let rest = read_words (suc n) (after_read_word d) order done less g whole (omega arith) in
    let word = word_due d.file.phase d.block order done (suc (suc n)) e g in
    let left = next_word d.block (suc n) whole most in cc

-- a word is taken behind those that are there
word_taken-block : (phase : Phase) (order : Request) (done left w : ℕ) (block : List ℕ)
    → phase ≡ Ready (Good order) done left → takes_words order.form ≡ true
    → block_after_write w phase block ≡ block ++ w ∷ []
word_taken-block phase order done left w block e takes = grind arith

-- one word less is wanted, while there are more
one_wanted_less : (phase : Phase) (order : Request) (done n : ℕ)
    → phase ≡ Ready (Good order) done (suc (suc n)) → takes_words order.form ≡ true
    → phase_after_write phase ≡ Ready (Good order) done (suc n)
one_wanted_less phase order done n e takes = grind arith

-- after the last word the drive is at work
last_wanted : (phase : Phase) (order : Request) (done : ℕ)
    → phase ≡ Ready (Good order) done 1 → takes_words order.form ≡ true
    → phase_after_write phase ≡ Busy (Good order) (done + 1)
last_wanted phase order done e takes = grind arith

-- the words written come behind the block, and end it
pub written_words : (words : List ℕ) (w : ℕ) (d : Device) (order : Request) (done : ℕ)
    → d.file.phase ≡ Ready (Good order) done (suc (length words)) → takes_words order.form ≡ true
    → IsWritten (after_written (w ∷ words) d) (d.block ++ w ∷ words) order done
unfolding after_written
written_words [] w d order done e takes =
    record {
      block = word_taken-block d.file.phase order done 1 w d.block e takes;
      phase =
          last_wanted d.file.phase order done e takes;
    }
written_words (v ∷ words) w d order done e takes =
    let less = one_wanted_less d.file.phase order done (length words) e takes in
    let here = word_taken-block d.file.phase order done (suc (suc (length words))) w d.block e takes in
    let rest = written_words words v (after_write_word w d) order done less takes in
    record {
      block = rest.block ∙ ap (λ b. b ++ v ∷ words) here ∙ append_assoc d.block (w ∷ []) (v ∷ words);
      phase =
          rest.phase;
    }

-- so many words of IDENTIFY DEVICE
pub identity-length : (n sectors : ℕ) → length (identity_front n sectors) ≡ n
unfolding identity_front
identity-length zero sectors = refl
identity-length (suc n) sectors =
    let front = identity-length n sectors in
    let all = length-append (identity_front n sectors) (identity_word n sectors ∷ []) in omega arith
