-- A block read word by word.
use Rattle.std.proofs.Common.{◌≡◌, ℕ, ◌+◌, ◌-◌, ◌<◌, List, zero, suc, true, get_or, sym, ap, ◌∙◌, arith}
use Rattle.ata_taskfile.specs.declared.Phase.{Phase}
use Rattle.ata_taskfile.specs.Data.{is_given, left_in, word_in, phase_after_read}
use Rattle.ata_taskfile.specs.Device.{Device, with_phase, word_read, after_read_word}
use Rattle.own_pio.specs.Moving.{phase_left, IsGivenWhole}

one_read : (phase : Phase) (n : ℕ) → is_given phase ≡ true
    → phase_after_read (phase_left phase (suc n)) ≡ phase_left phase n
one_read phase zero given = grind arith
one_read phase (suc n) given = grind arith

one_word : (phase : Phase) (n : ℕ) (block : List ℕ) → is_given phase ≡ true
    → word_in (phase_left phase (suc n)) block ≡ get_or block (256 - suc n) 0
one_word phase n block given = grind arith

-- a whole block that waits has all its words left
none_read : (phase : Phase) → is_given phase ≡ true → left_in phase ≡ 256 → phase_left phase 256 ≡ phase
none_read phase given left = grind arith

pub before_words : (d : Device) → IsGivenWhole d → d ≡ with_phase (phase_left d.file.phase 256) d
before_words d whole = ap (λ p. with_phase p d) (sym (none_read d.file.phase whole.given whole.left))

pub device_read : (i : ℕ) (d e : Device) → i < 256 → is_given d.file.phase ≡ true
    → e ≡ with_phase (phase_left d.file.phase (256 - i)) d
    → after_read_word e ≡ with_phase (phase_left d.file.phase (256 - (i + 1))) d
device_read i d e below given is =
    let now : 256 - i ≡ suc (256 - (i + 1)) = omega arith in
    rw (is, now) (ap (λ p. with_phase p d) (one_read d.file.phase (256 - (i + 1)) given))

pub word_is : (i : ℕ) (d e : Device) → i < 256 → is_given d.file.phase ≡ true
    → e ≡ with_phase (phase_left d.file.phase (256 - i)) d
    → word_read e ≡ get_or d.block i 0
word_is i d e below given is =
    let now : 256 - i ≡ suc (256 - (i + 1)) = omega arith in
    let place : 256 - suc (256 - (i + 1)) ≡ i = omega arith in
    rw (is, now) (one_word d.file.phase (256 - (i + 1)) d.block given ∙ ap (λ n. get_or d.block n 0) place)
