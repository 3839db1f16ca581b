-- A block written word by word.
use Rattle.std.proofs.Common.{◌≡◌, ℕ, ◌+◌, ◌*◌, ◌-◌, ◌<◌, ◌≤◌, ◌++◌, List, [], ◌∷◌, length, zero, suc, true, take, drop, get_or, sym, ap, ◌∙◌, length-drop, arith}
use Rattle.std.proofs.lemmas.List.{take_more, get_or-drop}
use Rattle.ata_taskfile.specs.declared.Phase.{Phase}
use Rattle.ata_taskfile.specs.Data.{is_wanted, left_in, phase_after_write, block_after_write}
use Rattle.ata_taskfile.specs.Device.{Device, with_phase, after_write_word}
use Rattle.plain_drive.specs.Plain.{words_of}
use Rattle.plain_drive.proofs.Blocks.{word_at}
use Rattle.own_pio.specs.Moving.{phase_wanted, words_at, IsWantedWhole}

one_written : (phase : Phase) (n : ℕ) → is_wanted phase ≡ true
    → phase_after_write (phase_wanted phase (suc n)) ≡ phase_wanted phase n
one_written phase zero wanted = grind arith
one_written phase (suc n) wanted = grind arith

one_taken : (phase : Phase) (n w : ℕ) (block : List ℕ) → is_wanted phase ≡ true
    → block_after_write w (phase_wanted phase (suc n)) block ≡ block ++ w ∷ []
one_taken phase n w block wanted = grind arith

none_written : (phase : Phase) → is_wanted phase ≡ true → left_in phase ≡ 256 → phase_wanted phase 256 ≡ phase
none_written phase wanted left = grind arith

words_more : (i start w : ℕ) (bytes : List ℕ) → start + 2 * i + 1 < length bytes
    → w ≡ get_or bytes (start + 2 * i) 0 + 256 * get_or bytes (start + 2 * i + 1) 0
    → words_at i start bytes ++ w ∷ [] ≡ words_at (i + 1) start bytes
words_more i start w bytes room is =
    let rest = drop start bytes in
    let many : 2 * i + 1 < length rest = omega (arith, length-drop start bytes) in
    let at = word_at i rest many in
    let low = get_or-drop start bytes (2 * i) 0 in
    let high = get_or-drop start bytes (2 * i + 1) 0 in
    let place : start + (2 * i + 1) ≡ start + 2 * i + 1 = omega arith in
    let same : get_or (words_of rest) i 0 ≡ w = at.1 ∙ rw (low, high, place) (sym is) in
    sym (take_more (words_of rest) i 0 at.0 ∙ ap (λ v. take i (words_of rest) ++ v ∷ []) same)

pub before_written : (start : ℕ) (bytes : List ℕ) (d : Device) → IsWantedWhole d
    → d ≡ with_phase (phase_wanted d.file.phase 256) (record d { block = words_at 0 start bytes })
before_written start bytes d whole =
    let phase = none_written d.file.phase whole.wanted whole.left in
    let none = whole.none in
    ap (λ b. record d { block = b }) none ∙ ap (λ p. with_phase p (record d { block = [] })) (sym phase)

pub device_written : (i start w : ℕ) (bytes : List ℕ) (d e : Device) → i < 256 → start + 512 ≤ length bytes
    → is_wanted d.file.phase ≡ true
    → w ≡ get_or bytes (start + 2 * i) 0 + 256 * get_or bytes (start + 2 * i + 1) 0
    → e ≡ with_phase (phase_wanted d.file.phase (256 - i)) (record d { block = words_at i start bytes })
    → after_write_word w e ≡ with_phase (phase_wanted d.file.phase (256 - (i + 1)))
    (record d { block = words_at (i + 1) start bytes })
device_written i start w bytes d e below room wanted is so_far =
    let n = 256 - (i + 1) in
    let now : 256 - i ≡ suc n = omega arith in
    let phase = one_written d.file.phase n wanted in
    let block = one_taken d.file.phase n w (words_at i start bytes) wanted ∙ words_more i start w bytes
    (omega arith) is in
    rw (so_far, now)
    (ap (λ p. with_phase p (record d {
      block = block_after_write w (phase_wanted d.file.phase (suc n))
          (words_at i start bytes);
    })) phase
    ∙ ap (λ b. with_phase (phase_wanted d.file.phase n) (record d { block = b })) block)
