-- Many words of Data at once are as many accesses.
use Rattle.std.proofs.Common.{◌≡◌, ℕ, ◌+◌, ◌-◌, ◌*◌, ◌≤◌, ◌<◌, List, [], ◌∷◌, ◌++◌, append_assoc, append-nil, length, length-append, length-take, length-drop, ◌/◌, ◌%◌, min, inl, inr, zero, suc, true, false, take, drop, get_or, refl, sym, ap, ◌∙◌, arith, replicate}
use Rattle.std.proofs.Math.Seq.{drop-cons}
use Rattle.std.proofs.lemmas.List.{take-take, drop-take, take_at, drop-replicate}
use Rattle.std.proofs.lemmas.Bool.{cases_lt}
use Rattle.ata_taskfile.specs.declared.task_file.TaskFile.{TaskFile}
use Rattle.ata_taskfile.specs.declared.bus_master.Bus.{Bus}
use Rattle.ata_taskfile.specs.Lawful.{IsLawfulState}
use Rattle.ata_taskfile.specs.declared.Request.{Request}
use Rattle.ata_taskfile.specs.declared.Taken.TheVariants.{Good}
use Rattle.ata_taskfile.specs.declared.Phase.{Phase}
use Rattle.ata_taskfile.specs.declared.Phase.TheVariants.{Busy, Ready}
use Rattle.ata_taskfile.specs.Data.{block_read, word_in, is_given, is_wanted, phase_after_read, gives_words, takes_words, phase_after_write, block_after_write}
use Rattle.ata_taskfile.specs.Device.{Device, with_phase, word_read, after_read_word, after_write_word}
use Rattle.plain_drive.specs.Plain.{words_of}
use Rattle.plain_drive.specs.Words.{words_read, after_words, after_written, bytes_of}
use Rattle.plain_drive.proofs.Blocks.{length_words}
use Rattle.drive_model.specs.Data.{words_given, words_taken}

-- outside a transfer a read leaves the phase
not_given : (phase : Phase) → is_given phase ≡ false → phase_after_read phase ≡ phase
not_given phase e = grind arith

-- and each answers FFFFh
none_read : (n : ℕ) (d : Device) → is_given d.file.phase ≡ false
    → (words_read n d ≡ replicate n 65535) × (after_words n d ≡ d)
unfolding words_read after_words
none_read zero d e = (refl, refl)
none_read (suc n) d e =
    let stays : after_read_word d ≡ d = ap (λ (p : Phase). with_phase p d) (not_given d.file.phase e) in
    let word : word_read d ≡ 65535 = rw e refl in
    let rest = none_read n d e in
    (rw (stays, word, rest.0) refl, rw (stays, rest.1) refl)

-- so many words, and more behind them
read_append : (m n k : ℕ) (d : Device) → k ≡ m + n
    → (words_read k d ≡ words_read m d ++ words_read n (after_words m d))
    × (after_words k d ≡ after_words n (after_words m d))
unfolding words_read after_words
read_append zero n k d e = let same : k ≡ n = omega arith in rw same (refl, refl)
read_append (suc m) n zero d e = absurd (omega arith)
read_append (suc m) n (suc k) d e =
    let rest = read_append m n k (after_read_word d) (omega arith) in
    (ap (λ (ws : List ℕ). word_read d ∷ ws) rest.0, rest.1)

-- the word that is due
word_due : (phase : Phase) (block : List ℕ) (order : Request) (done left : ℕ)
    → phase ≡ Ready (Good order) done left → gives_words order.form ≡ true
    → word_in phase block ≡ get_or block (256 - left) 0
word_due phase block order done left e g = grind arith

-- one word less is left, or the block was read
one_less : (phase : Phase) (order : Request) (done n : ℕ)
    → phase ≡ Ready (Good order) done (suc (suc n)) → gives_words order.form ≡ true
    → phase_after_read phase ≡ Ready (Good order) done (suc n)
one_less phase order done n e g = grind arith

last_read : (phase : Phase) (order : Request) (done : ℕ)
    → phase ≡ Ready (Good order) done 1 → gives_words order.form ≡ true
    → phase_after_read phase ≡ block_read order done
last_read phase order done e g = grind arith

-- what is left of a block, by the next word
next_word : (block : List ℕ) (n : ℕ) → length block ≡ 256 → suc n ≤ 256
    → drop (256 - suc n) block ≡ get_or block (256 - suc n) 0 ∷ drop (256 - n) block
next_word block n whole most =
    let at : 256 - suc n < length block = omega arith in
    let after : suc (256 - suc n) ≡ 256 - n = omega arith in
    drop-cons block (256 - suc n) 0 at ∙ ap (λ i. get_or block (256 - suc n) 0 ∷ drop i block) after

-- as many words as are left at most
pub some_read : (n left : ℕ) (d : Device) (order : Request) (done : ℕ)
    → d.file.phase ≡ Ready (Good order) done left → gives_words order.form ≡ true
    → length d.block ≡ 256 → left ≤ 256 → n ≤ left → 0 < left
    → (words_read n d ≡ take n (drop (256 - left) d.block))
    × (after_words n d ≡ with_phase (words_given order done left n) d)
unfolding words_read after_words
some_read zero zero d order done e g whole most few some = absurd (omega arith)
some_read zero (suc left) d order done e g whole most few some =
    (refl, ap (λ (p : Phase). with_phase p d) (e ∙ grind arith))
some_read (suc n) zero d order done e g whole most few some = absurd (omega arith)
some_read (suc (suc n)) (suc zero) d order done e g whole most few some = absurd (omega arith)
some_read (suc zero) (suc zero) d order done e g whole most few some =
    let word = word_due d.file.phase d.block order done 1 e g in
    let left = next_word d.block 0 whole most in
    (rw (left, word) refl, ap (λ (p : Phase). with_phase p d) (last_read d.file.phase order done e g))
some_read (suc n) (suc (suc m)) d order done e g whole most few some =
    let less = one_less d.file.phase order done m e g in
    let rest = some_read n (suc m) (after_read_word d) order done less g whole (omega arith) (omega arith)
    (omega arith) in
    let word = word_due d.file.phase d.block order done (suc (suc m)) e g in
    let left = next_word d.block (suc m) whole most in
    let phase : words_given order done (suc m) n ≡ words_given order done (suc (suc m)) (suc n) = grind arith in
    (rw (left, word, rest.0) refl, rest.1 ∙ ap (λ (p : Phase). with_phase p d) phase)

-- behind the last word of a block each read answers FFFFh
block_is_read : (order : Request) (done : ℕ) → is_given (block_read order done) ≡ false
block_is_read order done = grind arith

words_over : (n left : ℕ) (d : Device) (order : Request) (done : ℕ)
    → d.file.phase ≡ Ready (Good order) done left → gives_words order.form ≡ true
    → length d.block ≡ 256 → left ≤ 256 → 0 < left → left ≤ n
    → (words_read n d ≡ words_read left d ++ replicate (n - left) 65535)
    × (after_words n d ≡ after_words left d)
words_over n left d order done e g whole most some over =
    let all = some_read left left d order done e g whole most (omega arith) some in
    let read : words_given order done left left ≡ block_read order done = grind arith in
    let at_end : is_given (after_words left d).file.phase ≡ false =
    rw (all.1, read) (block_is_read order done) in
    let none = none_read (n - left) (after_words left d) at_end in
    let both = read_append left (n - left) n d (omega arith) in
    (both.0 ∙ ap (λ (ws : List ℕ). words_read left d ++ ws) none.0, both.1 ∙ none.1)

-- words of FFFFh are bytes of FFh
blank_bytes : (n : ℕ) → bytes_of (replicate n 65535) ≡ replicate (2 * n) 255
blank_bytes zero = refl
blank_bytes (suc n) =
    let two : 2 * suc n ≡ suc (suc (2 * n)) = omega arith in
    rw (two, blank_bytes n) refl

-- so are those that are read outside a transfer
pub blank_read : (n whole : ℕ) (d : Device) → is_given d.file.phase ≡ false → whole ≡ 2 * n
    → (replicate whole 255 ≡ bytes_of (words_read n d)) × (d ≡ after_words n d)
blank_read n whole d e two =
    let none = none_read n d e in
    (ap (λ (k : ℕ). replicate k 255) two ∙ sym (blank_bytes n) ∙ ap bytes_of (sym none.0), sym none.1)

-- the bytes of words and of more
bytes_append : (words more : List ℕ) → bytes_of (words ++ more) ≡ bytes_of words ++ bytes_of more
bytes_append [] more = refl
bytes_append (w ∷ words) more = ap (λ (bs : List ℕ). (w % 256) ∷ (w / 256) ∷ bs) (bytes_append words more)

-- outside a transfer a write changes nothing
not_wanted : (w : ℕ) (phase : Phase) (block : List ℕ) → is_wanted phase ≡ false
    → (phase_after_write phase ≡ phase) × (block_after_write w phase block ≡ block)
not_wanted w phase block e = (grind arith, grind arith)

pub none_written : (words : List ℕ) (d : Device) → is_wanted d.file.phase ≡ false → after_written words d ≡ d
unfolding after_written
none_written [] d e = refl
none_written (w ∷ words) d e =
    let here = not_wanted w d.file.phase d.block e in
    let stays : after_write_word w d ≡ d = rw (here.0, here.1) refl in
    rw stays (none_written words d e)

-- words, and more behind them
written_append : (words more : List ℕ) (d : Device)
    → after_written (words ++ more) d ≡ after_written more (after_written words d)
unfolding after_written
written_append [] more d = refl
written_append (w ∷ words) more d = written_append words more (after_write_word w d)

-- a word is taken behind those that are there
word_taken-block : (phase : Phase) (order : Request) (done left w : ℕ) (block : List ℕ)
    → phase ≡ Ready (Good order) done left → takes_words order.form ≡ true
    → block_after_write w phase block ≡ block ++ w ∷ []
word_taken-block phase order done left w block e takes = grind arith

-- one word less is wanted, or the drive is at work
one_wanted_less : (phase : Phase) (order : Request) (done n : ℕ)
    → phase ≡ Ready (Good order) done (suc (suc n)) → takes_words order.form ≡ true
    → phase_after_write phase ≡ Ready (Good order) done (suc n)
one_wanted_less phase order done n e takes = grind arith

last_wanted : (phase : Phase) (order : Request) (done : ℕ)
    → phase ≡ Ready (Good order) done 1 → takes_words order.form ≡ true
    → phase_after_write phase ≡ Busy (Good order) (done + 1)
last_wanted phase order done e takes = grind arith

-- the device with another phase, and these words behind its block
abbrev pub moved_on : Phase → List ℕ → Device → Device
moved_on phase words d = with_phase phase (record d { block = d.block ++ words })

-- as many words as are wanted at most
pub some_written : (words : List ℕ) (left : ℕ) (d : Device) (order : Request) (done : ℕ)
    → d.file.phase ≡ Ready (Good order) done left → takes_words order.form ≡ true
    → length words ≤ left → 0 < left
    → after_written words d ≡ moved_on (words_taken order done left (length words)) words d
unfolding after_written
some_written [] zero d order done e t few some = absurd (omega arith)
some_written [] (suc left) d order done e t few some =
    let none : d.block ++ [] ≡ d.block = append-nil d.block in
    let phase : d.file.phase ≡ words_taken order done (suc left) 0 = e ∙ grind arith in
    rw (none, ← phase) refl
some_written (w ∷ words) zero d order done e t few some = absurd (omega arith)
some_written (w ∷ v ∷ words) (suc zero) d order done e t few some = absurd (omega arith)
some_written (w ∷ []) (suc zero) d order done e t few some =
    let here = word_taken-block d.file.phase order done 1 w d.block e t in
    let phase = last_wanted d.file.phase order done e t in
    rw (here, phase) refl
some_written (w ∷ words) (suc (suc m)) d order done e t few some =
    let less = one_wanted_less d.file.phase order done m e t in
    let here = word_taken-block d.file.phase order done (suc (suc m)) w d.block e t in
    let rest = some_written words (suc m) (after_write_word w d) order done less t (omega arith) (omega arith) in
    let phase : words_taken order done (suc m) (length words)
    ≡ words_taken order done (suc (suc m)) (suc (length words)) = grind arith in
    let block : block_after_write w d.file.phase d.block ++ words ≡ d.block ++ w ∷ words =
    ap (λ (b : List ℕ). b ++ words) here ∙ append_assoc d.block (w ∷ []) words in
    rest ∙ rw (block, phase) refl

-- behind the last word of a block nothing is taken
written_over : (words more : List ℕ) (d : Device) (order : Request) (done : ℕ)
    → d.file.phase ≡ Ready (Good order) done (length words) → takes_words order.form ≡ true
    → 0 < length words → after_written (words ++ more) d ≡ after_written words d
written_over words more d order done e t some =
    let all = some_written words (length words) d order done e t (omega arith) some in
    let phase : words_taken order done (length words) (length words) ≡ Busy (Good order) (done + 1) = grind arith in
    let at_work : is_wanted (after_written words d).file.phase ≡ false = rw (all, phase) refl in
    written_append words more d ∙ none_written more (after_written words d) at_work

-- the block of a lawful device from which words are left to read, or to which words are wanted
pub given_lawful : (f : TaskFile) (b : Bus) (words n : ℕ) (order : Request) (done left : ℕ)
    → f.phase ≡ Ready (Good order) done left → gives_words order.form ≡ true
    → IsLawfulState f b words n → (words ≡ 256) × (left ≤ 256) × (0 < left)
given_lawful f b words n order done left e gives l = grind arith

pub wanted_lawful : (f : TaskFile) (b : Bus) (words n : ℕ) (order : Request) (done left : ℕ)
    → f.phase ≡ Ready (Good order) done left → takes_words order.form ≡ true
    → IsLawfulState f b words n → (words + left ≡ 256) × (0 < left)
wanted_lawful f b words n order done left e takes l = grind arith

-- the words that are left of a block, as a slice of it
pub left_of_block : (n left first k words : ℕ) (block : List ℕ) → words ≡ 256 → first ≡ 256 - left → left ≤ 256
    → n ≤ left → k ≡ n → take k (drop first block) ≡ take n (drop (256 - left) (take words block))
left_of_block n left first k words block whole is most few same =
    let sum : words ≡ first + left = omega arith in
    rw (same, sum, ← is, drop-take first left block) (sym (take-take n left (drop first block) few))

-- so many words of a block are those that it had and those that came
pub block_taken : (words n : ℕ) (front more rest : List ℕ) → length front ≡ words → length more ≡ n
    → take (words + n) (front ++ (more ++ rest)) ≡ front ++ more
block_taken words n front more rest had came =
    ap (take (words + n)) (sym (append_assoc front more rest))
    ∙ take_at (front ++ more) rest (words + n) (omega (arith, length-append front more))

-- as many words as are asked for, of which no more than are left come out of the block
pub all_read : (n left count whole : ℕ) (d : Device) (order : Request) (done : ℕ)
    → d.file.phase ≡ Ready (Good order) done left → gives_words order.form ≡ true
    → length d.block ≡ 256 → left ≤ 256 → 0 < left → count ≡ min n left → whole ≡ 2 * n
    → (bytes_of (words_read count d) ++ drop (2 * count) (replicate whole 255) ≡ bytes_of (words_read n d))
    × (after_words count d ≡ after_words n d)
all_read n left count whole d order done e g full most some is two = elim (cases_lt left n) [
  | inl over ↦
      let same : count ≡ left = omega arith in
      let rest : whole - 2 * left ≡ 2 * (n - left) = omega arith in
      let more = words_over n left d order done e g full most some (omega arith) in (
        rw (same, drop-replicate {X = ℕ} (2 * left) whole 255, rest, more.0) (sym (bytes_append (words_read left d)
            (replicate (n - left) 65535) ∙ ap (λ (bs : List ℕ). bytes_of (words_read left d) ++ bs)
            (blank_bytes (n - left)))),
        rw same (sym more.1),
      )
  | inr within ↦
      let same : count ≡ n = omega arith in
      let none : whole - 2 * n ≡ 0 = omega arith in
      (rw (same, drop-replicate {X = ℕ} (2 * n) whole 255, none) (append-nil (bytes_of (words_read n d))), rw same refl)
]

-- so many bytes in front, by twos
pub half_front : (count : ℕ) (bytes : List ℕ) → 2 * count ≤ length bytes → length (take (2 * count) bytes) / 2 ≡ count
half_front count bytes fits = let front = length-take (2 * count) bytes in omega arith

-- the words of bytes in front, and of those behind them
words_split : (count : ℕ) (bytes : List ℕ) → 2 * count ≤ length bytes
    → words_of bytes ≡ words_of (take (2 * count) bytes) ++ words_of (drop (2 * count) bytes)
words_split zero bytes fits = refl
words_split (suc n) [] fits = absurd (omega arith)
words_split (suc n) (x ∷ []) fits = absurd (omega arith)
words_split (suc n) (x ∷ y ∷ bytes) fits =
    let two : 2 * suc n ≡ suc (suc (2 * n)) = omega arith in
    rw two (ap (λ (ws : List ℕ). (x + 256 * y) ∷ ws) (words_split n bytes (omega arith)))

-- less than two bytes are no word
words_few : (bytes : List ℕ) → length bytes ≤ 1 → words_of bytes ≡ []
words_few [] few = refl
words_few (x ∷ []) few = refl
words_few (x ∷ y ∷ bytes) few = absurd (omega arith)

-- as many words as come, of which no more than are wanted go into the block
pub all_written : (bytes : List ℕ) (left count : ℕ) (d : Device) (order : Request) (done : ℕ)
    → d.file.phase ≡ Ready (Good order) done left → takes_words order.form ≡ true
    → 0 < left → count ≡ min (length bytes / 2) left
    → after_written (words_of (take (2 * count) bytes)) d ≡ after_written (words_of bytes) d
all_written bytes left count d order done e t some is =
    let front = take (2 * count) bytes in
    let more = drop (2 * count) bytes in
    let fits : 2 * count ≤ length bytes = omega arith in
    let many : length (words_of front) ≡ count =
    length_words count front (omega (arith, length-take (2 * count) bytes)) in
    let split = words_split count bytes fits in
    elim (cases_lt (length bytes / 2) left) [
      | inl within ↦
          let none : words_of more ≡ [] = words_few more (omega (arith, length-drop (2 * count) bytes)) in
          ap (λ (ws : List ℕ). after_written ws d)
          (sym (append-nil (words_of front)) ∙ ap (λ (ws : List ℕ). words_of front ++ ws) (sym none) ∙ sym split)
      | inr over ↦
          let all : length (words_of front) ≡ left = omega arith in
          sym (ap (λ (ws : List ℕ). after_written ws d) split
          ∙ written_over (words_of front) (words_of more) d order done (rw all e) t (omega arith))
    ]
