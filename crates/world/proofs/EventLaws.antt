-- One event on a drive that has no monitor: its words and bytes of memory, and what is told of it.
use Rattle.std.proofs.Common.{◌≡◌, ◌+◌, ◌-◌, ◌<◌, ◌≤◌, ◌*◌, ◌++◌, ℕ, suc, List, [], ◌∷◌, length, take, drop, slice_index_or, None, refl, sym, ap, arith, ◌∙◌, append_assoc}
use Rattle.std.specs.List.{flat_map}
use Rattle.std.proofs.Math.Seq.{take-length}
use Rattle.ata_taskfile.specs.Device.{Device, after_write_word}
use Rattle.ata_taskfile.specs.Accesses.{all_answered}
use Rattle.ata_taskfile.specs.declared.Access.TheVariants as access
use Rattle.ata_taskfile.specs.declared.Answer.TheVariants as answer
use Rattle.std.specs.Prelude.{Bool, true, false, if◌then◌else◌, map}
use Rattle.ata_taskfile.specs.declared.Step.{Step}
use Rattle.ata_taskfile.specs.declared.Stepped.TheVariants.{Changed, Nothing}
use Rattle.schedule_text.specs.declared.Event.{Event}
use Rattle.schedule_text.specs.declared.Event.TheVariants as event
use Rattle.schedule_text.specs.declared.Item.{Item}
use Rattle.plain_drive.specs.Plain.{Plain, words_of}
use Rattle.plain_drive.specs.Physical.{Physical, seen}
use Rattle.plain_drive.specs.Step.{acts, stepped_if}
use Rattle.plain_drive.specs.Words.{after_words, after_written}
use Rattle.plain_drive.proofs.Accesses.{words_accessed, written_accessed}
use Rattle.plain_run.specs.Entry.{answer_items}
use Rattle.plain_run.specs.Guest.{answer_due, answer_of, bytes_answered, event_reads, memory_read}
use Rattle.plain_run.specs.Run.{physical_event, plan_due, step_item}
use Rattle.plain_run.proofs.Guest.{words_due, memory_due}
use Rattle.bm_dma.specs.Memory.{byte_at}
use Rattle.world.specs.Machine.{with_device}

-- the bytes of memory that are still to be read, after one of them
pub bytes_left : (place n i byte : ℕ) (memory got more whole : List ℕ) → i < n
    → got ++ memory_read (place + i) (n - i) memory ≡ whole
    → byte ≡ byte_at memory (place + i) → more ≡ got ++ byte ∷ [] → more ++ memory_read (place + (i + 1))
    (n - (i + 1)) memory ≡ whole
bytes_left place n i byte memory got more whole below so_far read one =
    let left : n - i ≡ suc (n - (i + 1)) = omega arith in
    let next : place + i + 1 ≡ place + (i + 1) = omega arith in
    rw (one, read) (simp append_assoc (rw next at (rw left at so_far)))

-- what an event of a drive without a monitor tells before its command is one item at most
pub few_due : (one : Event) (p : Plain) → length (answer_items (answer_due one p) ++ plan_due one p) ≤ 1
few_due (event.Drive s) p = few_planned s (acts s p)
  where
    few_planned : (s : Step) (acting : Bool) → length (if acting then step_item s ∷ [] else []) ≤ 1
    few_planned s true = omega arith
    few_planned s false = omega arith
few_due one p = few_answered (event_reads one p)
  where
    few_answered : (bytes : List ℕ) → length (answer_items (answer_of bytes) ++ []) ≤ 1
    few_answered [] = omega arith
    few_answered (byte ∷ bytes) = omega arith

-- a step that has an effect is told
pub step_told : (s : Step) (effect : Bool) (items : List Item) → Changed ≡ stepped_if effect → items ≡ step_item s ∷ []
    → items ≡ (if effect then step_item s ∷ [] else [])
step_told s true items changed is = is
step_told s false items changed is = cc

-- and one that has none isn't
pub step_untold : (s : Step) (effect : Bool) (items : List Item) → Nothing ≡ stepped_if effect → items ≡ []
    → items ≡ (if effect then step_item s ∷ [] else [])
step_untold s true items nothing is = cc
step_untold s false items nothing is = is

-- an event of many words is as many accesses
pub read_reaches : (n : ℕ) (p : Physical)
    → physical_event (event.ReadWords n) p ≡ with_device (after_words n (seen p).device) p
read_reaches n p = ap (λ d. with_device d p) (words_accessed n (seen p).device)

pub write_reaches : (bytes : List ℕ) (p : Physical)
    → physical_event (event.WriteWords bytes) p ≡ with_device (after_written (words_of bytes) (seen p).device) p
write_reaches bytes p = ap (λ d. with_device d p) (written_accessed (words_of bytes) (seen p).device)

-- and what it writes isn't answered
pub write_silent : (words : List ℕ) (d : Device)
    → all_answered (map (λ w. access.WriteWord w) words) d ≡ map (λ w. answer.Nothing) words
write_silent [] d = refl
write_silent (w ∷ words) d = ap (λ answers. answer.Nothing ∷ answers) (write_silent words (after_write_word w d))

nothing_read : (words : List ℕ) → flat_map bytes_answered (map (λ w. answer.Nothing) words) ≡ []
nothing_read [] = refl
nothing_read (w ∷ words) = nothing_read words

pub write_reads : (bytes : List ℕ) (p : Plain) → event_reads (event.WriteWords bytes) p ≡ []
write_reads bytes p =
    ap (flat_map bytes_answered) (write_silent (words_of bytes) p.device) ∙ nothing_read (words_of bytes)

pub write_due : (bytes : List ℕ) (p : Plain) → answer_due (event.WriteWords bytes) p ≡ None
write_due bytes p = ap answer_of (write_reads bytes p)

-- the first two bytes are a word, and fewer are none
pub one_word : (bytes : List ℕ) (word : ℕ) → 2 ≤ length bytes
    → word ≡ slice_index_or bytes 0 0 + slice_index_or bytes 1 0 * 256
    → words_of bytes ≡ word ∷ words_of (take (length bytes - 2) (drop 2 bytes))
one_word [] word some is = absurd (omega arith)
one_word (low ∷ []) word some is = absurd (omega arith)
one_word (low ∷ high ∷ rest) word some is =
    let same : low + 256 * high ≡ word = omega (arith, is) in
    let many : suc (suc (length rest)) - 2 ≡ length rest = omega arith in
    ap (λ w. w ∷ words_of rest) same
    ∙ ap (λ list. word ∷ words_of list) (sym (ap (λ n. take n rest) many ∙ take-length rest))

pub no_words : (bytes : List ℕ) → length bytes < 2 → words_of bytes ≡ []
no_words [] few = refl
no_words (low ∷ []) few = refl
no_words (low ∷ high ∷ rest) few = absurd (omega arith)

-- the rows of the table of events that don't compute
pub ruleset event_rows = (read_reaches, write_reaches, write_due, words_due, memory_due)
